-- Code that the kind check takes leads from the kinds before to those after, in the words of any kinding.
use Rattle.std.proofs.Common.{◌≡◌, true, List, [], ◌∷◌, Some}
use Rattle.std.proofs.Common.{refl, sym, ap, subst, ◌∙◌, inl}
use Rattle.core_code.specs.CallFacts.{is_right_call}
use Rattle.core_code.specs.Core.{Core, Method}
use Rattle.core_code.specs.KindCheck.{and_then, kinds_after, same_stack, where_true}
use Rattle.core_code.specs.Kinds.{StackKind, joined_stack}
use Rattle.core_code.specs.Tree.{Tree, Op, Skip, Seq, Choice, Loop, Sync, Operation, steps_of}
use Rattle.core_code.proofs.Membership.{In, in_left, in_right}
use Rattle.core_code.proofs.KindLemmas.{equal_stacks, joined_more, went_on, where-is, AreJoined, IsWhere}
use Rattle.core_semantics.specs.declared.object.Value.{Value}
use Rattle.core_semantics_kinds.specs.Kinding.{IsWeaker, Leads}
use Rattle.core_semantics_kinds.specs.ObjectKinds.{AreValues, object_kinds}
use Rattle.core_semantics_kinds.specs.Reached.{Roots}
use Rattle.core_semantics_kinds.proofs.KindValues.{value-left, value-right}

-- each call of code passes what is taken
abbrev pub HasRight : Core → Tree → Type 0
HasRight core code = (o : Operation) → In (steps_of code) o → is_right_call core o.op ≡ true

-- ---- where two ways meet

module _ (core : Core) (roots : Roots) where
  joined-first : (left right joined : List StackKind) (xs : List Value) → joined_stack left right ≡ Some joined →
      AreValues core roots left xs → AreValues core roots joined xs
  joined-first [] [] joined xs is h =
      let same : [] ≡ joined = cc in subst (λ (a : List StackKind). AreValues core roots a xs) same h
  joined-first [] (b ∷ right) joined xs is h = cc
  joined-first (a ∷ left) [] joined xs is h = cc
  joined-first (a ∷ left) (b ∷ right) joined [] is h = absurd h
  joined-first (a ∷ left) (b ∷ right) joined (x ∷ xs) is h =
      let more : AreJoined a b left right joined = joined_more a b left right joined is in
      subst (λ (ks : List StackKind). AreValues core roots ks (x ∷ xs)) more.is
      (value-left core roots a b x h.0, joined-first left right more.rest xs more.below h.1)

  joined-second : (left right joined : List StackKind) (xs : List Value) → joined_stack left right ≡ Some joined →
      AreValues core roots right xs → AreValues core roots joined xs
  joined-second [] [] joined xs is h =
      let same : [] ≡ joined = cc in subst (λ (a : List StackKind). AreValues core roots a xs) same h
  joined-second [] (b ∷ right) joined xs is h = cc
  joined-second (a ∷ left) [] joined xs is h = cc
  joined-second (a ∷ left) (b ∷ right) joined [] is h = absurd h
  joined-second (a ∷ left) (b ∷ right) joined (x ∷ xs) is h =
      let more : AreJoined a b left right joined = joined_more a b left right joined is in
      subst (λ (ks : List StackKind). AreValues core roots ks (x ∷ xs)) more.is
      (value-right core roots a b x h.0, joined-second left right more.rest xs more.below h.1)

  -- ---- code

  abbrev Weaker : Method → List StackKind → List StackKind → Type 0
  Weaker method ks ls = IsWeaker core (object_kinds core roots) method ks ls

  itself : (method : Method) (ks : List StackKind) → Weaker method ks ks
  itself method ks = record { so = λ vars stack h. h }

  weaker-first : (method : Method) (left right joined : List StackKind) → joined_stack left right ≡ Some joined →
      Weaker method left joined
  weaker-first method left right joined is =
      record {
        so = λ vars stack h. record { vars = h.vars; stack = joined-first left right joined stack is h.stack };
      }

  weaker-second : (method : Method) (left right joined : List StackKind) → joined_stack left right ≡ Some joined →
      Weaker method right joined
  weaker-second method left right joined is =
      record {
        so = λ vars stack h. record { vars = h.vars; stack = joined-second left right joined stack is h.stack };
      }

  pub leads : (method : Method) (code : Tree) (ks ends : List StackKind) → kinds_after core method code ks ≡ Some ends →
      HasRight core code → Leads core (object_kinds core roots) method code ks ends
  leads method (Op site place op) ks ends h right =
      record { kinded = h; right = right (record { site = site; place = place; op = op }) (inl refl) }
  leads method Skip ks ends h right = cc
  leads method (Seq first rest) ks ends h right =
      let two = went_on (kinds_after core method first ks) (kinds_after core method rest) ends h in
      record {
        between = two.0;
        first =
            leads method first ks two.0 two.1 (λ o stands. right o (in_left (steps_of first) (steps_of rest) o stands));
        rest =
            leads method rest two.0 ends two.2
            (λ o stands. right o (in_right (steps_of first) (steps_of rest) o stands));
      }
  leads method (Choice left other) ks ends h right =
      let a = went_on (kinds_after core method left ks)
      (λ x. and_then (kinds_after core method other ks) (λ y. joined_stack x y)) ends h in
      let b = went_on (kinds_after core method other ks) (λ y. joined_stack a.0 y) ends a.2 in
      record {
        left = a.0;
        goes_left =
            leads method left ks a.0 a.1 (λ o stands. right o (in_left (steps_of left) (steps_of other) o stands));
        from_left = weaker-first method a.0 b.0 ends b.2;
        right = b.0;
        goes_right =
            leads method other ks b.0 b.1 (λ o stands. right o (in_right (steps_of left) (steps_of other) o stands));
        from_right = weaker-second method a.0 b.0 ends b.2;
      }
  leads method (Loop body) ks ends h right =
      let on = went_on (kinds_after core method body ks) (λ after. where_true (same_stack ks after) ks) ends h in
      let t : IsWhere (same_stack ks on.0) ks ends = where-is (same_stack ks on.0) ks ends on.2 in
      let same : ks ≡ on.0 = equal_stacks ks on.0 t.holds in
      record {
        again = ks;
        into = itself method ks;
        after = ks;
        body = leads method body ks ks (on.1 ∙ ap Some (sym same)) right;
        back = itself method ks;
        out = subst (λ (a : List StackKind). Weaker method ks a) t.same (itself method ks);
      }
  leads method (Sync lock body) [] ends h right = absurd cc
  leads method (Sync lock body) (k ∷ ks) ends h right =
      record { under = ks; pops = record { lock = k; is = refl }; body = leads method body ks ends h right }
