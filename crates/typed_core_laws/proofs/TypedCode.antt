-- Code in which nothing fails leads from the kinds before it to those behind it, in the words of a kinding.
use Rattle.std.proofs.Common.{◌≡◌, ℕ, ◌-◌, Bool, true, false, cond, ◌||◌, inl, List, [], ◌∷◌, Option, None, Some}
use Rattle.std.proofs.Common.{⊎_elim, length, refl, sym, subst, ◌∙◌}
use Rattle.std.specs.Prelude.{option_and_then, option_map}
use Rattle.racer_base.specs.declared.ids.ClassId.{ClassId}
use Rattle.racer_base.specs.declared.ids.Place.{Place}
use Rattle.core_code.specs.declared.code.Op.{Op as CoreOp}
use Rattle.core_code.specs.declared.code.Op.TheVariants.{Push, PushClass, PushPrim, PushNull, New, Dup, Drop, Get, Put}
use Rattle.core_code.specs.declared.code.Op.TheVariants.{Set, Prim, Outside, Call, Unread, Ret, Throw}
use Rattle.core_code.specs.CallFacts.{is_right_call}
use Rattle.core_code.specs.Core.{Core, Method}
use Rattle.core_code.specs.Facts.{height_after}
use Rattle.core_code.specs.Tree.{Tree, Op, Skip, Seq, Choice, Loop, Sync, Operation, steps_of}
use Rattle.core_code.proofs.Membership.{In, in_append, in_left, in_right}
use Rattle.core_semantics_kinds.specs.Kinding.{IsCode, IsWeaker, Leads}
use Rattle.core_semantics_kinds.specs.Reached.{Roots}
use Rattle.transfer_loops.proofs.Heights.{either_heights, held_heights, loop_heights, then_heights}
use Rattle.typed_core.specs.declared.doubts.Doubt.{Doubt}
use Rattle.typed_core.specs.declared.doubts.Doubt.TheVariants.{Always, IfRead}
use Rattle.typed_core.specs.declared.states.KindState.{KindState}
use Rattle.typed_core.specs.Check.{check, round_next, rounds_of, settled}
use Rattle.typed_core.specs.Needs.{is_lockable, is_met, is_refused, is_unmet, kinds_behind, lock_doubts, makes, op_doubts}
use Rattle.typed_core.specs.Resuming.{BelowState}
use Rattle.typed_core.specs.States.{joined_next, joined_state, popped, start_of}
use Rattle.typed_core.specs.Typings.{place_failing, reads_field_of}
use Rattle.typed_core.proofs.Ends.{none-end}
use Rattle.typed_core.proofs.Settling.{rounds-above, settled-closed, state-above, state-above-other}
use Rattle.typed_core.proofs.Sizes.{IsSized, check-sized, sized_pop, sized_rounds}
use Rattle.typed_core_laws.specs.TypedValues.{IsAfter, IsAllowed, IsUnder, is_reached, is_read}
use Rattle.typed_core_laws.specs.TypedValues.{typed_kinds}
use Rattle.typed_core_laws.proofs.TypedPlaces.{held-below}

-- ---- what is known of the code of a method that is reached

-- none of these fails
abbrev pub DoNotFail : Core → ClassId → List Doubt → Type 0
DoNotFail core class doubts = (d : Doubt) → In doubts d → place_failing (is_read core class) d ≡ []

-- what it reads is counted as read, and what it calls is reached
abbrev pub IsCounted : Core → ClassId → CoreOp → Type 0
IsCounted core class (Get f) = (c : ClassId) → reads_field_of core c (Get f) ≡ true → is_read core class c ≡ true
IsCounted core class (Call m n) = (is_reached core class m ≡ true) × (is_right_call core (Call m n) ≡ true)
IsCounted core class op = Unit {0}

abbrev pub AreCounted : Core → ClassId → Tree → Type 0
AreCounted core class code = (o : Operation) → In (steps_of code) o → IsCounted core class o.op

module _ (core : Core) (roots : Roots) (class : ClassId) (method : Method) where
  -- ---- operations and locks

  neither : (a b : Bool) → (a || b) ≡ false → (a ≡ false) × (b ≡ false)
  neither true b e = absurd cc
  neither false b e = (refl, e)

  abbrev DoNotFailWith : Place → List Doubt → Bool → Type 0
  DoNotFailWith place others b = DoNotFail core class (cond b (Always place ∷ []) others)

  not-always : (place : Place) (others : List Doubt) (b : Bool) → DoNotFailWith place others b →
      (b ≡ false) × DoNotFail core class others
  not-always place others true h =
      absurd (let wrong : place ∷ [] ≡ [] = h (Always place) (inl refl) in cc)
  not-always place others false h = (refl, h)

  not-read : (c : ClassId) (place : Place) → DoNotFail core class (IfRead c place ∷ []) → is_read core class c ≡ false
  not-read c place h =
      (elim (is_read core class c) as (λ b. cond b (place ∷ []) [] ≡ [] → b ≡ false) [
        | true ↦ λ e. absurd cc
        | false ↦ λ e. refl
      ]) (h (IfRead c place) (inl refl))

  allowed : (place : Place) (op : CoreOp) → is_refused core op ≡ false → DoNotFail core class (makes op place) →
      IsCounted core class op → IsAllowed core class op
  allowed place (New c) refused made counted = not-read c place made
  allowed place (Get f) refused made counted = counted
  allowed place (Call m n) refused made counted = (counted.0, counted.1, refused)
  allowed place (Unread m n) refused made counted = absurd cc
  allowed place (Push v) refused made counted = tt
  allowed place (PushClass c) refused made counted = tt
  allowed place PushPrim refused made counted = tt
  allowed place PushNull refused made counted = tt
  allowed place Dup refused made counted = tt
  allowed place Drop refused made counted = tt
  allowed place (Put f) refused made counted = tt
  allowed place (Set v) refused made counted = tt
  allowed place (Prim n) refused made counted = tt
  allowed place (Outside n) refused made counted = tt
  allowed place Ret refused made counted = tt
  allowed place Throw refused made counted = tt

  is-after : (place : Place) (op : CoreOp) (before : Option KindState) →
      DoNotFail core class (op_doubts core method place op before) → IsCounted core class op →
      IsAfter core class method op before (option_and_then (kinds_behind core op) before)
  is-after place op before fails counted =
      let some =
      not-always place (makes op place) (is_refused core op || is_unmet (is_met core method op) before) fails in
      let both = neither (is_refused core op) (is_unmet (is_met core method op) before) some.0 in
      record { next = refl; met = both.1; allowed = allowed place op both.0 some.1 counted }

  is-under : (place : Place) (before : Option KindState) → DoNotFail core class (lock_doubts place before) →
      IsUnder before (option_map (λ s. popped s 1) before)
  is-under place before fails =
      record { next = refl; met = (not-always place [] (is_unmet is_lockable before) fails).0 }

  -- ---- weaker kinds

  abbrev Weaker : Option KindState → Option KindState → Type 0
  Weaker a b = IsWeaker core (typed_kinds core roots class) method a b

  itself : (a : Option KindState) → Weaker a a
  itself a = record { so = λ vars stack h. h }

  none-weaker : (b : Option KindState) → Weaker None b
  none-weaker b = record { so = λ vars stack h. absurd h }

  some-weaker : (s t : KindState) → BelowState s t → Weaker (Some s) (Some t)
  some-weaker s t low = record { so = λ vars stack h. held-below core roots class s t vars stack low h }

  -- of so many variables and slots, where there are kinds
  abbrev AreSized : ℕ → ℕ → Option KindState → Type 0
  AreSized v h a = (s : KindState) → a ≡ Some s → IsSized v h s

  left-weaker : (v h : ℕ) (a b : Option KindState) → AreSized v h a → AreSized v h b → Weaker a (joined_next a b)
  left-weaker v h None b p q = none-weaker b
  left-weaker v h (Some s) None p q = itself (Some s)
  left-weaker v h (Some s) (Some t) p q =
      some-weaker s (joined_state s t) (state-above v h s t (p s refl) (q t refl))

  right-weaker : (v h : ℕ) (a b : Option KindState) → AreSized v h a → AreSized v h b → Weaker b (joined_next a b)
  right-weaker v h None b p q = itself b
  right-weaker v h (Some s) None p q = none-weaker (Some s)
  right-weaker v h (Some s) (Some t) p q =
      some-weaker t (joined_state s t) (state-above-other v h s t (p s refl) (q t refl))

  round-weaker : (v h : ℕ) (s : KindState) (o : Option KindState) → IsSized v h s → AreSized v h o →
      round_next s o ≡ s → Weaker o (Some s)
  round-weaker v h s None p q closed = none-weaker (Some s)
  round-weaker v h s (Some t) p q closed =
      some-weaker t s (subst (λ (x : KindState). BelowState t x) closed (state-above-other v h s t p (q t refl)))

  behind-sized : (code : Tree) (v h k : ℕ) (a : Option KindState) → height_after code h ≡ Some k → AreSized v h a →
      AreSized v k (check core method code a).next
  behind-sized code v h k None e p t is =
      absurd (let wrong : None ≡ Some t = sym (none-end core method code) ∙ is in cc)
  behind-sized code v h k (Some s) e p t is = check-sized core method code v h k s t e (p s refl) is

  under-sized : (v h : ℕ) (a : Option KindState) → AreSized v h a →
      AreSized v (h - 1) (option_map (λ s. popped s 1) a)
  under-sized v h None p t is = absurd cc
  under-sized v h (Some s) p t is = sized_pop v h (h - 1) 1 s t (p s refl) refl is

  -- ---- code

  pub leads : (code : Tree) (v h k : ℕ) (a : Option KindState) → height_after code h ≡ Some k → AreSized v h a →
      DoNotFail core class (check core method code a).doubts → AreCounted core class code →
      Leads core (typed_kinds core roots class) method code a (check core method code a).next
  leads (Op site place op) v h k a e p fails counted =
      is-after place op a fails (counted (record { site = site; place = place; op = op }) (inl refl))
  leads Skip v h k a e p fails counted = refl
  leads (Seq first rest) v h k a e p fails counted =
      let at = then_heights first rest h k e in
      let one = check core method first a in
      let two = check core method rest one.next in
      record {
        between = one.next;
        first =
            leads first v h at.0 a at.1 p (λ d there. fails d (in_left one.doubts two.doubts d there))
            (λ o there. counted o (in_left (steps_of first) (steps_of rest) o there));
        rest =
            leads rest v at.0 k one.next at.2 (behind-sized first v h at.0 a at.1 p)
            (λ d there. fails d (in_right one.doubts two.doubts d there))
            (λ o there. counted o (in_right (steps_of first) (steps_of rest) o there));
      }
  leads (Choice left right) v h k a e p fails counted =
      let at = either_heights left right h k e in
      let one = check core method left a in
      let two = check core method right a in
      let sized_left = behind-sized left v h k a at.0 p in
      let sized_right = behind-sized right v h k a at.1 p in
      record {
        left = one.next;
        goes_left =
            leads left v h k a at.0 p (λ d there. fails d (in_left one.doubts two.doubts d there))
            (λ o there. counted o (in_left (steps_of left) (steps_of right) o there));
        from_left = left-weaker v k one.next two.next sized_left sized_right;
        right = two.next;
        goes_right =
            leads right v h k a at.1 p (λ d there. fails d (in_right one.doubts two.doubts d there))
            (λ o there. counted o (in_right (steps_of left) (steps_of right) o there));
        from_right = right-weaker v k one.next two.next sized_left sized_right;
      }
  leads (Loop body) v h k None e p fails counted =
      let at = loop_heights body h k e in
      record {
        again = None;
        into = itself None;
        after = (check core method body None).next;
        body = leads body v h h None at.1 p fails counted;
        back = subst (λ (o : Option KindState). Weaker o None) (sym (none-end core method body)) (itself None);
        out = none-weaker (check core method body None).next;
      }
  leads (Loop body) v h k (Some s) e p fails counted =
      let at = loop_heights body h k e in
      let f : KindState → Option KindState = λ t. (check core method body (Some t)).next in
      let keep : (x y : KindState) → IsSized v h x → f x ≡ Some y → IsSized v h y =
      λ x y q i. check-sized core method body v h h x y at.1 q i in
      let last : KindState = settled f s in
      let sized : IsSized v h last = sized_rounds f v h keep (rounds_of s) s (p s refl) in
      record {
        again = Some last;
        into = some-weaker s last (rounds-above f v h keep (rounds_of s) s (p s refl));
        after = f last;
        body = leads body v h h (Some last) at.1
            (λ x is. let same : last ≡ x = cc in subst (IsSized v h) same sized) fails counted;
        back = round-weaker v h last (f last) sized (λ t is. keep last t sized is)
            (settled-closed f v h keep s (p s refl));
        out = itself (Some last);
      }
  leads (Sync lock body) v h k a e p fails counted =
      let under : Option KindState = option_map (λ s. popped s 1) a in
      let one = check core method body under in
      record {
        under = under;
        pops = is-under lock.place a (λ d there. fails d (in_left (lock_doubts lock.place a) one.doubts d there));
        body =
            leads body v (h - 1) k under (held_heights lock body h k e) (under-sized v h a p)
            (λ d there. fails d (in_right (lock_doubts lock.place a) one.doubts d there)) counted;
      }

  -- each operation of such code is allowed
  pub allows : (code : Tree) (a b : Option KindState) → Leads core (typed_kinds core roots class) method code a b →
      (o : Operation) → In (steps_of code) o → IsAllowed core class o.op
  allows (Op site place op) a b h o there =
      ⊎_elim
      (λ (same : record { site = site; place = place; op = op } ≡ o).
      subst (λ (x : Operation). IsAllowed core class x.op) same h.allowed)
      (λ none. absurd none) there
  allows Skip a b h o there = absurd there
  allows (Seq first rest) a b h o there =
      ⊎_elim (λ early. allows first a h.between h.first o early) (λ late. allows rest h.between b h.rest o late)
      (in_append (steps_of first) (steps_of rest) o there)
  allows (Choice left right) a b h o there =
      ⊎_elim (λ early. allows left a h.left h.goes_left o early) (λ late. allows right a h.right h.goes_right o late)
      (in_append (steps_of left) (steps_of right) o there)
  allows (Loop body) a b h o there = allows body h.again h.after h.body o there
  allows (Sync lock body) a b h o there = allows body h.under b h.body o there

  -- the code of a method
  pub is-code : (k : ℕ) → height_after method.code 0 ≡ Some k →
      DoNotFail core class (check core method method.code (Some (start_of method))).doubts →
      AreCounted core class method.code → IsCode core (typed_kinds core roots class) method
  is-code k e fails counted =
      record {
        ends = (check core method method.code (Some (start_of method))).next;
        leads =
            leads method.code (length (start_of method).vars) 0 k (Some (start_of method)) e
            (λ s is. let same : start_of method ≡ s = cc in
            subst (IsSized (length (start_of method).vars) 0) same (record { vars = refl; stack = refl })) fails counted;
      }
