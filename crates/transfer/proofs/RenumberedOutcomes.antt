-- An outcome is the same by names as just one: the old one with the numbers of the partners.
use Rattle.std.proofs.Common.{◌≡◌, ℕ, Bool, true, false, List, [], ◌∷◌, Option, None, Some, MatchOption, map}
use Rattle.std.proofs.Common.{option_and_then, option_map, refl, sym, ap, ◌∙◌}
use Rattle.std.proofs.lemmas.Bool.{and_parts, eqb-true, false≢true}
use Rattle.std.proofs.lemmas.Option.{MatchOption-at_some, none-some}
use Rattle.std.specs.Cmp.Lexicographic.{pointwise}
use Rattle.std.specs.FinSet as set
use Rattle.std.specs.List.{list_all, list_any}
use Rattle.racer_base.proofs.Lists.{same_given}
use Rattle.racer_base.specs.declared.ids.ClassId.{ClassId}
use Rattle.racer_base.specs.declared.ids.FieldId.{FieldId}
use Rattle.racer_base.specs.declared.ids.MethodId.{MethodId}
use Rattle.access_paths.specs.declared.path.Root.{Root}
use Rattle.access_paths.specs.declared.path.Root.TheVariants.{This, Class, Formal, Some as SomeOf}
use Rattle.access_paths.specs.declared.path.Path.{Path}
use Rattle.owner_domain.specs.declared.value.Value.{Value}
use Rattle.owner_domain.specs.declared.value.Value.TheVariants.{Owned, Named, Unnamed}
use Rattle.core_code.specs.Core.{Core}
use Rattle.core_code.proofs.Members.{passing}
use Rattle.access_domain.specs.declared.access.Access.{Access}
use Rattle.access_domain.specs.declared.summary.Summary.{Summary}
use Rattle.access_domain.specs.declared.summary.Outcome.{Outcome}
use Rattle.access_domain.specs.declared.summary.Outcome.TheVariants as code
use Rattle.access_domain.specs.Summaries.{outcome_of}
use Rattle.transfer_ties.specs.declared.partners.Ties.{Ties}
use Rattle.transfer_ties.specs.Outcomes.{same_outcome, same_record, same_summary, ties_outcomes, ties_paths}
use Rattle.transfer_ties.specs.Outcomes.{ties_roots, ties_values}
use Rattle.transfer_ties.specs.Partners.{AreApart, AreTies, access_in, accesses_in, all_given, class_in, field_in}
use Rattle.transfer_ties.specs.Partners.{fields_in, path_in, path_of, paths_in, renumbered, root_in, summary_in}
use Rattle.transfer_ties.specs.Partners.{summary_of, value_in}
use Rattle.transfer_ties.specs.Ties.{ties_classes, ties_fields}
use Rattle.transfer.proofs.OneToOne.{both_given}
use Rattle.transfer.proofs.PartnerNumbers.{class-partner, field-partner, partners}
use Rattle.transfer.proofs.Renumbering.{Renumbering, path_by}
use Rattle.transfer.proofs.RenumberedFlow.{paths_by}
use Rattle.transfer.proofs.TiedOutcomes.{AreSameRecords, AreSameSummaries, TakePartners, path-tied, paths-tied}
use Rattle.transfer.proofs.TiedOutcomes.{same_record_parts, same_summary_parts}

-- the partner of a number is the one that is known
partner : {X : Type 0} (o : Option X) (same : X → Bool) (x : X) →
    MatchOption o ((y : X) → same y ≡ false) (λ y. same y ≡ true) → same x ≡ true →
    ((y : X) → same y ≡ true → y ≡ x) → o ≡ Some x
partner None same x is e one = absurd (false≢true (sym (is x) ∙ e))
partner (Some y) same x is e one = ap (λ z. Some z) (one y is)

given_more : {X : Type 0} (o : Option X) (os : List (Option X)) (x : X) (xs : List X) → o ≡ Some x →
    all_given os ≡ Some xs → all_given (o ∷ os) ≡ Some (x ∷ xs)
given_more {X} o os x xs e h = λ i. option_and_then (λ (y : X). option_map (λ (ys : List X). y ∷ ys) (h i)) (e i)

module _ (p q : Core) (ties : Ties) (are : AreTies p q ties) where
  class-given : (c d : ClassId) → ties_classes p q c d ≡ true → class_in ties c ≡ Some d
  class-given c d e =
      partner (class_in ties c) (ties_classes p q c) d (are.classes c) e
      (λ x h. are.one_to_one.classes c x d h e)

  field-given : (f g : FieldId) → ties_fields p q f g ≡ true → field_in ties f ≡ Some g
  field-given f g e =
      partner (field_in ties f) (ties_fields p q f) g (are.fields f) e (λ x h. are.one_to_one.fields f x g h e)

  root-given : (a b : Root) → ties_roots p q a b ≡ true → root_in ties a ≡ Some b
  root-given This This e = refl
  root-given (Class c) (Class d) e = ap (option_map Class) (class-given c d e)
  root-given (Formal i) (Formal j) e = ap (λ (x : ℕ). Some (Formal x)) (eqb-true i j e)
  root-given (SomeOf c) (SomeOf d) e = ap (option_map SomeOf) (class-given c d e)
  root-given _ _ e = absurd (false≢true e)

  fields-given : (fs gs : List FieldId) → pointwise (ties_fields p q) fs gs ≡ true → fields_in ties fs ≡ Some gs
  fields-given [] [] e = refl
  fields-given (f ∷ fs) (g ∷ gs) e =
      let parts = and_parts (ties_fields p q f g) (pointwise (ties_fields p q) fs gs) e in
      given_more (field_in ties f) (map (field_in ties) fs) g gs (field-given f g parts.0)
      (fields-given fs gs parts.1)
  fields-given _ _ e = absurd (false≢true e)

  path-given : (a b : Path) → ties_paths p q a b ≡ true → path_in ties a ≡ Some b
  path-given a b e =
      let parts = and_parts (ties_roots p q a.root b.root) (pointwise (ties_fields p q) a.fields b.fields) e in
      (λ i.
      option_and_then (λ (root : Root). option_map (path_of root) (fields-given a.fields b.fields parts.1 i))
      (root-given a.root b.root parts.0 i))

  value-given : (v w : Value) → ties_values p q v w ≡ true → value_in ties v ≡ Some w
  value-given Owned Owned e = refl
  value-given Unnamed Unnamed e = refl
  value-given (Named a) (Named b) e = ap (option_map Named) (path-given a b e)
  value-given _ _ e = absurd (false≢true e)

  -- a record with another path
  abbrev at_path : Access → Path → Access
  at_path a path = record a { path = path }

  access-given : (a b : Access) → same_record p q a b ≡ true → access_in ties a ≡ Some b
  access-given a b e =
      let parts : AreSameRecords p q a b = same_record_parts p q a b e in
      ap (option_map (at_path a)) (path-given a.path b.path parts.path)
      ∙ (λ i. Some (record {
        path = b.path;
        kind = parts.kind i;
        locked = parts.locked i;
        main = parts.main i;
        site = parts.site i;
        below = parts.below i;
      }))

  accesses-given : (xs ys : List Access) → pointwise (same_record p q) xs ys ≡ true → accesses_in ties xs ≡ Some ys
  accesses-given [] [] e = refl
  accesses-given (x ∷ xs) (y ∷ ys) e =
      let parts = and_parts (same_record p q x y) (pointwise (same_record p q) xs ys) e in
      given_more (access_in ties x) (map (access_in ties) xs) y ys (access-given x y parts.0)
      (accesses-given xs ys parts.1)
  accesses-given _ _ e = absurd (false≢true e)

  abbrev numbers : Renumbering
  numbers = partners p q are.one_to_one 0

  takes : TakePartners numbers p q
  takes = record { class = class-partner p q are.one_to_one 0; field = field-partner p q are.one_to_one 0 }

  paths-given : (ps qs : List Path) → list_all (λ a. list_any (ties_paths p q a) qs) ps ≡ true →
      paths_in ties ps ≡ Some (map (path_by numbers) ps)
  paths-given [] qs e = refl
  paths-given (a ∷ ps) qs e =
      let parts = and_parts (list_any (ties_paths p q a) qs) (list_all (λ x. list_any (ties_paths p q x) qs) ps) e in
      let one = passing (ties_paths p q a) qs parts.0 in
      given_more (path_in ties a) (map (path_in ties) ps) (path_by numbers a) (map (path_by numbers) ps)
      (path-given a one.0 one.2 ∙ ap (λ (x : Path). Some x) (sym (path-tied numbers p q takes a one.0 one.2)))
      (paths-given ps qs parts.1)

  summary-given : (s t : Summary) → same_summary p q s t ≡ true → summary_in ties s ≡ Some t
  summary-given s t e =
      let parts : AreSameSummaries p q s t = same_summary_parts p q s t e in
      let all =
      (and_parts (list_all (λ a. list_any (ties_paths p q a) (set.items t.wobbly)) (set.items s.wobbly))
      (list_all (λ b. list_any (λ a. ties_paths p q a b) (set.items s.wobbly)) (set.items t.wobbly)) parts.wobbly).0 in
      let paths = paths-given (set.items s.wobbly) (set.items t.wobbly) all in
      let same : paths_by numbers s.wobbly ≡ t.wobbly = paths-tied numbers p q takes s.wobbly t.wobbly parts.wobbly in
      (λ i.
      option_and_then (λ (accesses : List Access). option_and_then (λ (wobbly : List Path).
      option_map (summary_of accesses wobbly) (value-given s.result t.result parts.result i)) (paths i))
      (accesses-given s.accesses t.accesses parts.accesses i))
      ∙ (λ i. Some (record { accesses = t.accesses; wobbly = same i; result = t.result }))

  pub outcome-given : (a b : Outcome) → same_outcome p q a b ≡ true → renumbered ties a ≡ Some b
  outcome-given code.Large code.Large e = refl
  outcome-given (code.Summary s) (code.Summary t) e = ap (option_map code.Summary) (summary-given s t e)
  outcome-given _ _ e = absurd (false≢true e)

  pub outcome-kept : (m n : MethodId) (a : Outcome) → ties_outcomes p q m n ≡ true → outcome_of p m ≡ Some a →
      renumbered ties a ≡ outcome_of q n
  outcome-kept m n a e is =
      let tie = both_given (same_outcome p q) (outcome_of p m) (outcome_of q n) e in
      ap (renumbered ties) (same_given a tie.old (outcome_of p m) is tie.is_old)
      ∙ outcome-given tie.old tie.new tie.same ∙ sym tie.is_new

  -- nothing has no partner
  pub outcome-there : (m n : MethodId) (a : Outcome) → ties_outcomes p q m n ≡ true → outcome_of p m ≡ Some a →
      renumbered ties a ≡ None → ⊥
  outcome-there m n a e is none =
      let tie = both_given (same_outcome p q) (outcome_of p m) (outcome_of q n) e in
      let kept : renumbered ties a ≡ Some tie.new = outcome-kept m n a e is ∙ tie.is_new in
      none-some tie.new (sym none ∙ kept)

  one_there : {X : Type 0} (o : Option X) (same : X → Bool) (x : X) →
      MatchOption o ((y : X) → same y ≡ false) (λ y. same y ≡ true) → o ≡ Some x → same x ≡ true
  one_there {X} o same x is e =
      MatchOption-at_some ((y : X) → same y ≡ false) (λ y. same y ≡ true) x e is

  -- no two have one partner
  pub are_apart : AreApart ties
  are_apart =
      record {
        classes = λ c d e h k.
            are.one_to_one.olds c d e (one_there (class_in ties c) (ties_classes p q c) e (are.classes c) h)
            (one_there (class_in ties d) (ties_classes p q d) e (are.classes d) k);
        fields = λ f g e h k.
            are.one_to_one.old_fields f g e (one_there (field_in ties f) (ties_fields p q f) e (are.fields f) h)
            (one_there (field_in ties g) (ties_fields p q g) e (are.fields g) k);
      }
