-- A method of a newer program that is as it was in an older one has its outcome, by names.
use Rattle.std.proofs.Common.{◌≡◌, ℕ, Bool, true, false, cond, ◌&&◌, List, [], ◌∷◌, Option, None, Some}
use Rattle.std.proofs.Common.{is_none, option_map, refl, sym, ap, subst, ◌∙◌}
use Rattle.std.proofs.lemmas.Bool.{and_from, and_parts, false≢true, ltb-true}
use Rattle.std.specs.Cmp.Lexicographic.{pointwise}
use Rattle.std.specs.List.{list_all}
use Rattle.racer_base.specs.declared.ids.MethodId.{MethodId}
use Rattle.core_code.specs.Calls.{calls_in, calls_of, is_analysed, method_at, rank_of}
use Rattle.core_code.specs.CallFacts.{has_ranks}
use Rattle.core_code.specs.Core.{Core, Method}
use Rattle.access_domain.specs.declared.summary.Outcome.{Outcome}
use Rattle.access_domain.specs.Findings.{Table, outcome_from}
use Rattle.access_domain.specs.FlowContext.{given_of}
use Rattle.access_domain.specs.Operations.{Effects}
use Rattle.access_domain.specs.Flow.{flow}
use Rattle.access_domain.specs.Records.{same_flag}
use Rattle.access_domain.specs.Summaries.{effects_given, known_given, known_of, known_of_callees, outcome_of, start_of}
use Rattle.access_domain.proofs.KnownMethods.{callee_known, known_there}
use Rattle.transfer_ties.specs.Again.{is_as_before}
use Rattle.transfer_ties.specs.Forms.{same_code, same_form, same_kinds, ties_forms}
use Rattle.transfer_ties.specs.Outcomes.{same_outcome, ties_outcomes}
use Rattle.transfer_ties.specs.Partners.{AreOneToOne}
use Rattle.transfer_ties.specs.Ties.{both, same_signature, ties_kinds}
use Rattle.transfer.proofs.LowerCalls.{calls_lower, is_lower}
use Rattle.transfer.proofs.NumberedOutcomes.{HavePartners, outcome-same}
use Rattle.transfer.proofs.OneToOne.{both_given}
use Rattle.transfer.proofs.PartnerNumbers.{class-partner, class-tied, field-partner, field-tied, partners}
use Rattle.transfer.proofs.Renumbering.{Renumbering, state_by}
use Rattle.transfer.proofs.RenumberedFlow.{flow-agree-by, outcome-agree-by, outcome_by}
use Rattle.transfer.proofs.RenumberedParts.{AgreeBy}
use Rattle.transfer.proofs.RenumberedSteps.{AreAlike}
use Rattle.transfer.proofs.TiedContexts.{known-tied, same-field, start-by, static-tied}
use Rattle.transfer.proofs.TiedOutcomes.{TakePartners, same_flags}

-- what is the same of two methods of one form
record AreOfOneForm (p q : Core) (a b : Method) : Type 0 where
  parameters : same_kinds p q a.parameters b.parameters ≡ true
  variables : same_kinds p q a.variables b.variables ≡ true
  static : b.is_static ≡ a.is_static
  main : b.main ≡ a.main
  code : same_code p q a.code b.code ≡ true

form_parts : (p q : Core) (a b : Method) → same_form p q a b ≡ true → AreOfOneForm p q a b
form_parts p q a b e =
    let signature = same_signature p q a b in
    let parameters = same_kinds p q a.parameters b.parameters in
    let result = ties_kinds p q a.result b.result in
    let variables = same_kinds p q a.variables b.variables in
    let static = same_flag a.is_static b.is_static in
    let main = same_flag a.main b.main in
    let seventh =
    and_parts (signature && parameters && result && variables && static && main) (same_code p q a.code b.code) e in
    let sixth = and_parts (signature && parameters && result && variables && static) main seventh.0 in
    let fifth = and_parts (signature && parameters && result && variables) static sixth.0 in
    let fourth = and_parts (signature && parameters && result) variables fifth.0 in
    let third = and_parts (signature && parameters) result fourth.0 in
    record {
      parameters = (and_parts signature parameters third.0).1;
      variables = fourth.1;
      static = same_flags a.is_static b.is_static fifth.1;
      main = same_flags a.main b.main sixth.1;
      code = seventh.1;
    }

-- ---- callees

-- two calls at one place have one outcome, and both are of methods of smaller ranks
abbrev are_tied_calls : Core → Core → MethodId → MethodId → MethodId → MethodId → Bool
are_tied_calls p q m n c d = ties_outcomes p q c d && (is_lower p m c && is_lower q n d)

tied_calls : (p q : Core) (m n : MethodId) (cs ds : List MethodId) → pointwise (ties_outcomes p q) cs ds ≡ true →
    list_all (is_lower p m) cs ≡ true → list_all (is_lower q n) ds ≡ true →
    pointwise (are_tied_calls p q m n) cs ds ≡ true
tied_calls p q m n [] [] e h k = refl
tied_calls p q m n (c ∷ cs) (d ∷ ds) e h k =
    let tie = and_parts (ties_outcomes p q c d) (pointwise (ties_outcomes p q) cs ds) e in
    let old = and_parts (is_lower p m c) (list_all (is_lower p m) cs) h in
    let new = and_parts (is_lower q n d) (list_all (is_lower q n) ds) k in
    and_from (are_tied_calls p q m n c d) (pointwise (are_tied_calls p q m n) cs ds)
    (and_from (ties_outcomes p q c d) (is_lower p m c && is_lower q n d) tie.0
    (and_from (is_lower p m c) (is_lower q n d) old.0 new.0))
    (tied_calls p q m n cs ds tie.1 old.1 new.1)
tied_calls p q m n _ _ e h k = absurd (false≢true e)

-- ---- outcomes of two methods of one form

module _ (r : Renumbering) (p q : Core) (take : TakePartners r p q) (m n : MethodId) where
  abbrev old : Table
  old = known_of_callees p m

  abbrev new : Table
  new = known_of_callees q n

  are_alike : (main : Bool) → AreAlike r p q old new main (are_tied_calls p q m n)
  are_alike main =
      record {
        classes = take.class;
        fields = take.field;
        same = same-field r p q take old new main;
        static = static-tied p q;
        known = λ c d e.
            let parts = and_parts (ties_outcomes p q c d) (is_lower p m c && is_lower q n d) e in
            let lower = and_parts (is_lower p m c) (is_lower q n d) parts.1 in
            let before : old c ≡ known_of p c =
            callee_known p m c (ltb-true (rank_of p c) (rank_of p m) lower.0) in
            let behind : new d ≡ known_of q d =
            callee_known q n d (ltb-true (rank_of q d) (rank_of q n) lower.1) in
            known-tied r p q take old new main (old c) (new d)
            ((λ i. both (same_outcome p q) (option_map outcome_from (before i)) (option_map outcome_from (behind i)))
            ∙ parts.0);
      }

  effects-agree : (a b : Method) → AreOfOneForm p q a b →
      pointwise (are_tied_calls p q m n) (calls_in a.code) (calls_in b.code) ≡ true →
      AgreeBy r (effects_given q new b) (effects_given p old a)
  effects-agree a b form called =
      let from : AgreeBy r (flow (given_of q new a.main) b.code false (state_by r (start_of a)))
      (effects_given p old a) =
      flow-agree-by r p q old new a.main (are_tied_calls p q m n) (are_alike a.main) a.code b.code false (start_of a)
      form.code called in
      subst (λ (e : Effects). AgreeBy r e (effects_given p old a))
      (λ i.
      flow (given_of q new (sym form.main i)) b.code false
      (sym (start-by r p q a b form.static form.parameters form.variables) i))
      from

  outcome-by : (a b : Method) → AreOfOneForm p q a b →
      pointwise (are_tied_calls p q m n) (calls_in a.code) (calls_in b.code) ≡ true →
      outcome_from (known_given q new b) ≡ outcome_by r (outcome_from (known_given p old a))
  outcome-by a b form called =
      outcome-agree-by r (effects_given q new b) (effects_given p old a) (effects-agree a b form called)

-- ---- methods by their numbers

abbrev analysed_at : Option Method → Bool
analysed_at o = elim o as (λ _. Bool) [ None ↦ false | Some method ↦ is_none method.status ]

abbrev calls_at : Option Method → List MethodId
calls_at o = elim o as (λ _. List MethodId) [ None ↦ [] | Some method ↦ calls_in method.code ]

outcome_there : (core : Core) (m : MethodId) (method : Method) → method_at core m ≡ Some method →
    is_none method.status ≡ true →
    outcome_of core m ≡ Some (outcome_from (known_given core (known_of_callees core m) method))
outcome_there core m method there analysed =
    ap (option_map outcome_from) (known_there core m method there)
    ∙ ap (λ (b : Bool). option_map outcome_from
    (cond b (Some (known_given core (known_of_callees core m) method)) None)) analysed

module _ (p q : Core) (one : AreOneToOne p q) (ranks : has_ranks p ≡ true) (more : has_ranks q ≡ true) where
  takes : (odd : ℕ) → TakePartners (partners p q one odd) p q
  takes odd = record { class = class-partner p q one odd; field = field-partner p q one odd }

  have : HavePartners (partners p q one 0) (partners p q one 1) p q
  have = record { class = class-tied p q one; field = field-tied p q one }

  methods-tied : (m n : MethodId) (a b : Method) → method_at p m ≡ Some a → method_at q n ≡ Some b →
      is_none a.status ≡ true → is_none b.status ≡ true → AreOfOneForm p q a b →
      pointwise (ties_outcomes p q) (calls_in a.code) (calls_in b.code) ≡ true → ties_outcomes p q m n ≡ true
  methods-tied m n a b there here analysed done form called =
      let calls =
      tied_calls p q m n (calls_in a.code) (calls_in b.code) called (calls_lower p m a ranks there analysed)
      (calls_lower q n b more here done) in
      let old : Outcome = outcome_from (known_given p (known_of_callees p m) a) in
      let even = outcome-by (partners p q one 0) p q (takes 0) m n a b form calls in
      let odd = outcome-by (partners p q one 1) p q (takes 1) m n a b form calls in
      (λ i. both (same_outcome p q) (outcome_there p m a there analysed i) (outcome_there q n b here done i))
      ∙ ap (same_outcome p q old) even
      ∙ outcome-same (partners p q one 0) (partners p q one 1) p q have old old (sym even ∙ odd)

  pub as_before-tied : (m n : MethodId) → is_as_before p q m n ≡ true → ties_outcomes p q m n ≡ true
  as_before-tied m n e =
      let calls = pointwise (ties_outcomes p q) (calls_of p m) (calls_of q n) in
      let third = and_parts (is_analysed p m && is_analysed q n && ties_forms p q m n) calls e in
      let second = and_parts (is_analysed p m && is_analysed q n) (ties_forms p q m n) third.0 in
      let first = and_parts (is_analysed p m) (is_analysed q n) second.0 in
      let tie = both_given (same_form p q) (method_at p m) (method_at q n) second.1 in
      let called : pointwise (ties_outcomes p q) (calls_in tie.old.code) (calls_in tie.new.code) ≡ true =
      (λ i. pointwise (ties_outcomes p q) (calls_at (sym tie.is_old i)) (calls_at (sym tie.is_new i))) ∙ third.1 in
      methods-tied m n tie.old tie.new tie.is_old tie.is_new (ap analysed_at (sym tie.is_old) ∙ first.0)
      (ap analysed_at (sym tie.is_new) ∙ first.1) (form_parts p q tie.old tie.new tie.same) called
