-- What the flows of two methods of one form are given: the same of fields and of callees, and the same state at their
-- entries.
use Rattle.std.proofs.Common.{◌≡◌, ℕ, zero, suc, ◌-◌, Bool, true, cond, List, [], ◌∷◌, ◌++◌, Option}
use Rattle.std.proofs.Common.{None, Some, arith, length, map, option_map, replicate, slice_get, refl, sym, ap, ◌∙◌}
use Rattle.std.proofs.lemmas.Bool.{and_parts, false≢true}
use Rattle.std.proofs.lemmas.List.{length-map, map-append}
use Rattle.std.proofs.lemmas.Option.{get_or_from_slice_get}
use Rattle.std.specs.Cmp.Lexicographic.{pointwise}
use Rattle.racer_base.specs.declared.ids.FieldId.{FieldId}
use Rattle.racer_base.specs.declared.ids.Kind.{Kind}
use Rattle.racer_base.specs.declared.ids.Kind.TheVariants.{Plain, Declared, Other}
use Rattle.racer_base.specs.declared.ids.MethodId.{MethodId}
use Rattle.access_paths.specs.declared.path.Root.TheVariants.{This, Formal}
use Rattle.access_paths.specs.Paths.{alone, last_of}
use Rattle.owner_domain.specs.declared.value.Value.{Value}
use Rattle.owner_domain.specs.declared.value.Value.TheVariants.{Owned, Named, Unnamed}
use Rattle.core_code.specs.declared.parts.FieldCore.{FieldCore}
use Rattle.core_code.specs.Calls.{method_at}
use Rattle.core_code.specs.Core.{Core, Method}
use Rattle.access_domain.specs.declared.access.Access.{Access}
use Rattle.access_domain.specs.declared.summary.Outcome.{Outcome}
use Rattle.access_domain.specs.Findings.{Known, Large, Whole, Table, outcome_from, summary_from}
use Rattle.access_domain.specs.FlowContext.{field_at, given_of, is_plain, is_static_method}
use Rattle.access_domain.specs.Records.{same_flag}
use Rattle.access_domain.specs.Summaries.{parameter_value, parameter_values, passed_values, start_of}
use Rattle.transfer_ties.specs.Forms.{same_kinds}
use Rattle.transfer_ties.specs.Outcomes.{same_outcome, same_record, ties_roots}
use Rattle.transfer_ties.specs.Ties.{both, same_callee, same_signature, ties_callees, ties_fields, ties_kinds}
use Rattle.transfer.proofs.OneToOne.{AreSameFields, both_given, field_tie, same_fields_parts}
use Rattle.transfer.proofs.Renumbering.{Renumbering, either-by, state_by, value_by}
use Rattle.transfer.proofs.RenumberedCalls.{HaveSameFields, IsSameField, IsSameLast}
use Rattle.transfer.proofs.RenumberedFlow.{outcome_from-by}
use Rattle.transfer.proofs.RenumberedSteps.{HaveKnownFields, IsKnownBy}
use Rattle.transfer.proofs.TiedOutcomes.{AreSameRecords, AreSameSummaries, TakePartners, outcome-tied, same_flags}
use Rattle.transfer.proofs.TiedOutcomes.{same_record_parts, same_summary_parts}

-- ---- what the flow is given

kind-tied : (p q : Core) (a b : Kind) → ties_kinds p q a b ≡ true → is_plain b ≡ is_plain a
kind-tied p q Plain Plain e = refl
kind-tied p q Other Other e = refl
kind-tied p q (Declared c) (Declared d) e = refl
kind-tied p q _ _ e = absurd (false≢true e)

field_is : (core : Core) (f : FieldId) (a : FieldCore) → slice_get core.fields f.0 ≡ Some a → field_at core f ≡ a
field_is core f a e = get_or_from_slice_get core.fields f.0 a _ e

abbrev is_static_at : Option Method → Bool
is_static_at o = elim o as (λ _. Bool) [ None ↦ true | Some method ↦ method.is_static ]

pub static-tied : (p q : Core) (m n : MethodId) → ties_callees p q m n ≡ true →
    is_static_method q n ≡ is_static_method p m
static-tied p q m n e =
    let tie = both_given (same_callee p q) (method_at p m) (method_at q n) e in
    let flags =
    (and_parts (same_signature p q tie.old tie.new) (same_flag tie.old.is_static tie.new.is_static) tie.same).1 in
    ap is_static_at tie.is_new ∙ same_flags tie.old.is_static tie.new.is_static flags ∙ sym (ap is_static_at tie.is_old)

module _ (r : Renumbering) (p q : Core) (take : TakePartners r p q) (t u : Table) (main : Bool) where
  pub same-field : (f g : FieldId) → ties_fields p q f g ≡ true →
      IsSameField r (given_of p t main) (given_of q u main) f
  same-field f g e =
      let tie = field_tie p q f g e in
      let parts : AreSameFields p q tie.old tie.new = same_fields_parts p q tie.old tie.new tie.same in
      let old : field_at p f ≡ tie.old = field_is p f tie.old tie.is_old in
      let new : field_at q (r.field f) ≡ tie.new =
      ap (field_at q) (take.field f g e) ∙ field_is q g tie.new tie.is_new in
      record {
        class =
            ap (λ (x : FieldCore). x.class) new ∙ sym (take.class tie.old.class tie.new.class parts.class)
            ∙ ap (λ (x : FieldCore). r.class x.class) (sym old);
        recorded =
            ap (λ (x : FieldCore). x.recorded) new ∙ same_flags tie.old.recorded tie.new.recorded parts.recorded
            ∙ ap (λ (x : FieldCore). x.recorded) (sym old);
        plain =
            ap (λ (x : FieldCore). is_plain x.kind) new ∙ kind-tied p q tie.old.kind tie.new.kind parts.kind
            ∙ ap (λ (x : FieldCore). is_plain x.kind) (sym old);
      }

  last-field : (fs gs : List FieldId) → pointwise (ties_fields p q) fs gs ≡ true →
      IsSameLast r (given_of p t main) (given_of q u main) (last_of fs)
  last-field [] gs e = tt
  last-field (f ∷ []) (g ∷ gs) e =
      same-field f g (and_parts (ties_fields p q f g) (pointwise (ties_fields p q) [] gs) e).0
  last-field (f ∷ x ∷ fs) (g ∷ gs) e =
      last-field (x ∷ fs) gs (and_parts (ties_fields p q f g) (pointwise (ties_fields p q) (x ∷ fs) gs) e).1
  last-field (f ∷ fs) [] e = absurd (false≢true e)

  record-fields : (xs ys : List Access) → pointwise (same_record p q) xs ys ≡ true →
      HaveSameFields r (given_of p t main) (given_of q u main) xs
  record-fields [] ys e = tt
  record-fields (x ∷ xs) (y ∷ ys) e =
      let parts = and_parts (same_record p q x y) (pointwise (same_record p q) xs ys) e in
      let one : AreSameRecords p q x y = same_record_parts p q x y parts.0 in (
        last-field x.path.fields y.path.fields
            (and_parts (ties_roots p q x.path.root y.path.root)
            (pointwise (ties_fields p q) x.path.fields y.path.fields) one.path).1,
        record-fields xs ys parts.1,
      )
  record-fields (x ∷ xs) [] e = absurd (false≢true e)

  known-fields : (old new : Known) → same_outcome p q (outcome_from old) (outcome_from new) ≡ true →
      HaveKnownFields r (given_of p t main) (given_of q u main) (Some old)
  known-fields Large new e = tt
  known-fields (Whole f) (Whole h) e =
      let parts : AreSameSummaries p q (summary_from f) (summary_from h) =
      same_summary_parts p q (summary_from f) (summary_from h) e in
      record-fields f.records h.records parts.accesses
  known-fields (Whole f) Large e = absurd (false≢true e)

  pub known-tied : (old new : Option Known) →
      both (same_outcome p q) (option_map outcome_from old) (option_map outcome_from new) ≡ true →
      IsKnownBy r (given_of p t main) (given_of q u main) old new
  known-tied (Some k) (Some l) e =
      record {
        same = ap (λ (x : Outcome). Some x)
            (sym (outcome-tied r p q take (outcome_from k) (outcome_from l) e) ∙ sym (outcome_from-by r k));
        fields = known-fields k l e;
      }
  known-tied _ _ e = absurd (false≢true e)

-- ---- the state at the entry

module _ (r : Renumbering) (p q : Core) where
  parameter-by : (i : ℕ) (a b : Kind) → ties_kinds p q a b ≡ true →
      parameter_value i b ≡ value_by r (parameter_value i a)
  parameter-by i a b e =
      ap (λ (plain : Bool). cond plain Unnamed (Named (alone (Formal i)))) (kind-tied p q a b e)
      ∙ either-by (value_by r) (is_plain a) Unnamed (Named (alone (Formal i)))

  parameters-by : (i : ℕ) (xs ys : List Kind) → same_kinds p q xs ys ≡ true →
      parameter_values i ys ≡ map (value_by r) (parameter_values i xs)
  parameters-by i [] [] e = refl
  parameters-by i (x ∷ xs) (y ∷ ys) e =
      let parts = and_parts (ties_kinds p q x y) (same_kinds p q xs ys) e in
      (λ k. parameter-by i x y parts.0 k ∷ parameters-by (suc i) xs ys parts.1 k)
  parameters-by i _ _ e = absurd (false≢true e)

  kinds-long : (xs ys : List Kind) → same_kinds p q xs ys ≡ true → length ys ≡ length xs
  kinds-long [] [] e = refl
  kinds-long (x ∷ xs) (y ∷ ys) e =
      let rest = kinds-long xs ys (and_parts (ties_kinds p q x y) (same_kinds p q xs ys) e).1 in omega (arith, rest)
  kinds-long _ _ e = absurd (false≢true e)

  owned-by : (n : ℕ) → replicate n Owned ≡ map (value_by r) (replicate n Owned)
  owned-by zero = refl
  owned-by (suc n) = ap (λ (values : List Value). Owned ∷ values) (owned-by n)

  passed-by : (a b : Method) → b.is_static ≡ a.is_static → same_kinds p q a.parameters b.parameters ≡ true →
      passed_values b ≡ map (value_by r) (passed_values a)
  passed-by a b static e =
      let this : List Value = Named (alone This) ∷ [] in
      (λ i. cond (static i) [] this ++ parameters-by 0 a.parameters b.parameters e i)
      ∙ ap (λ (values : List Value). values ++ map (value_by r) (parameter_values 0 a.parameters))
      (either-by (map (value_by r)) a.is_static [] this)
      ∙ sym (map-append (value_by r) (cond a.is_static [] this) (parameter_values 0 a.parameters))

  pub start-by : (a b : Method) → b.is_static ≡ a.is_static → same_kinds p q a.parameters b.parameters ≡ true →
      same_kinds p q a.variables b.variables ≡ true → start_of b ≡ state_by r (start_of a)
  start-by a b static e h =
      let passed = passed-by a b static e in
      let many = kinds-long a.variables b.variables h in
      let few : length (passed_values b) ≡ length (passed_values a) =
      ap length passed ∙ length-map (passed_values a) (value_by r) in
      let n : ℕ = length a.variables - length (passed_values a) in
      let vars =
      (λ i. passed i ++ replicate (many i - few i) Owned)
      ∙ ap (λ (values : List Value). map (value_by r) (passed_values a) ++ values) (owned-by n)
      ∙ sym (map-append (value_by r) (passed_values a) (replicate n Owned)) in
      (λ i. record { vars = vars i; stack = [] })
