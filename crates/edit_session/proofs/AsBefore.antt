-- Methods that are as they were before: their partners, and their calls.
use Rattle.std.proofs.Common.{◌≡◌, ℕ, ◌<◌, Bool, true, false, cond, ◌&&◌, ◌||◌, not, List, [], ◌∷◌, Option}
use Rattle.std.proofs.Common.{None, Some, length, refl, sym, ap, subst, ◌∙◌, arith}
use Rattle.std.proofs.lemmas.Bool.{and_from, and_parts, and_right, false_from_ne_true, not-true, not_from_false}
use Rattle.std.proofs.lemmas.Bool.{not_from_true}
use Rattle.std.specs.Arc.{arc_value}
use Rattle.std.specs.Cmp.Lexicographic.{pointwise}
use Rattle.std.specs.List.{Contains, list_any}
use Rattle.std.specs.Option.{MatchOption, option_and_then}
use Rattle.racer_base.specs.declared.ids.MethodId.{MethodId}
use Rattle.racer_base.proofs.Lists.{given_some, same_given}
use Rattle.core_code.specs.declared.program.Program.{Program}
use Rattle.core_code.specs.Calls.{calls_of, is_analysed, method_at}
use Rattle.core_code.specs.Core.{Core}
use Rattle.core_code.specs.Program.{core}
use Rattle.core_code.proofs.Members.{in_tail, passes, passing}
use Rattle.core_code.proofs.Ranks.{in_head}
use Rattle.access_domain.specs.declared.summary.Outcome.{Outcome}
use Rattle.access_domain.specs.Records.{same_flag}
use Rattle.access_domain.specs.Summaries.{outcome_of}
use Rattle.transfer.specs.declared.finished.Finished.{Finished}
use Rattle.transfer.specs.Tables.{IsFinished, finished_at}
use Rattle.transfer_ties.specs.Again.{is_again, is_as_before, methods_in}
use Rattle.transfer_ties.specs.Forms.{ties_forms}
use Rattle.transfer_ties.specs.Outcomes.{same_outcome, ties_outcomes}
use Rattle.transfer_ties.specs.Partners.{are_partners, partner_in}
use Rattle.transfer_ties.specs.Ties.{both, same_callee, same_signature, ties_callees}
use Rattle.edit_session.specs.declared.before.Before.{Before}
use Rattle.edit_session.specs.Sessions.{IsBefore, TellsDifference, of_same_form, old_core, partner_of}
use Rattle.edit_session.proofs.Among.{in_range}
use Rattle.edit_session.proofs.Calling.{analysed_low, callee_analysed}
use Rattle.edit_session.proofs.Partners.{both_weaker, same_partner}
use Rattle.edit_session.proofs.TiedCalls.{calls_tied, form_names}

-- the outcome of a finished method is that of its number
pub outcome_is : (core : Core) (m : MethodId) (f : Finished) → IsFinished core m f →
    Some (arc_value f.outcome) ≡ outcome_of core m
outcome_is core m f is = f.right ∙ (λ i. outcome_of (is.program_is i) (is.method i))

not_not : (s d : Bool) → d ≡ not s → s ≡ not d
not_not true d e = sym (ap not e)
not_not false d e = sym (ap not e)

and_not : (x y : Bool) → (not x && not y) ≡ not (x || y)
and_not true y = refl
and_not false y = refl

one_kept : (b : Bool) (f old : Finished) → cond b (Some f) None ≡ Some old → (f ≡ old) × (b ≡ true)
one_kept true f old e = (same_given f old (Some f) refl e, refl)
one_kept false f old e = absurd cc

-- a method of the older program that has this one's names, finished
pub record IsPartner (before : Before) (m n : MethodId) (old : Finished) : Type 0 where
  pub found : partner_of before n ≡ Some old
  pub finished : IsFinished (old_core before) m old

-- a method of the older program that has this one's form is found, and no call of this one differs
record IsAsBefore (before : Before) (q : Core) (n : MethodId) (differ : Bool) : Type 0 where
  old : Finished
  found : of_same_form before q n ≡ Some old
  none : differ ≡ false

module _ (before : Before) (new : Program) (is : IsBefore (core new) before) where
  abbrev p : Core
  p = old_core before

  abbrev q : Core
  q = core new

  one_partner : (m k n : MethodId) → are_partners p q m n ≡ true → are_partners p q k n ≡ true → m ≡ k
  one_partner = same_partner p q (arc_value before.program.now).methods_differ is.ties.one_to_one

  abbrev Told : MethodId → Option MethodId → Type 0
  Told n o = MatchOption o ((m : MethodId) → are_partners p q m n ≡ false) (λ m. are_partners p q m n ≡ true)

  -- a partner is found
  partner_found : (m n : MethodId) → are_partners p q m n ≡ true → (old : Finished) × IsPartner before m n old
  partner_found m n h =
      let analysed : is_analysed p m ≡ true =
      (and_parts (is_analysed p m) (is_analysed q n)
      (and_parts (is_analysed p m && is_analysed q n) (both (same_signature p q) (method_at p m) (method_at q n)) h).0).0
      in
      let made = given_some (finished_at before.finished.now m) (is.whole.all m ∙ analysed) in (
        made.0,
        record {
          found = found_at (partner_in before.ties.methods.items n.0) (is.ties.methods n) made.0 made.1;
          finished = is.whole.right m made.0 made.1;
        },
      )
    where
      found_at : (o : Option MethodId) → Told n o → (old : Finished) → finished_at before.finished.now m ≡ Some old →
          option_and_then (finished_at before.finished.now) o ≡ Some old
      found_at None told old at = let none : are_partners p q m n ≡ false = told m in absurd cc
      found_at (Some k) told old at = ap (finished_at before.finished.now) (one_partner k m n told h) ∙ at

  -- what is found is the partner
  partner_is : (n : MethodId) (old : Finished) → partner_of before n ≡ Some old →
      (are_partners p q old.method n ≡ true) × IsFinished p old.method old
  partner_is n old found = is_at (partner_in before.ties.methods.items n.0) (is.ties.methods n) found
    where
      is_at : (o : Option MethodId) → Told n o → option_and_then (finished_at before.finished.now) o ≡ Some old →
          (are_partners p q old.method n ≡ true) × IsFinished p old.method old
      is_at None told e = absurd cc
      is_at (Some k) told e =
          let right : IsFinished p k old = is.whole.right k old e in
          let same : k ≡ old.method = sym right.method in
          (ap (λ (m : MethodId). are_partners p q m n) (sym same) ∙ told, subst (λ (m : MethodId). IsFinished p m old) same right)

  -- whether outcomes are tied, where it is told whether this one is another
  outcomes_tell : (m n : MethodId) (outcome : Outcome) (differs : Bool) → are_partners p q m n ≡ true →
      Some outcome ≡ outcome_of q n → TellsDifference q before n outcome differs →
      ties_outcomes p q m n ≡ not differs
  outcomes_tell m n outcome differs h known told =
      let by = partner_found m n h in
      let old = by.0 in
      let told_of : differs ≡ not (same_outcome p q (arc_value old.outcome) outcome) =
      subst (λ (o : Option Finished). MatchOption o (differs ≡ true)
      (λ (f : Finished). differs ≡ not (same_outcome p q (arc_value f.outcome) outcome))) by.1.found told in
      let same : same_outcome p q (arc_value old.outcome) outcome ≡ ties_outcomes p q m n =
      (λ i. both (same_outcome p q) (outcome_is p m old by.1.finished i) (known i)) in
      sym same ∙ not_not (same_outcome p q (arc_value old.outcome) outcome) differs told_of

  -- the other way
  outcomes_told : (n : MethodId) (old : Finished) (outcome : Outcome) → partner_of before n ≡ Some old →
      Some outcome ≡ outcome_of q n → ties_outcomes p q old.method n ≡ true → TellsDifference q before n outcome false
  outcomes_told n old outcome found known tied =
      let by = partner_is n old found in
      let same : same_outcome p q (arc_value old.outcome) outcome ≡ true =
      (λ i. both (same_outcome p q) (outcome_is p old.method old by.1 i) (known i)) ∙ tied in
      subst (λ (o : Option Finished). MatchOption o (false ≡ true)
      (λ (f : Finished). false ≡ not (same_outcome p q (arc_value f.outcome) outcome))) (sym found)
      (sym (not_from_true (same_outcome p q (arc_value old.outcome) outcome) same))

  -- the method that is found
  form_found : (n : MethodId) (o : Option Finished) (old : Finished) →
      option_and_then (λ (f : Finished). cond (ties_forms p q f.method n) (Some f) None) o ≡ Some old →
      (o ≡ Some old) × (ties_forms p q old.method n ≡ true)
  form_found n None old e = absurd cc
  form_found n (Some f) old e =
      let by = one_kept (ties_forms p q f.method n) f old e in
      (ap (λ (x : Finished). Some x) by.0, ap (λ (x : Finished). ties_forms p q x.method n) (sym by.0) ∙ by.1)

  pub old_finished : (n : MethodId) (old : Finished) → of_same_form before q n ≡ Some old →
      IsFinished p old.method old
  old_finished n old found = (partner_is n old (form_found n (partner_of before n) old found).0).1

  -- ---- calls

  called_partners : (c d : MethodId) → is_analysed p c ≡ true → is_analysed q d ≡ true →
      ties_callees p q c d ≡ true → are_partners p q c d ≡ true
  called_partners c d old new tied =
      and_from (is_analysed p c && is_analysed q d) (both (same_signature p q) (method_at p c) (method_at q d))
      (and_from (is_analysed p c) (is_analysed q d) old new)
      (both_weaker (same_callee p q) (same_signature p q) (method_at p c) (method_at q d)
      (λ a b h. (and_parts (same_signature p q a b) (same_flag a.is_static b.is_static) h).0) tied)

  module _ (differs : MethodId → Bool) where
    abbrev IsTold : MethodId → Type 0
    IsTold d = (c : MethodId) → are_partners p q c d ≡ true → ties_outcomes p q c d ≡ not (differs d)

    calls_tell : (cs ds : List MethodId) → pointwise (ties_callees p q) cs ds ≡ true →
        ((c : MethodId) → Contains cs c → is_analysed p c ≡ true) →
        ((d : MethodId) → Contains ds d → is_analysed q d ≡ true) →
        ((d : MethodId) → Contains ds d → IsTold d) →
        pointwise (ties_outcomes p q) cs ds ≡ not (list_any differs ds)
    calls_tell [] [] tied olds news told = refl
    calls_tell [] (d ∷ ds) tied olds news told = absurd cc
    calls_tell (c ∷ cs) [] tied olds news told = absurd cc
    calls_tell (c ∷ cs) (d ∷ ds) tied olds news told =
        let parts = and_parts (ties_callees p q c d) (pointwise (ties_callees p q) cs ds) tied in
        let here : ties_outcomes p q c d ≡ not (differs d) =
        told d (in_head d ds) c (called_partners c d (olds c (in_head c cs)) (news d (in_head d ds)) parts.0) in
        let rest : pointwise (ties_outcomes p q) cs ds ≡ not (list_any differs ds) =
        calls_tell cs ds parts.1 (λ x there. olds x (in_tail c cs x there)) (λ x there. news x (in_tail d ds x there))
        (λ x there. told x (in_tail d ds x there)) in
        (λ i. here i && rest i) ∙ and_not (differs d) (list_any differs ds)

  -- ---- a method

  module _ (n : MethodId) (analysed : is_analysed q n ≡ true) (differs : MethodId → Bool)
      (told : (d : MethodId) → Contains (calls_of q n) d → (c : MethodId) → are_partners p q c d ≡ true →
      ties_outcomes p q c d ≡ not (differs d)) where
    abbrev differ : Bool
    differ = list_any differs (calls_of q n)

    new_analysed : (d : MethodId) → Contains (calls_of q n) d → is_analysed q d ≡ true
    new_analysed d call = callee_analysed q new.calls_right new.ranks_there n d analysed call

    same_calls : (m : MethodId) → is_analysed p m ≡ true → ties_forms p q m n ≡ true →
        pointwise (ties_outcomes p q) (calls_of p m) (calls_of q n) ≡ not differ
    same_calls m old forms =
        calls_tell differs (calls_of p m) (calls_of q n) (calls_tied p q m n forms)
        (λ c call. callee_analysed p (arc_value before.program.now).calls_right
        (arc_value before.program.now).ranks_there m c old call)
        new_analysed told

    form_partners : (m : MethodId) → is_analysed p m ≡ true → ties_forms p q m n ≡ true →
        are_partners p q m n ≡ true
    form_partners m old forms =
        and_from (is_analysed p m && is_analysed q n) (both (same_signature p q) (method_at p m) (method_at q n))
        (and_from (is_analysed p m) (is_analysed q n) old analysed) (form_names p q m n forms)

    as_before : (m : MethodId) → is_as_before p q m n ≡ true → IsAsBefore before q n differ
    as_before m h =
        let calls = pointwise (ties_outcomes p q) (calls_of p m) (calls_of q n) in
        let four = and_parts (is_analysed p m && is_analysed q n && ties_forms p q m n) calls h in
        let three = and_parts (is_analysed p m && is_analysed q n) (ties_forms p q m n) four.0 in
        let old = (and_parts (is_analysed p m) (is_analysed q n) three.0).0 in
        let by = partner_found m n (form_partners m old three.1) in
        let test : ties_forms p q by.0.method n ≡ true =
        ap (λ (k : MethodId). ties_forms p q k n) by.1.finished.method ∙ three.1 in
        record {
          old = by.0;
          found =
              ap (option_and_then (λ (f : Finished). cond (ties_forms p q f.method n) (Some f) None)) by.1.found
              ∙ ap (λ (b : Bool). cond b (Some by.0) None) test;
          none = not-true differ (sym (same_calls m old three.1) ∙ four.1);
        }

    none_again : ((m : MethodId) → is_as_before p q m n ≡ true → ⊥) → is_again p q n ≡ true
    none_again none =
        let test : MethodId → Bool = λ m. is_as_before p q m n in
        and_from (is_analysed q n) (not (list_any test (methods_in p))) analysed
        (not_from_false (list_any test (methods_in p))
        (false_from_ne_true (list_any test (methods_in p)) (λ any.
        let found = passing test (methods_in p) any in
        none found.0 found.2)))

    pub due_without : of_same_form before q n ≡ None → is_again p q n ≡ true
    due_without none = none_again (λ m h. let found = (as_before m h).found in absurd cc)

    pub due_by_calls : differ ≡ true → is_again p q n ≡ true
    due_by_calls some = none_again (λ m h. let none = (as_before m h).none in absurd cc)

    pub kept_as_before : (old : Finished) → of_same_form before q n ≡ Some old → differ ≡ false →
        is_as_before p q old.method n ≡ true
    kept_as_before old found none =
        let by = form_found n (partner_of before n) old found in
        let partner = partner_is n old by.0 in
        let analysed_old : is_analysed p old.method ≡ true =
        (and_parts (is_analysed p old.method) (is_analysed q n)
        (and_parts (is_analysed p old.method && is_analysed q n) (both (same_signature p q) (method_at p old.method)
        (method_at q n)) partner.0).0).0 in
        and_from (is_analysed p old.method && is_analysed q n && ties_forms p q old.method n)
        (pointwise (ties_outcomes p q) (calls_of p old.method) (calls_of q n))
        (and_from (is_analysed p old.method && is_analysed q n) (ties_forms p q old.method n)
        (and_from (is_analysed p old.method) (is_analysed q n) analysed_old analysed) by.1)
        (same_calls old.method analysed_old by.1 ∙ not_from_false differ none)

    pub not_due : (m : MethodId) → is_as_before p q m n ≡ true → is_again p q n ≡ false
    not_due m h =
        let test : MethodId → Bool = λ k. is_as_before p q k n in
        let calls = pointwise (ties_outcomes p q) (calls_of p m) (calls_of q n) in
        let four = and_parts (is_analysed p m && is_analysed q n && ties_forms p q m n) calls h in
        let three = and_parts (is_analysed p m && is_analysed q n) (ties_forms p q m n) four.0 in
        let old = (and_parts (is_analysed p m) (is_analysed q n) three.0).0 in
        let low : m.0 < length p.methods = analysed_low p m old in
        let there : Contains (methods_in p) m =
        in_range (λ (k : ℕ). let i : MethodId = record { 0 = k } in i) 0 (length p.methods) m.0 (omega arith)
        (omega arith) in
        and_right (is_analysed q n) (not (list_any test (methods_in p)))
        (not_from_true (list_any test (methods_in p)) (passes test (methods_in p) m there h))

    -- what is told of the outcome of a method that is kept
    pub kept_told : (old kept : Finished) → of_same_form before q n ≡ Some old → IsFinished q n kept →
        ties_outcomes p q old.method n ≡ true → TellsDifference q before n (arc_value kept.outcome) false
    kept_told old kept found finished tied =
        outcomes_told n old (arc_value kept.outcome) (form_found n (partner_of before n) old found).0
        (outcome_is q n kept finished) tied

  pub call_told : (c d : MethodId) (f : Finished) (differs : Bool) → IsFinished q d f →
      TellsDifference q before f.method (arc_value f.outcome) differs → are_partners p q c d ≡ true →
      ties_outcomes p q c d ≡ not differs
  call_told c d f differs finished told h =
      outcomes_tell c d (arc_value f.outcome) differs h (outcome_is q d f finished)
      (subst (λ (m : MethodId). TellsDifference q before m (arc_value f.outcome) differs) finished.method told)
