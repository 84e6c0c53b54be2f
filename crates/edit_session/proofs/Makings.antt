-- What is made of a whole program.
use Rattle.std.proofs.Common.{◌≡◌, ℕ, inl, inr, Bool, true, false, cond, List, [], ◌∷◌, ◌++◌, Option, None, Some}
use Rattle.std.proofs.Common.{filter, is_none, is_some, option_map, refl, sym, ap, subst, ◌∙◌, arith}
use Rattle.std.proofs.lemmas.Bool.{cases_Bool}
use Rattle.std.specs.Arc.{arc_value}
use Rattle.std.specs.Option.{IfSome, option_and_then}
use Rattle.racer_base.specs.declared.ids.MethodId.{MethodId}
use Rattle.racer_base.proofs.Lists.{given_some}
use Rattle.racer_base.proofs.Tests.{same_truth}
use Rattle.core_code.specs.declared.program.Program.{Program}
use Rattle.core_code.specs.Calls.{is_analysed, method_at}
use Rattle.core_code.specs.Core.{Core, Method}
use Rattle.core_code.specs.Program.{core}
use Rattle.core_code.proofs.RowCallees.{analysed_at}
use Rattle.access_domain.specs.declared.summary.Outcome.{Outcome}
use Rattle.access_domain.specs.Findings.{Known, outcome_from}
use Rattle.access_domain.specs.Summaries.{known_given, known_of_callees, outcome_of, outcomes_of}
use Rattle.transfer.specs.declared.finished.Finished.{Finished}
use Rattle.transfer.specs.Tables.{IsFinished, finished_at}
use Rattle.transfer.specs.Callees.{SharedFinished}
use Rattle.transfer_ties.specs.Again.{analysed_in}
use Rattle.edit_session.specs.declared.before.Before.{Before}
use Rattle.edit_session.specs.declared.work.Made.{Made}
use Rattle.edit_session.specs.declared.work.Work.{Work}
use Rattle.edit_session.specs.Levels.{levels_of}
use Rattle.edit_session.specs.Lists.{level_count}
use Rattle.edit_session.specs.Sessions.{methods_due}
use Rattle.edit_session.specs.Whole.{IsWhole}
use Rattle.edit_session.specs.Work.{AreThrough, IsBegun, IsMade, IsMadeOf, analysed_below, due_of, is_done, new_core}
use Rattle.edit_session.specs.Work.{outcome_found}
use Rattle.edit_session.proofs.AsBefore.{outcome_is}
use Rattle.edit_session.proofs.ByLevel.{all_levels, level_below}
use Rattle.edit_session.proofs.Putting.{core_on}

-- ---- outcomes

without : (o : Option Method) (known : Method → Known) → analysed_at o ≡ false →
    option_map outcome_from
    (option_and_then (λ (method : Method). cond (is_none method.status) (Some (known method)) None) o) ≡ None
without None known e = refl
without (Some method) known e = ap (λ (b : Bool). option_map outcome_from (cond b (Some (known method)) None)) e

-- a method that is not analysed has no outcome
no_outcome : (program : Core) (m : MethodId) → is_analysed program m ≡ false → outcome_of program m ≡ None
no_outcome program m e = without (method_at program m) (known_given program (known_of_callees program m)) e

-- what is finished is analysed
finished_analysed : (program : Core) (m : MethodId) (f : Finished) → IsFinished program m f →
    is_analysed program m ≡ true
finished_analysed program m f is =
    elim (cases_Bool (is_analysed program m)) [
      | inl e ↦ e
      | inr e ↦
          let none : outcome_of program m ≡ None = no_outcome program m e in
          let some : Some (arc_value f.outcome) ≡ outcome_of program m = outcome_is program m f is in
          absurd cc
    ]

abbrev outcome_in : Option Finished → Option Outcome
outcome_in o = option_map (λ (f : Finished). arc_value f.outcome) o

pub whole_outcome : (program : Core) (table : List (Option SharedFinished)) (n : ℕ) → IsWhole program table →
    outcome_found table n ≡ outcome_of program (record { 0 = n })
whole_outcome program table n whole = found_as (finished_at table (record { 0 = n })) refl
  where
    found_as : (o : Option Finished) → finished_at table (record { 0 = n }) ≡ o →
        outcome_in o ≡ outcome_of program (record { 0 = n })
    found_as None e = sym (no_outcome program (record { 0 = n }) (sym (whole.all (record { 0 = n })) ∙ ap is_some e))
    found_as (Some f) e = outcome_is program (record { 0 = n }) f (whole.right (record { 0 = n }) f e)

-- ---- all methods

module _ (old new : Work) (through : AreThrough old (level_count (levels_of (new_core old))) new) where
  same : new_core new ≡ new_core old
  same = core_on old new through.goes_on

  finished_right : (m : MethodId) (f : Finished) → finished_at new.finished.items m ≡ Some f →
      IsFinished (new_core new) m f
  finished_right m f e =
      subst (λ (o : Option Finished). IfSome o (λ g. IsFinished (new_core new) m g)) e (through.right.table m)

  done_analysed : (m : MethodId) → is_done new m ≡ true → is_analysed (new_core new) m ≡ true
  done_analysed m done =
      let made = given_some (finished_at new.finished.items m) done in
      finished_analysed (new_core new) m made.0 (finished_right m made.0 made.1)

  pub whole : IsWhole (new_core new) new.finished.items
  whole =
      record {
        all = λ m.
            same_truth (is_done new m) (is_analysed (new_core new) m) (done_analysed m) (λ analysed.
            let in_old : is_analysed (new_core old) m ≡ true =
            ap (λ (c : Core). is_analysed c m) (sym same) ∙ analysed in
            through.all m in_old (level_below (new_core old) m in_old));
        right = finished_right;
      }

all_due : (ms : List MethodId) → filter (λ (m : MethodId). true) ms ≡ ms
all_due [] = refl
all_due (m ∷ ms) = ap (λ (ns : List MethodId). m ∷ ns) (all_due ms)

due_is : (before : Option Before) (program : Core) → due_of before program (analysed_in program) ≡ methods_due before program
due_is None program = all_due (analysed_in program)
due_is (Some before) program = refl

pub is_made : (program : Program) (before : Option Before) (old new : Work) (made : Made) →
    IsBegun (core program) before old → AreThrough old (level_count (levels_of (new_core old))) new →
    IsMadeOf new made → IsMade program before made
is_made program before old new made begun through parts =
    let same_core : new_core new ≡ core program = core_on old new through.goes_on ∙ begun.program_is in
    record {
      whole =
          subst (λ (c : Core). IsWhole c made.finished.items) same_core
          (subst (IsWhole (new_core new)) (sym parts.finished) (whole old new through));
      outcomes = parts.outcomes ∙ ap outcomes_of same_core;
      analysed =
          parts.analysed
          ∙ through.analysed
          ∙ ap (λ (ms : List MethodId). ms ++ due_of old.before (new_core old)
          (analysed_below (new_core old) (level_count (levels_of (new_core old))))) begun.none_analysed
          ∙ ap (due_of old.before (new_core old)) (all_levels (new_core old))
          ∙ (λ i. due_of (begun.before_is i) (begun.program_is i) (analysed_in (begun.program_is i)))
          ∙ due_is before (core program);
    }
