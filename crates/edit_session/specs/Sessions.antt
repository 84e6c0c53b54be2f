-- A contract of a public call rests on this: what a session tells.
use Rattle.std.specs.Prelude.{◌≡◌, Bool, true, not, List, Option, None, Some, MatchOption, if◌then◌else◌}
use Rattle.std.specs.Arc.{arc_value}
use Rattle.std.specs.Option.{option_and_then}
use Rattle.racer_base.specs.declared.ids.MethodId.{MethodId}
use Rattle.core_code.specs.declared.program.Program.{Program}
use Rattle.core_code.specs.Core.{Core}
use Rattle.core_code.specs.Program.{core}
use Rattle.access_domain.specs.declared.summary.Outcome.{Outcome}
use Rattle.transfer.specs.declared.finished.Finished.{Finished}
use Rattle.transfer.specs.Tables.{finished_at}
use Rattle.transfer_ties.specs.Again.{again, analysed_in}
use Rattle.transfer_ties.specs.Forms.{ties_forms}
use Rattle.transfer_ties.specs.Outcomes.{same_outcome}
use Rattle.transfer_ties.specs.Partners.{AreTies, partner_in}
use Rattle.edit_session.specs.Whole.{IsWhole, Standing}
use Rattle.edit_session.specs.declared.before.Before.{Before}

abbrev pub program_in : Standing → Program
program_in session = session.program

-- the methods that were analysed when its program came
abbrev pub methods_again : Standing → List MethodId
methods_again session = session.again

-- ---- behind another program, or behind none

abbrev pub old_core : Before → Core
old_core before = core (arc_value before.program.now)

-- the older program is whole, and tied to this one
pub record IsBefore (program : Core) (before : Before) : Type 0 where
  pub whole : IsWhole (old_core before) before.finished.now
  pub ties : AreTies (old_core before) program before.ties

-- the method of the older program with this one's class, name and as many parameters, finished
abbrev pub partner_of : Before → MethodId → Option Finished
partner_of before m = option_and_then (finished_at before.finished.now) (partner_in before.ties.methods.items m.0)

-- the same, where it has the same form
abbrev pub of_same_form : Before → Core → MethodId → Option Finished
of_same_form before program m = option_and_then (λ (old : Finished).
    if ties_forms (old_core before) program old.method m then Some old else None) (partner_of before m)

-- whether an outcome is another than the partner's
abbrev pub TellsDifference : Core → Before → MethodId → Outcome → Bool → Type 0
TellsDifference program before m outcome differs = MatchOption (partner_of before m) (differs ≡ true)
    (λ old. differs ≡ not (same_outcome (old_core before) program (arc_value old.outcome) outcome))

-- all analysed methods, or those that are not as they were before
abbrev pub methods_due : Option Before → Core → List MethodId
methods_due None program = analysed_in program
methods_due (Some before) program = again (old_core before) program

-- the session stands at this program, behind that one
pub record IsTold (program : Program) (before : Option Before) (session : Standing) : Type 0 where
  pub program_is : program_in session ≡ program
  pub analysed : methods_again session ≡ methods_due before (core program)
