use Rattle.std.proofs.Common.{◌≡◌, ◌++◌, ◌-◌, length}
use Rattle.std.specs.Arc.{arc_value}
use Rattle.core_code.specs.Program.{core}
use Rattle.access_domain.specs.Outcomes.{outcomes_held}
use Rattle.access_domain.specs.Summaries.{outcomes_of, outcomes_from}
use Rattle.edit_session.proofs.work.outcomes_of.Given as goal

abbrev pub invariant-loop-place : goal.invariant-loop-place
invariant-loop-place l =
    let program = core (arc_value l.program) in
    outcomes_held l.outcomes.items ++ outcomes_from program l.place (length program.methods - l.place) ≡
    outcomes_of program
