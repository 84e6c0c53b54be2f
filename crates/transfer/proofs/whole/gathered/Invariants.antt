use Rattle.std.proofs.Common.{◌≡◌, ◌++◌, ◌-◌, length}
use Rattle.std.specs.Arc.{arc_value}
use Rattle.core_code.specs.Program.{core}
use Rattle.access_domain.specs.Outcomes.{outcomes_held}
use Rattle.access_domain.specs.Summaries.{outcomes_of, outcomes_from}
use Rattle.transfer.specs.Tables.{IsTable}
use Rattle.transfer.proofs.whole.gathered.Given as goal

abbrev pub invariant-loop-number : goal.invariant-loop-number
invariant-loop-number l =
    let program = core (arc_value l.program) in
    record {
      table : IsTable program l.table.items;
      outcomes : outcomes_held l.outcomes.items ++ outcomes_from program l.number (length program.methods - l.number) ≡
          outcomes_of program;
    }
