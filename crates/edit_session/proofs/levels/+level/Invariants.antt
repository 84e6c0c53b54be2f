use Rattle.std.proofs.Common.{◌≡◌, drop}
use Rattle.std.specs.Prelude.{max}
use Rattle.core_code.specs.Chains.{row_of}
use Rattle.core_code.specs.Falling.{number_of}
use Rattle.core_code.specs.Program.{core}
use Rattle.core_code.specs.CalleeRows.{rows_in, ranks_in}
use Rattle.edit_session.specs.Levels.{AreLevels, level_above}
use Rattle.edit_session.proofs.levels.+level.Given as goal

abbrev pub decreases-level : goal.decreases-level
decreases-level l = number_of (ranks_in l.rows.now) l.method

abbrev pub invariant-loop-callee : goal.invariant-loop-callee
invariant-loop-callee l =
    let program = core l.program in
    let row = row_of (rows_in l.rows) l.method in
    record {
      table : AreLevels program l.levels.items;
      highest : max l.highest (level_above program (drop l.callee-index row)) ≡ level_above program row;
    }
