use Rattle.std.proofs.Common.{◌≡◌, ◌++◌, ◌-◌, length}
use Rattle.core_code.specs.Program.{core}
use Rattle.edit_session.specs.Levels.{AreLevels, levels_from, levels_of}
use Rattle.edit_session.proofs.levels.levels.Given as goal

abbrev pub invariant-loop-number : goal.invariant-loop-number
invariant-loop-number l =
    let program = core l.program in
    record {
      table : AreLevels program l.known.items;
      levels : l.levels.items ++ levels_from program l.number (length program.methods - l.number) ≡ levels_of program;
    }
