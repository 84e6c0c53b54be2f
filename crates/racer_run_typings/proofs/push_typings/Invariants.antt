use Rattle.std.proofs.Common.{drop}
use Rattle.std.specs.List.{flat_map}
use Rattle.core_code.specs.Program.{core}
use Rattle.race_report_parts.specs.Written.{Lasts, Leaves}
use Rattle.racer_run_typings.specs.Lines as wanted
use Rattle.racer_run_typings.proofs.push_typings.Given as goal

-- the typings that are left
abbrev pub invariant-loop-typing : goal.invariant-loop-typing
invariant-loop-typing l =
    record {
      lasts : Lasts l.fn.text l.text;
      leaves : Leaves (flat_map (wanted.typing_line (core l.program)) l.typings)
          (flat_map (wanted.typing_line (core l.program)) (drop l.typing-index l.typings)) l.fn.text l.text;
    }
