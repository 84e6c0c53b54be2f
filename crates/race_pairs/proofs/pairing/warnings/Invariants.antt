use Rattle.std.proofs.Common.{◌≡◌, ◌++◌, drop}
use Rattle.std.specs.List.{enumerate_from, flat_map}
use Rattle.core_code.specs.Program.{core}
use Rattle.race_pairs.specs.Warnings.{class_warnings, warnings}
use Rattle.race_pairs.proofs.pairing.warnings.Given as goal

abbrev pub invariant-loop-number : goal.invariant-loop-number
invariant-loop-number l =
    let rest = enumerate_from l.number (drop l.number l.class-items) in
    l.found.items ++ flat_map (class_warnings (core l.program)) rest ≡ warnings (core l.program)
