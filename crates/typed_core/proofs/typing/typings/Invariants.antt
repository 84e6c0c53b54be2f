use Rattle.std.proofs.Common.{◌≡◌, ◌++◌, drop}
use Rattle.std.specs.List.{enumerate_from, flat_map}
use Rattle.core_code.specs.Program.{core, classes}
use Rattle.typed_core.specs.Typings.{class_typings, typings}
use Rattle.typed_core.proofs.typing.typings.Given as goal

abbrev pub invariant-loop-number : goal.invariant-loop-number
invariant-loop-number l =
    l.made.items ++ flat_map (class_typings (core l.program)) (enumerate_from l.number (drop l.number (classes l.program)))
    ≡ typings (core l.program)
