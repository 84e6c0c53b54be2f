use Rattle.std.proofs.Common.{◌≡◌, reverse, take, option_copied}
use Rattle.std.specs.List.{find}
use Rattle.core_lowering_context.specs.Exits.{goes_on}
use Rattle.core_lowering_context.proofs.targets.innermost_going_on.Given as goal

abbrev pub invariant-loop-i : goal.invariant-loop-i
invariant-loop-i l =
    find (goes_on (option_copied l.x)) (reverse (take l.i l.targets))
    ≡ find (goes_on (option_copied l.x)) (reverse l.targets)
