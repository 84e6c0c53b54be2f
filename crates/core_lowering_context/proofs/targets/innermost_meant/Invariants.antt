use Rattle.std.proofs.Common.{◌≡◌, reverse, take, option_copied}
use Rattle.std.specs.List.{find}
use Rattle.core_lowering_rules.specs.Scopes.{is_meant}
use Rattle.core_lowering_context.proofs.targets.innermost_meant.Given as goal

abbrev pub invariant-loop-i : goal.invariant-loop-i
invariant-loop-i l =
    find (is_meant (option_copied l.x)) (reverse (take l.i l.targets))
    ≡ find (is_meant (option_copied l.x)) (reverse l.targets)
