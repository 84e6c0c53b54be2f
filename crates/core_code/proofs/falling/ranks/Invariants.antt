use Rattle.std.proofs.Common.{◌≡◌, ◌++◌, drop}
use Rattle.core_code.proofs.falling.ranks.Given as goal

-- those so far, and those that are left
abbrev pub invariant-loop-number : goal.invariant-loop-number
invariant-loop-number l = l.ranks.items ++ drop l.number-index l.numbers ≡ l.numbers
