use Rattle.std.proofs.Common.{◌≡◌, drop}
use Rattle.racer_memory.specs.Failing.{is_failing}
use Rattle.racer_memory.proofs.failing.is_among.Given as goal

abbrev pub invariant-loop-number : goal.invariant-loop-number
invariant-loop-number l = is_failing l.calls l.call ≡ is_failing (drop l.number-index l.calls) l.call
