use Rattle.std.proofs.Common.{◌≡◌, None, replicate}
use Rattle.transfer_steps.proofs.meeting.no_heads.Given as goal

abbrev pub invariant-loop-loops : goal.invariant-loop-loops
invariant-loop-loops l = l.heads.items ≡ replicate l.loops None
