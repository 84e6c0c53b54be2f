use Rattle.std.proofs.Common.{◌≡◌, ◌++◌, ◌-◌, None, replicate}
use Rattle.transfer.proofs.whole.empty.Given as goal

abbrev pub invariant-loop-place : goal.invariant-loop-place
invariant-loop-place l = l.table.items ++ replicate (l.places - l._place) None ≡ replicate l.places None
