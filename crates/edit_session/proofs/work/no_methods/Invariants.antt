use Rattle.std.proofs.Common.{◌≡◌, ◌++◌, ◌-◌, None, replicate}
use Rattle.edit_session.proofs.work.no_methods.Given as goal

abbrev pub invariant-loop-place : goal.invariant-loop-place
invariant-loop-place l = l.places.items ++ replicate (l.count - l._place) None ≡ replicate l.count None
