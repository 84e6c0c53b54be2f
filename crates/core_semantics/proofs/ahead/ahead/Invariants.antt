use Rattle.std.proofs.Common.{◌≡◌, drop, slice_get}
use Rattle.core_semantics.specs.View.{todo_of}
use Rattle.core_semantics.proofs.ahead.ahead.Given as goal

abbrev pub invariant-loop-number : goal.invariant-loop-number
invariant-loop-number l = slice_get (todo_of (drop l.number l.pending)) 0 ≡ slice_get (todo_of l.pending) 0
