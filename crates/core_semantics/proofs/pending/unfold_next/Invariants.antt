use Rattle.std.proofs.Common.{◌≡◌}
use Rattle.core_semantics.specs.View.{todo_of}
use Rattle.core_semantics.specs.Weights.{pending_weight}
use Rattle.core_semantics.proofs.pending.unfold_next.Given as goal

abbrev pub invariant-loop-part : goal.invariant-loop-part
invariant-loop-part l = todo_of l.pending ≡ todo_of l.initial.pending

abbrev pub decreases-loop-part : goal.decreases-loop-part
decreases-loop-part l = pending_weight l.pending
