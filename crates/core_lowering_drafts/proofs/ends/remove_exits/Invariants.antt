use Rattle.std.proofs.Common.{◌≡◌, ℕ, ◌&&◌, not}
use Rattle.core_lowering_drafts.proofs.EndSets.{at}
use Rattle.core_lowering_drafts.proofs.ends.remove_exits.Given as goal

abbrev pub invariant-loop-exit : goal.invariant-loop-exit
invariant-loop-exit l =
    (k : ℕ) → (at k l.exits.keys && not (at k l.exit-iterator)) ≡ (at k l.fn.exits.keys && not (at k l.others.keys))
