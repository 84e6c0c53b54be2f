use Rattle.std.proofs.Common.{◌≡◌, ℕ, ◌||◌}
use Rattle.core_lowering_drafts.proofs.EndSets.{at}
use Rattle.core_lowering_drafts.proofs.ends.add_exits.Given as goal

abbrev pub invariant-loop-exit : goal.invariant-loop-exit
invariant-loop-exit l =
    (k : ℕ) → (at k l.exits.keys || at k l.exit-iterator) ≡ (at k l.fn.exits.keys || at k l.others.keys)
