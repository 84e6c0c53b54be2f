use Rattle.std.proofs.Common.{◌≡◌, ◌+◌, length, drop}
use Rattle.core_lowering_drafts.specs.Pieces.{all_parts}
use Rattle.core_lowering_context.proofs.making.border.Given as goal

abbrev pub invariant-loop-i : goal.invariant-loop-i
invariant-loop-i l = l.left + length (all_parts (drop l.i l.pieces)) ≡ l.count
