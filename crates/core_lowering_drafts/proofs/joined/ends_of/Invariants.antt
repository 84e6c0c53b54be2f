use Rattle.std.proofs.Common.{drop}
use Rattle.core_lowering_drafts.specs.Drafts.{SameEnds}
use Rattle.core_lowering_drafts.specs.EndSets.{seen}
use Rattle.core_lowering_drafts.specs.Lists.{ends_of}
use Rattle.core_lowering_drafts.specs.Pieces.{all_parts}
use Rattle.core_lowering_drafts.proofs.joined.ends_of.Given as goal

abbrev pub invariant-loop-i : goal.invariant-loop-i
invariant-loop-i l = SameEnds (seen l.ends) (ends_of (all_parts (drop l.i l.pieces)))
