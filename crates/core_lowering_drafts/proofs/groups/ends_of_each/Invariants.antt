use Rattle.std.proofs.Common.{take}
use Rattle.core_lowering_drafts.specs.Drafts.{SameEnds}
use Rattle.core_lowering_drafts.specs.EndSets.{seen}
use Rattle.core_lowering_drafts.specs.Groups.{AreEnds}
use Rattle.core_lowering_drafts.proofs.Falling.{so_far}
use Rattle.core_lowering_drafts.proofs.groups.ends_of_each.Given as goal

abbrev pub invariant-loop-draft : goal.invariant-loop-draft
invariant-loop-draft l =
    record {
      all : AreEnds l.all.items (take l.draft-index l.drafts);
      ends : SameEnds (seen l.ends) (so_far (take l.draft-index l.drafts));
    }
