use Rattle.std.proofs.Common.{refl, ◌∙◌}
use Rattle.core_lowering_drafts.specs.Drafts.{part_ends}
use Rattle.core_lowering_drafts.specs.EndSets.{seen, seen_asked}
use Rattle.core_lowering_drafts.specs.Pieces.{part_of}
use Rattle.core_lowering_drafts.proofs.SameEnds.{meet-same}
use Rattle.core_lowering_drafts.proofs.meeting.made_meets.Goals as goal

pub returns : goal.returns
returns c =
    let A = seen_asked c.args.asked in
    c.meet.ensures
    ∙ meet-same (seen c.in_ok-ends.ends) (part_ends (part_of c.args.part.now)) A A c.in_ok-ends.ensures (λ e. refl)
