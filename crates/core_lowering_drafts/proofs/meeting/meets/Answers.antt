use Rattle.std.proofs.Common.{refl, ◌∙◌}
use Rattle.core_lowering_drafts.specs.EndSets.{seen, seen_asked}
use Rattle.core_lowering_drafts.specs.Lists.{ends_of}
use Rattle.core_lowering_drafts.proofs.SameEnds.{meet-same}
use Rattle.core_lowering_drafts.proofs.meeting.meets.Goals as goal

pub returns : goal.returns
returns c =
    c.meet.ensures
    ∙ meet-same (seen c.ends.result.now) (ends_of c.args.draft.now) (seen_asked c.args.asked) (seen_asked c.args.asked)
    c.ends.ensures (λ e. refl)
