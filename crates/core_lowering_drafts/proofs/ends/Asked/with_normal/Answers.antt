use Rattle.core_lowering_drafts.specs.EndSets.{exits_asked}
use Rattle.core_lowering_drafts.proofs.DraftEnds.{normal-put}
use Rattle.core_lowering_drafts.proofs.ends.Asked.with_normal.Goals as goal

pub returns : goal.returns
returns c = normal-put c.args.self.normal c.args.self.returns c.args.self.throws (exits_asked c.args.self.exits)
