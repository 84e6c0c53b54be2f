use Rattle.core_lowering_drafts.specs.EndSets.{exits_asked}
use Rattle.core_lowering_drafts.proofs.EndSets.{without-listed}
use Rattle.core_lowering_drafts.proofs.ends.Asked.without_normal.Goals as goal

pub returns : goal.returns
returns c = without-listed c.args.self.normal c.args.self.returns c.args.self.throws (exits_asked c.args.self.exits)
