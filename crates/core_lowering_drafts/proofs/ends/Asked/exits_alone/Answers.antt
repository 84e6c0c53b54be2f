use Rattle.core_lowering_drafts.specs.EndSets.{exits_asked}
use Rattle.core_lowering_drafts.proofs.EndSets.{exits-listed}
use Rattle.core_lowering_drafts.proofs.ends.Asked.exits_alone.Goals as goal

pub returns : goal.returns
returns c = exits-listed c.args.self.normal c.args.self.returns c.args.self.throws (exits_asked c.args.self.exits)
