use Rattle.core_lowering_drafts.proofs.DraftEnds.{normal-put}
use Rattle.core_lowering_drafts.proofs.ends.Ends.put_normal.Goals as goal

pub returns : goal.returns
returns c = normal-put c.args.self.now.normal c.args.self.now.returns c.args.self.now.throws c.args.self.now.exits.keys
