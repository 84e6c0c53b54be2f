use Rattle.core_lowering_drafts.proofs.EndSets.{nil-truth}
use Rattle.core_lowering_drafts.proofs.ends.is_empty.Goals as goal

pub returns : goal.returns
returns c = nil-truth c.is_empty.result c.args.exits.now.keys c.is_empty.ensures
