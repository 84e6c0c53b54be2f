use Rattle.core_lowering_drafts.proofs.PathsKept.{paths-kept}
use Rattle.core_lowering_drafts.proofs.laws.paths_are_kept.Goals as goal

pub returns : goal.returns
returns c = paths-kept
