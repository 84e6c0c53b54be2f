use Rattle.core_lowering_drafts.proofs.Unmet.{unmet-code}
use Rattle.core_lowering_drafts.proofs.laws.unmet_drafts_are_nothing.Goals as goal

pub returns : goal.returns
returns c = unmet-code
