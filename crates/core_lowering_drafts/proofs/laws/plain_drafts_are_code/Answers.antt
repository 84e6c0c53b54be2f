use Rattle.core_lowering_drafts.proofs.PlainCode.{plain-code}
use Rattle.core_lowering_drafts.proofs.laws.plain_drafts_are_code.Goals as goal

pub returns : goal.returns
returns c = plain-code
