use Rattle.core_lowering_drafts.proofs.CodeCut.{code-cut}
use Rattle.core_lowering_drafts.proofs.laws.code_is_cut.Goals as goal

pub returns : goal.returns
returns c = code-cut
