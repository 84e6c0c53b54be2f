use Rattle.core_lowering_drafts.proofs.Exact.{draft-exact}
use Rattle.core_lowering_drafts.proofs.laws.paths_end.Goals as goal

pub returns-clause-there : goal.returns-clause-there
returns-clause-there c draft = (draft-exact draft).there

pub returns-clause-back : goal.returns-clause-back
returns-clause-back c draft = (draft-exact draft).back
