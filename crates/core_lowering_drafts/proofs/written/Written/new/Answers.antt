use Rattle.std.proofs.Common.{rules}
use Rattle.core_lowering_drafts.specs.Written.{code_of}
use Rattle.core_lowering_drafts.proofs.written.Written.new.Goals as goal

pub returns : goal.returns
unfolding code_of
returns c = search rules
