use Rattle.core_lowering_context.specs.Drafts.{code_of}
use Rattle.core_lowering_context.proofs.making.Making.len.Goals as goal

pub returns : goal.returns
unfolding code_of
returns c = c.args.self.now.counted
