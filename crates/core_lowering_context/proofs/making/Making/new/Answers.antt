use Rattle.std.proofs.Common.{ap}
use Rattle.core_lowering_drafts.specs.Pieces.{all_parts}
use Rattle.core_lowering_context.specs.Drafts.{code_of}
use Rattle.core_lowering_context.proofs.making.Making.new.Goals as goal

pub returns : goal.returns
unfolding code_of
returns c = ap all_parts c.new.ensures.items
