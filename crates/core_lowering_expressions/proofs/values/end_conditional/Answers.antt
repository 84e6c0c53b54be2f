use Rattle.core_lowering_expressions.proofs.Joined.{chosen}
use Rattle.core_lowering_context.specs.Drafts.{code_of}
use Rattle.core_lowering_expressions.proofs.values.end_conditional.Goals as goal

pub returns-clause-code : goal.returns-clause-code
returns-clause-code c start left right at_left at_right is =
    chosen start left right (code_of c.args.draft.now) (code_of c.choose.new.self) c.args.values.0 c.args.values.1
    at_left at_right is c.in_ok-choose.ensures.code
