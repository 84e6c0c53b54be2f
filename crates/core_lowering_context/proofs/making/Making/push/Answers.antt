use Rattle.std.proofs.Common.{ap, ◌∙◌}
use Rattle.core_lowering_drafts.specs.Pieces.{all_parts}
use Rattle.core_lowering_context.specs.Drafts.{code_of}
use Rattle.core_lowering_context.proofs.Borders.{all-one}
use Rattle.core_lowering_context.proofs.Fronts.{on_any_err}
use Rattle.core_lowering_context.proofs.making.Making.push.Goals as goal

pub returns-clause-code : goal.returns-clause-code
unfolding code_of
returns-clause-code c =
    ap all_parts c.in_ok-push.ensures.items ∙ all-one c.args.self.now.pieces.items c.args.piece

pub returns-in_err-push-clause-err : goal.returns-in_err-push-clause-err
unfolding code_of
returns-in_err-push-clause-err c = on_any_err _ (ap all_parts c.in_err-push.ensures.items)
