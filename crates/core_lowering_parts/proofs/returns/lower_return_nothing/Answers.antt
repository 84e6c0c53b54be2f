use Rattle.std.proofs.Common.{◌++◌, ap, ◌∙◌}
use Rattle.std.proofs.lemmas.Result.{on_ok_weaker}
use Rattle.core_lowering_rules.specs.Statements.{returned_nothing, sent_back}
use Rattle.core_lowering_context.specs.Drafts.{code_of}
use Rattle.core_lowering_context.proofs.Pieces.{two_pieces}
use Rattle.core_lowering_parts.proofs.returns.lower_return_nothing.Goals as goal

pub returns-clause-code : goal.returns-clause-code
returns-clause-code c =
    let context = c.args.context.now in
    let old = code_of c.args.draft.now in
    on_ok_weaker c.end_return.result
    (two_pieces old (code_of c.push_nothing.new.draft) (code_of c.end_return.new.draft)
    (returned_nothing context context.result) (sent_back context)
    (c.in_ok-push_nothing.ensures ∙ ap (λ g. old ++ returned_nothing context g) c.given.ensures))
    c.end_return.ensures.code
