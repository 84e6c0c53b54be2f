use Rattle.std.proofs.Common.{◌≡◌, ◌++◌, Some, sym, ap, ◌∙◌, rules}
use Rattle.std.specs.Prelude.{option_map}
use Rattle.std.proofs.lemmas.Result.{on_ok_weaker}
use Rattle.core_lowering_rules.specs.TreesOf.{expr_of}
use Rattle.core_lowering_rules.specs.Statements.{returned_value, returned, sent_back}
use Rattle.core_lowering_context.specs.Drafts.{code_of}
use Rattle.core_lowering_context.proofs.Pieces.{two_pieces}
use Rattle.core_lowering_parts.proofs.returns.lower_return.Goals as goal

pub returns-clause-code : goal.returns-clause-code
returns-clause-code c =
    let context = c.args.context.now in
    let e = expr_of c.get.result.now in
    let old = code_of c.args.draft.now in
    let is : option_map expr_of c.args.e.now ≡ Some e = search rules in
    on_ok_weaker c.end_return.result
    (λ made. two_pieces old (code_of c.lower_given.new.draft) (code_of c.end_return.new.draft)
    (returned_value context context.result e) (sent_back context)
    (c.in_ok-lower_given.ensures ∙ ap (λ g. old ++ returned_value context g e) c.given.ensures) made
    ∙ ap (λ o. old ++ returned context o) (sym is))
    c.end_return.ensures.code
