use Rattle.std.proofs.Common.{◌≡◌, ◌++◌, Some, sym, ap, ◌∙◌, rules}
use Rattle.std.specs.Prelude.{option_map}
use Rattle.std.proofs.lemmas.Result.{on_ok_weaker}
use Rattle.core_lowering_rules.specs.TreesOf.{init_of}
use Rattle.core_lowering_rules.specs.Context.{converted}
use Rattle.core_lowering_rules.specs.Expressions.{init_code, init_kind}
use Rattle.core_lowering_rules.specs.Statements.{begun, set}
use Rattle.core_lowering_context.specs.Drafts.{code_of}
use Rattle.core_lowering_context.proofs.Pieces.{two_pieces}
use Rattle.core_lowering_parts.proofs.locals.lower_begin.Goals as goal

pub returns : goal.returns
returns c =
    let context = c.args.context.now in
    let k = c.args.kind in
    let i = init_of c.in-Some.initialiser in
    let old = code_of c.args.draft.now in
    let one = code_of c.lower_initialiser.new.draft in
    let second = code_of c.convert.new.draft in
    let piece = converted context k (init_kind context i) in
    let is : option_map init_of c.args.initialiser.now ≡ Some i = search rules in
    on_ok_weaker c.set.result
    (λ made. two_pieces old second (code_of c.set.new.draft) (init_code context i ++ piece) (set context c.args.v)
    (two_pieces old one second (init_code context i) piece c.in_ok-given.ensures.code
    (c.in_ok-convert.ensures.code ∙ ap (λ g. one ++ converted context k g) c.in_ok-given.ensures.kind))
    made
    ∙ ap (λ o. old ++ begun context c.args.v k o) (sym is))
    c.set.ensures
