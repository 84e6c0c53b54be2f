use Rattle.std.proofs.Common.{◌≡◌, ◌++◌, sym, ap, ◌∙◌, rules}
use Rattle.std.proofs.lemmas.Result.{on_ok_weaker}
use Rattle.core_lowering_rules.specs.TreesOf.{expr_of}
use Rattle.core_lowering_rules.specs.Context.{Itself, Nothing, Value, converted, op, push_this}
use Rattle.core_lowering_rules.specs.Expressions.{code, kind}
use Rattle.core_lowering_rules.specs.Statements.{run, returned_value}
use Rattle.core_code.specs.declared.code.Op.TheVariants.{PushPrim}
use Rattle.core_lowering_context.specs.Drafts.{code_of}
use Rattle.core_lowering_context.specs.Views.{given_of}
use Rattle.core_lowering_context.proofs.Pieces.{two_pieces}
use Rattle.core_lowering_parts.proofs.returns.lower_given.Goals as goal

pub returns-in_ok-value-in-Value : goal.returns-in_ok-value-in-Value
returns-in_ok-value-in-Value c =
    let context = c.args.context.now in
    let e = expr_of c.args.e.now in
    let k = c.in-Value.kind in
    let old = code_of c.args.draft.now in
    let one = code_of c.lower_expression.new.draft in
    let is : given_of c.args.given ≡ Value k = search rules in
    on_ok_weaker c.convert.result
    (λ made. two_pieces old one (code_of c.convert.new.draft) (code context e) (converted context k (kind context e))
    c.in_ok-value-in-Value.ensures.code (made
    ∙ ap (λ g. one ++ converted context k g) c.in_ok-value-in-Value.ensures.kind)
    ∙ ap (λ g. old ++ returned_value context g e) (sym is))
    c.convert.ensures.code

pub returns-in_ok-lower_run-in-Itself : goal.returns-in_ok-lower_run-in-Itself
returns-in_ok-lower_run-in-Itself c =
    let context = c.args.context.now in
    let e = expr_of c.args.e.now in
    let old = code_of c.args.draft.now in
    let is : given_of c.args.given ≡ Itself = search rules in
    on_ok_weaker c.push_this.result
    (λ made. two_pieces old (code_of c.lower_run.new.draft) (code_of c.push_this.new.draft) (run context e)
    (push_this context) c.in_ok-lower_run-in-Itself.ensures made
    ∙ ap (λ g. old ++ returned_value context g e) (sym is))
    c.push_this.ensures.code

pub returns-in_ok-lower_run-in-Nothing : goal.returns-in_ok-lower_run-in-Nothing
returns-in_ok-lower_run-in-Nothing c =
    let context = c.args.context.now in
    let e = expr_of c.args.e.now in
    let old = code_of c.args.draft.now in
    let is : given_of c.args.given ≡ Nothing = search rules in
    on_ok_weaker c.op.result
    (λ made. two_pieces old (code_of c.lower_run-in-Nothing.new.draft) (code_of c.op.new.draft) (run context e)
    (op context PushPrim) c.in_ok-lower_run-in-Nothing.ensures made
    ∙ ap (λ g. old ++ returned_value context g e) (sym is))
    c.op.ensures.code
