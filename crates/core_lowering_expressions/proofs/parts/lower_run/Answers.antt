use Rattle.std.proofs.lemmas.Result.{on_ok_weaker}
use Rattle.core_code.specs.declared.code.Op.TheVariants.{Drop}
use Rattle.core_lowering_rules.specs.TreesOf.{expr_of}
use Rattle.core_lowering_rules.specs.Context.{op}
use Rattle.core_lowering_rules.specs.Expressions.{code}
use Rattle.core_lowering_context.specs.Drafts.{code_of}
use Rattle.core_lowering_context.proofs.Pieces.{two_pieces}
use Rattle.core_lowering_expressions.proofs.parts.lower_run.Goals as goal

pub returns : goal.returns
returns c =
    let context = c.args.context.now in
    on_ok_weaker c.op.result
    (two_pieces (code_of c.args.draft.now) (code_of c.lower_expression.new.draft) (code_of c.op.new.draft)
    (code context (expr_of c.args.e.now)) (op context Drop) c.in_ok-lower_expression.ensures.code)
    c.op.ensures.code
