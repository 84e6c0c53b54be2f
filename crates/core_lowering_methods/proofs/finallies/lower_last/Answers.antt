use Rattle.std.proofs.Common.{◌≡◌, ◌++◌, Option, Some, sym, ap, ◌∙◌, rules}
use Rattle.std.proofs.lemmas.Result.{on_ok_weaker}
use Rattle.racer_base.specs.declared.ids.VarId.{VarId}
use Rattle.core_code.specs.declared.code.Op.TheVariants.{Push}
use Rattle.core_lowering_rules.specs.Context.{op}
use Rattle.core_lowering_rules.specs.Statements.{last_of, sent_back}
use Rattle.core_lowering_context.specs.Drafts.{code_of}
use Rattle.core_lowering_context.proofs.Pieces.{two_pieces}
use Rattle.core_lowering_methods.proofs.finallies.lower_last.Goals as goal

pub returns-clause-code : goal.returns-clause-code
returns-clause-code c =
    let a = c.args.context.now in
    let old = code_of c.args.draft.now in
    let v = c.in-Some.v in
    let is : c.args.variable ≡ Some v = search rules in
    on_ok_weaker c.end_return.result
    (λ made. two_pieces old (code_of c.op.new.draft) (code_of c.end_return.new.draft) (op a (Push v)) (sent_back a)
    c.in_ok-op.ensures.code made
    ∙ ap (λ (o : Option VarId). old ++ last_of a o) (sym is))
    c.end_return.ensures.code
