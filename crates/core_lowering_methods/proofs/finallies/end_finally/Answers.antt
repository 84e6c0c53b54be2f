use Rattle.std.proofs.lemmas.Result.{on_ok_weaker}
use Rattle.core_lowering_context.specs.Drafts.{code_of}
use Rattle.core_lowering_methods.proofs.FinallyCode.{finally-made}
use Rattle.core_lowering_methods.proofs.finallies.end_finally.Goals as goal

pub returns-clause-context : goal.returns-clause-context
returns-clause-context c =
    on_ok_weaker c.end_returned.result (λ made. c.in_ok-lower_last.ensures.context) c.end_returned.ensures

pub returns-clause-code : goal.returns-clause-code
returns-clause-code c =
    on_ok_weaker c.end_returned.result
    (finally-made c.args.context.now c.lower_last.new.context c.args.variable c.args.exit.0 c.args.at c.args.behind
    c.len-end.result (code_of c.args.draft.now) (code_of c.lower_last.new.draft) (code_of c.taken.new.self)
    (code_of c.taken-2.new.self) (code_of c.taken-3.new.self) (code_of c.guard.new.self)
    (code_of c.end_returned.new.draft) c.in_ok-first.first c.in_ok-finally.finally c.in_ok-last.last
    c.len-end.ensures c.in_ok-lower_last.ensures.code c.in_ok-lower_last.ensures.context
    c.in_ok-last.ensures.kept c.in_ok-last.ensures.taken c.in_ok-finally.ensures.kept
    c.in_ok-finally.ensures.taken c.in_ok-first.ensures.kept c.in_ok-first.ensures.taken c.in_ok-guard.ensures)
    c.end_returned.ensures
