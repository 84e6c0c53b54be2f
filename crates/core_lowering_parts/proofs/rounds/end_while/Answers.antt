use Rattle.std.proofs.Common.{Bool, ◌&&◌, ap, ◌∙◌}
use Rattle.std.proofs.lemmas.Result.{on_ok_weaker}
use Rattle.core_lowering_rules.specs.TreesOf.{condition_of}
use Rattle.core_lowering_rules.specs.Statements.{run}
use Rattle.core_lowering_rules.specs.Context.{repeated}
use Rattle.core_lowering_context.specs.Drafts.{code_of}
use Rattle.core_lowering_parts.proofs.Becoming.{loop-made}
use Rattle.core_lowering_parts.proofs.rounds.end_while.Goals as goal

pub returns-clause-code : goal.returns-clause-code
returns-clause-code c =
    let a = c.args.context.now in
    let round = c.args.round in
    on_ok_weaker c.end_loop.result
    (loop-made repeated c.args.at round.break_to.0 c.is_left_alone.result
    ((condition_of c.args.e.now).is_true) round.has_break (code_of c.args.draft.now)
    (code_of c.lower_run.new.draft) (code_of c.repeat.new.self) (code_of c.end_loop.new.draft)
    (run a (condition_of c.args.e.now).on) c.in_ok-lower_run.ensures c.in_ok-repeat.ensures.code
    (c.is_left_alone.ensures ∙ ap (λ (b : Bool). b && round.has_break) c.is_true.ensures))
    c.end_loop.ensures.code
