use Rattle.std.proofs.Common.{Bool, ◌&&◌, ap, ◌∙◌}
use Rattle.std.proofs.lemmas.Result.{on_ok_weaker}
use Rattle.std.proofs.Common.{map, option_map}
use Rattle.core_lowering_rules.specs.Trees.{pack_exprs}
use Rattle.core_lowering_rules.specs.TreesOf.{expr_of, condition_of}
use Rattle.core_lowering_rules.specs.Statements.{is_endless}
use Rattle.core_lowering_parts.specs.StatementParts.{turned}
use Rattle.core_lowering_rules.specs.Context.{repeated}
use Rattle.core_lowering_context.specs.Drafts.{code_of}
use Rattle.core_lowering_parts.proofs.Becoming.{loop-made}
use Rattle.core_lowering_parts.proofs.rounds.end_for.Goals as goal

pub returns-clause-code : goal.returns-clause-code
returns-clause-code c =
    let a = c.args.context.now in
    let round = c.args.round in
    on_ok_weaker c.end_loop.result
    (loop-made repeated c.args.at round.break_to.0 c.is_left_alone.result
    (is_endless (option_map condition_of c.args.e.now)) round.has_break (code_of c.args.draft.now)
    (code_of c.lower_turn.new.draft) (code_of c.repeat.new.self) (code_of c.end_loop.new.draft)
    (turned a (option_map condition_of c.args.e.now) (pack_exprs (map expr_of c.args.updates.now)))
    c.in_ok-lower_turn.ensures c.in_ok-repeat.ensures.code
    (c.is_left_alone.ensures ∙ ap (λ (b : Bool). b && round.has_break) c.is_endless.ensures))
    c.end_loop.ensures.code
