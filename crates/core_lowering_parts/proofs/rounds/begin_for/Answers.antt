use Rattle.std.proofs.Common.{◌++◌, ap, ◌∙◌}
use Rattle.std.specs.Prelude.{option_map}
use Rattle.std.proofs.lemmas.Result.{on_ok_weaker}
use Rattle.core_lowering_rules.specs.TreesOf.{condition_of, start_of}
use Rattle.core_lowering_rules.specs.Context.{Context}
use Rattle.core_lowering_rules.specs.Scopes.{started}
use Rattle.core_lowering_rules.specs.Statements.{tested, start}
use Rattle.core_lowering_context.specs.Drafts.{code_of}
use Rattle.core_lowering_context.proofs.Pieces.{two_pieces}
use Rattle.core_lowering_parts.proofs.rounds.begin_for.Goals as goal

pub returns-clause-context : goal.returns-clause-context
returns-clause-context c =
    on_ok_weaker c.lower_tested.result (λ made. c.in_ok-lower_start.ensures.context) c.lower_tested.ensures

pub returns-clause-code : goal.returns-clause-code
returns-clause-code c =
    let a = c.args.context.now in
    let i = start_of c.args.start.now in
    let e = option_map condition_of c.args.e.now in
    let one = code_of c.lower_start.new.draft in
    on_ok_weaker c.lower_tested.result
    (λ made. two_pieces (code_of c.args.draft.now) one (code_of c.lower_tested.new.draft) (start a i)
    (tested (started a i) e) c.in_ok-lower_start.ensures.code
    (made ∙ ap (λ (inside : Context). one ++ tested inside e) c.in_ok-lower_start.ensures.context))
    c.lower_tested.ensures
