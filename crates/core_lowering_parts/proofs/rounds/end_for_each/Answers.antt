use Rattle.std.proofs.Common.{false}
use Rattle.std.proofs.lemmas.Result.{on_ok_weaker}
use Rattle.core_lowering_rules.specs.Context.{repeated}
use Rattle.core_lowering_context.specs.Drafts.{code_of}
use Rattle.core_lowering_parts.specs.StatementParts.{broken_at}
use Rattle.core_lowering_parts.proofs.Becoming.{becomes, becomes-then}
use Rattle.core_lowering_parts.proofs.rounds.end_for_each.Goals as goal

pub returns-clause-code : goal.returns-clause-code
returns-clause-code c =
    let at = c.args.at in
    let old = code_of c.args.draft.now in
    let one = code_of c.repeat.new.self in
    on_ok_weaker c.end_loop.result
    (becomes-then at repeated (broken_at c.args.round.break_to.0 false) old one (code_of c.end_loop.new.draft)
    (becomes at repeated old one c.in_ok-repeat.ensures.code))
    c.end_loop.ensures.code
