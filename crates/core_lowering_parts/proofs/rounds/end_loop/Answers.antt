use Rattle.std.proofs.Common.{◌++◌}
use Rattle.core_lowering_rules.specs.Context.{within}
use Rattle.core_lowering_context.specs.Drafts.{code_of}
use Rattle.core_lowering_parts.specs.StatementParts.{nothing_behind}
use Rattle.core_lowering_parts.proofs.Becoming.{becomes, becomes-then, becomes-more}
use Rattle.core_lowering_parts.proofs.rounds.end_loop.Goals as goal

pub returns-clause-code : goal.returns-clause-code
returns-clause-code c =
    let at = c.args.at in
    let exit = c.args.break_to.0 in
    let old = code_of c.args.draft.now in
    let one = code_of c.end_endless.new.draft in
    let new = code_of c.come_out.new.self in
    let more = nothing_behind c.args.is_endless in
    becomes-then at (λ x. x ++ more) (within exit) old one new
    (becomes-more at old one more c.in_ok-end_endless.ensures)
    (becomes at (within exit) one new c.in_ok-come_out.ensures)
