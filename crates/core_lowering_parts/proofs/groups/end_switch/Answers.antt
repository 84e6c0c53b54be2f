use Rattle.core_lowering_rules.specs.Context.{Context, within}
use Rattle.core_lowering_context.specs.Drafts.{code_of}
use Rattle.core_lowering_context.specs.Beginning.{left_at}
use Rattle.core_lowering_parts.specs.StatementParts.{closed_from}
use Rattle.core_lowering_parts.proofs.Becoming.{becomes, becomes-then}
use Rattle.std.proofs.Common.{ap, ◌∙◌, ◌++◌}
use Rattle.std.proofs.lemmas.Result.{on_ok_weaker}
use Rattle.core_lowering_parts.proofs.groups.end_switch.Goals as goal

pub returns-clause-context : goal.returns-clause-context
returns-clause-context c =
    on_ok_weaker c.end_block.result
    (λ made. made ∙ ap (left_at c.args.before) c.leave_target.ensures)
    c.end_block.ensures.context

pub returns-clause-code : goal.returns-clause-code
returns-clause-code c =
    let at = c.args.at in
    let n = c.args.before in
    let exit = c.args.exit.0 in
    let a = c.args.context.now in
    let old = code_of c.args.draft.now in
    let one = code_of c.come_out.new.self in
    let new = code_of c.end_block.new.draft in
    on_ok_weaker c.end_block.result
    (λ closes left right here is.
    becomes-then at (within exit) (closed_from n c.leave_target.new.self) old one new
    (becomes at (within exit) old one c.in_ok-come_out.ensures) closes left right here is
    ∙ ap (λ (x : Context). left ++ closed_from n x (within exit right)) c.leave_target.ensures)
    c.end_block.ensures.code
