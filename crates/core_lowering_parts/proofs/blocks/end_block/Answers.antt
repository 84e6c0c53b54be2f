use Rattle.std.proofs.Common.{List, ap, ◌∙◌}
use Rattle.std.specs.Prelude.{◌++◌, take, drop}
use Rattle.racer_base.specs.declared.ids.VarId.{VarId}
use Rattle.racer_base.specs.declared.ids.Place.{Place}
use Rattle.core_lowering_rules.specs.Context.{ending}
use Rattle.core_lowering_context.specs.Drafts.{code_of}
use Rattle.core_lowering_parts.specs.StatementParts.{closed_from}
use Rattle.core_lowering_parts.proofs.Becoming.{becomes}
use Rattle.core_lowering_parts.proofs.blocks.end_block.Goals as goal

pub returns-clause-code : goal.returns-clause-code
returns-clause-code c =
    let a = c.args.context.now in
    let at = c.args.at in
    let n = c.args.before in
    let old = code_of c.args.draft.now in
    becomes at (closed_from n a) old (code_of c.end.new.self)
    (c.in_ok-end.ensures
    ∙ ap (λ (place : Place). take at old ++ ending place c.in_ok-variables.variables.items (drop at old))
    c.place.ensures
    ∙ ap (λ (vs : List VarId). take at old ++ ending a.place vs (drop at old)) c.in_ok-variables.ensures)
