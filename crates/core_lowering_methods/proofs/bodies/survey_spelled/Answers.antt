use Rattle.std.proofs.Common.{◌≡◌, [], refl, ap, ◌∙◌}
use Rattle.std.specs.Prelude.{None}
use Rattle.core_code.specs.Tree.{tree_of}
use Rattle.core_lowering_rules.specs.Context.{Context}
use Rattle.core_lowering_rules.specs.Methods.{body_of, is_large, outside_methods}
use Rattle.core_lowering_rules.specs.Scopes.{after_all}
use Rattle.core_lowering_rules.specs.Statements.{closed, returned, stmts}
use Rattle.core_lowering_context.specs.Beginning.{inside}
use Rattle.core_lowering_methods.specs.Bodies.{object_begun, owner_pushed}
use Rattle.core_lowering_methods.specs.Extents.{is_past}
use Rattle.core_lowering_context.specs.Views.{folder_of}
use Rattle.core_lowering_context.specs.Sources.{source_of}
use Rattle.core_lowering_methods.proofs.MethodCode.{measured-past, spelled-made}
use Rattle.core_lowering_methods.proofs.bodies.survey_spelled.Goals as goal

pub returns-clause-extent : goal.returns-clause-extent
returns-clause-extent c =
    let folder = folder_of c.args.table.now c.args.cells.now [] in
    let source = source_of c.args.source.now in
    let m = c.args.m.now in
    measured-past folder source m (is_past c.in_ok-measured.measured.extent) c.in_ok-parts.parts.block
    c.in_ok-measured.ensures.extent
    (c.in_ok-parts.ensures.block
    ∙ ap (λ (x : Context). closed x (after_all x (body_of m)) (stmts x (body_of m))) c.in_ok-context.ensures)

pub returns-clause-code : goal.returns-clause-code
returns-clause-code c =
    let folder = folder_of c.args.table.now c.args.cells.now [] in
    let source = source_of c.args.source.now in
    let m = c.args.m.now in
    let parts = c.in_ok-parts.parts in
    let past : is_past c.in_ok-measured.measured.extent ≡ is_large (inside folder source m) m =
    measured-past folder source m (is_past c.in_ok-measured.measured.extent) parts.block c.in_ok-measured.ensures.extent
    (c.in_ok-parts.ensures.block
    ∙ ap (λ (x : Context). closed x (after_all x (body_of m)) (stmts x (body_of m))) c.in_ok-context.ensures) in
    spelled-made folder source m (is_past c.in_ok-measured.measured.extent) c.args.source.now.info.now.place
    parts.fields parts.owner parts.block parts.last (tree_of c.in_ok-measured.measured.code) past refl
    (c.in_ok-parts.ensures.fields
    ∙ ap (λ (x : Context). object_begun (outside_methods x) source.members m) c.in_ok-context.ensures)
    (c.in_ok-parts.ensures.owner ∙ ap (λ (x : Context). owner_pushed x m) c.in_ok-context.ensures)
    (c.in_ok-parts.ensures.block
    ∙ ap (λ (x : Context). closed x (after_all x (body_of m)) (stmts x (body_of m))) c.in_ok-context.ensures)
    (c.in_ok-parts.ensures.last ∙ ap (λ (x : Context). returned x None) c.in_ok-context.ensures)
    c.in_ok-measured.ensures.code
