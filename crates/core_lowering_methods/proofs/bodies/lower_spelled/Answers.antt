use Rattle.std.proofs.Common.{[], refl, ap, ◌∙◌}
use Rattle.core_code.specs.Tree.{tree_of}
use Rattle.core_lowering_rules.specs.Context.{Context}
use Rattle.core_lowering_rules.specs.Methods.{body_of, outside_methods}
use Rattle.core_lowering_rules.specs.Scopes.{after_all}
use Rattle.core_lowering_rules.specs.Statements.{closed, returned, stmts}
use Rattle.std.specs.Prelude.{None}
use Rattle.core_lowering_methods.specs.Bodies.{object_begun, owner_pushed}
use Rattle.core_lowering_methods.specs.Extents.{is_past}
use Rattle.core_lowering_context.specs.Views.{folder_of}
use Rattle.core_lowering_context.specs.Sources.{source_of}
use Rattle.core_lowering_methods.proofs.MethodCode.{known-past, spelled-made}
use Rattle.core_lowering_methods.proofs.bodies.lower_spelled.Goals as goal

pub returns-clause-code : goal.returns-clause-code
returns-clause-code c =
    let table = c.args.table.now in
    let folder = folder_of table c.args.cells.now c.args.statuses.now in
    let source = source_of c.args.source.now in
    let m = c.args.m.now in
    let parts = c.in_ok-parts.parts in
    spelled-made folder source m (is_past c.args.extent) c.args.source.now.info.now.place parts.fields parts.owner
    parts.block parts.last (tree_of c.in_ok-code.code)
    (known-past (folder_of table c.args.cells.now []) folder source m (is_past c.args.extent) refl c.requires) refl
    (c.in_ok-parts.ensures.fields
    ∙ ap (λ (x : Context). object_begun (outside_methods x) source.members m) c.in_ok-context.ensures)
    (c.in_ok-parts.ensures.owner ∙ ap (λ (x : Context). owner_pushed x m) c.in_ok-context.ensures)
    (c.in_ok-parts.ensures.block
    ∙ ap (λ (x : Context). closed x (after_all x (body_of m)) (stmts x (body_of m))) c.in_ok-context.ensures)
    (c.in_ok-parts.ensures.last ∙ ap (λ (x : Context). returned x None) c.in_ok-context.ensures)
    c.in_ok-code.ensures
