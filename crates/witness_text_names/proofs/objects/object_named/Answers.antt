use Rattle.std.proofs.Common.{List, None, Some, ap, sym, ◌∙◌}
use Rattle.racer_base.specs.declared.ids.FieldId.{FieldId}
use Rattle.core_code.specs.Core.{method_of}
use Rattle.core_code.specs.Program.{core}
use Rattle.core_semantics.specs.declared.object.StartPath.{StartPath}
use Rattle.witness_text_names.specs.Indexes.{reached_of}
use Rattle.witness_text_names.specs.Names.{names_in}
use Rattle.witness_text_names.proofs.NamesCut.{some_name}
use Rattle.witness_text_names.proofs.Walks.{root_walked, seen_found}
use Rattle.witness_text_names.proofs.objects.object_named.Goals as goal

pub returns-in_default-path : goal.returns-in_default-path
returns-in_default-path c =
    let name = c.in-Some.name.now in
    let names = c.in-Some.names.now in
    root_walked (core c.args.program.now) (method_of c.args.first.now) (method_of c.args.second.now) c.args.text.now
    name (names_in names) c.in-Some-root_at.root (reached_of c.in-Some-root_reached.from) None c.in-Some.ensures.names
    (some_name names) (c.in-Some-root_at.ensures ∙ c.requires.roots name) c.in-Some-root_reached.ensures
    (ap seen_found (sym c.in_default-path.is) ∙ c.in_ok-path.ensures)

pub returns : goal.returns
returns c =
    let name = c.in-Some.name.now in
    let names = c.in-Some.names.now in
    let root = c.in-Some-root_at.root in
    ap (λ (fields : List FieldId). let path : StartPath = record { root = root; fields = fields } in Some path)
    (c.from.ensures ∙ c.in_ok-push.ensures.items)
    ∙ root_walked (core c.args.program.now) (method_of c.args.first.now) (method_of c.args.second.now) c.args.text.now
    name (names_in names) root (reached_of c.in-Some-root_reached.from)
    (Some (c.in-Some-path.path.items, c.in-Some-path.field)) c.in-Some.ensures.names (some_name names)
    (c.in-Some-root_at.ensures ∙ c.requires.roots name) c.in-Some-root_reached.ensures
    (ap seen_found (sym c.in-Some-path.is) ∙ c.in_ok-path.ensures)
