use Rattle.std.proofs.Common.{◌≡◌, true, false, None, Some, ap, sym, ◌∙◌}
use Rattle.core_code.specs.Core.{method_of}
use Rattle.core_code.specs.Program.{core}
use Rattle.witness_text_names.specs.Indexes.{reached_of}
use Rattle.witness_text_names.specs.Names.{names_in}
use Rattle.witness_text_names.specs.Objects.{is_shared}
use Rattle.witness_text_names.proofs.CellWalks.{cell_walked, no_names, no_root, own_root, shared_leads}
use Rattle.witness_text_names.proofs.Walks.{seen_found}
use Rattle.witness_text_names.proofs.cells.cell_named.Goals as goal

pub returns-in_default : goal.returns-in_default
returns-in_default c =
    no_names (core c.args.program.now) (method_of c.args.first.now) (method_of c.args.second.now) c.args.text.now
    c.in_default.ensures.names

pub returns-in_default-root_at : goal.returns-in_default-root_at
returns-in_default-root_at c =
    let name = c.in-Some.name.now in
    no_root (core c.args.program.now) (method_of c.args.first.now) (method_of c.args.second.now) c.args.text.now name
    (names_in c.in-Some.names.now) c.in-Some.ensures.names (c.in_default-root_at.ensures ∙ c.requires.roots name)

pub returns-then-not-is_shared : goal.returns-then-not-is_shared
returns-then-not-is_shared c =
    let name = c.in-Some.name.now in
    let root = c.in-Some-root_at.root in
    let own : false ≡ is_shared root = sym (sym c.is_shared.ensures ∙ c.if-not-is_shared.true) in
    own_root (core c.args.program.now) (method_of c.args.first.now) (method_of c.args.second.now) c.args.text.now name
    (names_in c.in-Some.names.now) root c.in-Some.ensures.names (c.in-Some-root_at.ensures ∙ c.requires.roots name) own

pub returns-in_default-root_reached : goal.returns-in_default-root_reached
returns-in_default-root_reached c =
    let root = c.in-Some-root_at.root in
    let shared : true ≡ is_shared root = sym (sym c.is_shared.ensures ∙ c.if-not-is_shared.false) in
    absurd (shared_leads (method_of c.args.first.now) (method_of c.args.second.now) root shared
    c.in_default-root_reached.ensures)

pub returns-in_default-path : goal.returns-in_default-path
returns-in_default-path c =
    let name = c.in-Some.name.now in
    let root = c.in-Some-root_at.root in
    let shared : true ≡ is_shared root = sym (sym c.is_shared.ensures ∙ c.if-not-is_shared.false) in
    cell_walked (core c.args.program.now) (method_of c.args.first.now) (method_of c.args.second.now)
    c.args.text.now name (names_in c.in-Some.names.now) root (reached_of c.in-Some-root_reached.from) None
    c.in-Some.ensures.names (c.in-Some-root_at.ensures ∙ c.requires.roots name) shared
    c.in-Some-root_reached.ensures (ap seen_found (sym c.in_default-path.is) ∙ c.in_ok-path.ensures)

pub returns : goal.returns
returns c =
    let name = c.in-Some.name.now in
    let root = c.in-Some-root_at.root in
    let shared : true ≡ is_shared root = sym (sym c.is_shared.ensures ∙ c.if-not-is_shared.false) in
    c.short_cell.ensures
    ∙ cell_walked (core c.args.program.now) (method_of c.args.first.now) (method_of c.args.second.now)
    c.args.text.now name (names_in c.in-Some.names.now) root (reached_of c.in-Some-root_reached.from)
    (Some (c.in-Some-path.path.items, c.in-Some-path.field)) c.in-Some.ensures.names
    (c.in-Some-root_at.ensures ∙ c.requires.roots name) shared c.in-Some-root_reached.ensures
    (ap seen_found (sym c.in-Some-path.is) ∙ c.in_ok-path.ensures)
