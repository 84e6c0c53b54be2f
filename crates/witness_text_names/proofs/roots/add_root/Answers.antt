use Rattle.std.proofs.Common.{Some, ap, ◌∙◌}
use Rattle.std.specs.Prelude.{string_bytes}
use Rattle.std.proofs.lemmas.Map.Text.{btree_map_updates_text}
use Rattle.core_code.specs.Program.{core}
use Rattle.witness_text_names.specs.Indexes.{root_at}
use Rattle.witness_text_names.proofs.RootsIndexed.{root_added}
use Rattle.witness_text_names.proofs.roots.add_root.Goals as goal

pub returns : goal.returns
returns c =
    let old = c.args.roots.now in
    let text = c.in_ok-text.text in
    root_added (core c.args.program.now) c.args.root old c.insert.new.self (string_bytes text) c.in_ok-text.ensures
    (c.in_default.ensures ∙ ap (root_at old) c.as_str.ensures.value)
    (btree_map_updates_text (string_bytes text) old c.insert.new.self (Some c.args.root) c.in_ok-insert.ensures.updates)
