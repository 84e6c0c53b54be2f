use Rattle.std.proofs.Common.{rules, ◌≡◌, None, Some, cond, sym, ap, subst, ◌∙◌, nat_eq}
use Rattle.std.specs.Prelude.{bytes_eq, string_bytes}
use Rattle.std.specs.BTreeMap.{get_by_text, is_at}
use Rattle.std.specs.Map.{lookup}
use Rattle.std.specs.Option.{option_or}
use Rattle.std.specs.Ordering.{nat_cmp}
use Rattle.std.proofs.lemmas.Result.{on_ok_weaker}
use Rattle.std.proofs.lemmas.Map.Text.{btree_map_updates_text}
use Rattle.witness_text_names.specs.Indexes.{AddsField, FieldIndex, keyed_at}
use Rattle.witness_text_names.proofs.FieldsIndexed.{field_added}
use Rattle.witness_text_names.proofs.fields.add_field.Goals as goal

pub returns-in-Some : goal.returns-in-Some
returns-in-Some c =
    let old = c.args.fields.now in
    let field = c.args.field.now in
    let number = c.args.number in
    let name = c.as_str-name.result.now in
    let keyed = c.add_keyed.new.keyed in
    let new = c.get_mut.follows.lender keyed in
    let puts = (c.get_mut.follows.holds keyed).3 (search rules) in
    on_ok_weaker c.add_keyed.result
    (λ made. field_added old new field number name keyed c.as_str-name.ensures
    (λ d. made d ∙ ap (λ o. option_or (keyed_at d o) (cond (nat_eq field.class.0 d) (Some number) None))
    c.in-Some.ensures.value)
    (btree_map_updates_text name old new (Some keyed) puts))
    c.add_keyed.ensures

pub returns : goal.returns
returns c =
    let kept = c.get_mut.follows.lender-at-none in
    let unchanged = c.get_mut.follows.holds-at-none in
    let field = c.args.field.now in
    let number = c.args.number in
    let name = c.as_str-name.result.now in
    let new = c.insert.new.self in
    let keyed = c.add_keyed-2.new.keyed in
    let text = c.in_ok-from_str.field-0 in
    let bytes : string_bytes text ≡ name = c.in_ok-from_str.ensures.ok in
    let none : None ≡ get_by_text kept name =
    c.in_default.ensures.value ∙ ap (λ (old : FieldIndex). get_by_text old name) (sym unchanged) in
    let puts = btree_map_updates_text (string_bytes text) kept new (Some keyed) c.in_ok-insert.ensures.updates in
    subst (λ (old : FieldIndex). AddsField field number old new) unchanged
    (field_added kept new field number name keyed c.as_str-name.ensures
    (λ d.
    c.in_ok-add_keyed.ensures d
    ∙ ap (λ o. option_or o (cond (nat_eq field.class.0 d) (Some number) None))
    (ap (lookup (is_at (nat_cmp d))) c.new-keyed.ensures.empty ∙ ap (keyed_at d) none))
    (λ other.
    puts other ∙ ap (λ bs. cond (bytes_eq bs other) (Some keyed) (get_by_text kept other)) bytes))
