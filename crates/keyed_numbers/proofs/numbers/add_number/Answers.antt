use Rattle.std.proofs.Common.{rules, ◌≡◌, Some, None, cond, sym, ap, subst, ◌∙◌}
use Rattle.std.specs.Prelude.{bytes_eq, string_bytes}
use Rattle.std.specs.BTreeMap.{get_by_text, is_at}
use Rattle.std.specs.Map.{lookup}
use Rattle.std.proofs.lemmas.Result.{on_ok_weaker}
use Rattle.std.proofs.lemmas.Map.Text.{btree_map_updates_text}
use Rattle.keyed_numbers.specs.Numbers.{Key, key_cmp, key_eq, Named, keyed_at, number_in, or_added, AddsNumber}
use Rattle.keyed_numbers.proofs.Adding.{number_added}
use Rattle.keyed_numbers.proofs.numbers.add_number.Goals as goal

pub returns-in-Some : goal.returns-in-Some
returns-in-Some c =
    let old = c.args.numbers.now in
    let name = c.args.name.now in
    let key = c.args.key in
    let number = c.args.index in
    let keyed = c.add_keyed.new.keyed in
    let new = c.get_mut.follows.lender keyed in
    let puts = (c.get_mut.follows.holds keyed).3 (search rules) in
    on_ok_weaker c.add_keyed.result
    (λ made. number_added old new name key number keyed
    (λ k. made k ∙ ap (λ o. or_added (key_eq key k) number (number_in k o)) c.in-Some.ensures.value)
    (btree_map_updates_text name old new (Some keyed) puts))
    c.add_keyed.ensures

pub returns : goal.returns
returns c =
    let kept = c.get_mut.follows.lender-at-none in
    let unchanged = c.get_mut.follows.holds-at-none in
    let name = c.args.name.now in
    let key = c.args.key in
    let number = c.args.index in
    let new = c.insert.new.self in
    let keyed = c.add_keyed-2.new.keyed in
    let text = c.in_ok-from_str.field-0 in
    let bytes : string_bytes text ≡ name = c.in_ok-from_str.ensures.ok in
    let none : None ≡ get_by_text kept name =
    c.in_default.ensures.value ∙ ap (λ (old : Named). get_by_text old name) (sym unchanged) in
    let empty : (k : Key) → keyed_at c.new-keyed.result k ≡ None =
    λ k. ap (lookup (is_at (key_cmp k))) c.new-keyed.ensures.empty in
    let puts = btree_map_updates_text (string_bytes text) kept new (Some keyed) c.in_ok-insert.ensures.updates in
    subst (λ (old : Named). AddsNumber old new name key number) unchanged
    (number_added kept new name key number keyed
    (λ k.
    c.in_ok-add_keyed.ensures k
    ∙ ap (or_added (key_eq key k) number) (empty k ∙ ap (number_in k) none))
    (λ other.
    puts other ∙ ap (λ bs. cond (bytes_eq bs other) (Some keyed) (get_by_text kept other)) bytes))
