use Rattle.std.proofs.Common.{rules, ◌≡◌, [], ◌∷◌, ◌++◌, Some, None, cond, List, ℕ, sym, ap, subst, ◌∙◌}
use Rattle.std.specs.Prelude.{bytes_eq, string_bytes}
use Rattle.std.specs.BTreeMap.{get_by_text}
use Rattle.std.proofs.lemmas.Result.{on_ok_weaker}
use Rattle.std.proofs.lemmas.Map.Text.{btree_map_updates_text}
use Rattle.core_lowering_context.specs.Seen.{ByName, items_in, seen_at, ChangesAt}
use Rattle.core_lowering_context.proofs.NamedVariables.{changed}
use Rattle.core_lowering_context.proofs.by_name.add.Goals as goal

pub returns-in-Some : goal.returns-in-Some
returns-in-Some c =
    let old = c.args.index.now in
    let name = c.args.name.now in
    let all = c.push.new.all in
    let new = c.get_mut.follows.lender all in
    let puts = (c.get_mut.follows.holds all).3 (search rules) in
    on_ok_weaker c.push.result
    (λ made. changed old new name all (seen_at old name ++ (c.args.id, c.args.known) ∷ [])
    (made ∙ ap (λ o. items_in o ++ (c.args.id, c.args.known) ∷ []) c.in-Some.ensures.value)
    (btree_map_updates_text name old new (Some all) puts))
    c.push.ensures

pub returns : goal.returns
returns c =
    let kept = c.get_mut.follows.lender-at-none in
    let unchanged = c.get_mut.follows.holds-at-none in
    let name = c.args.name.now in
    let new = c.insert.new.self in
    let all = c.push-2.new.all in
    let text = c.in_ok-from_str.field-0 in
    let bytes : string_bytes text ≡ name = c.in_ok-from_str.ensures.ok in
    let none : None ≡ get_by_text kept name =
    c.in_default.ensures.value ∙ ap (λ (old : ByName). get_by_text old name) (sym unchanged) in
    let puts = btree_map_updates_text (string_bytes text) kept new (Some all) c.in_ok-insert.ensures.updates in
    subst (λ (old : ByName). ChangesAt old new name (seen_at old name ++ (c.args.id, c.args.known) ∷ [])) unchanged
    (changed kept new name all (seen_at kept name ++ (c.args.id, c.args.known) ∷ [])
    (c.in_ok-push.ensures ∙ ap (λ xs. xs ++ (c.args.id, c.args.known) ∷ []) (c.new-all.ensures.items
    ∙ ap items_in none))
    (λ (other : List ℕ).
    puts other ∙ ap (λ bs. cond (bytes_eq bs other) (Some all) (get_by_text kept other)) bytes))
