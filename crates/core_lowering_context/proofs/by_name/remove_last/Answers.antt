use Rattle.std.proofs.Common.{rules, ◌≡◌, Some, None, sym, ap, subst, ◌∙◌}
use Rattle.std.specs.BTreeMap.{get_by_text}
use Rattle.std.proofs.lemmas.Map.Text.{btree_map_updates_text}
use Rattle.core_lowering_context.specs.Seen.{ByName, items_in, seen_at, front_of, ChangesAt}
use Rattle.core_lowering_context.proofs.NamedVariables.{changed, kept}
use Rattle.core_lowering_context.proofs.by_name.remove_last.Goals as goal

pub returns-in-Some : goal.returns-in-Some
returns-in-Some c =
    let old = c.args.index.now in
    let name = c.args.name.now in
    let all = c.pop.new.all in
    let new = c.get_mut.follows.lender all in
    let puts = (c.get_mut.follows.holds all).3 (search rules) in
    changed old new name all (front_of (seen_at old name))
    (c.pop.ensures ∙ ap (λ o. front_of (items_in o)) c.in-Some.ensures.value)
    (btree_map_updates_text name old new (Some all) puts)

pub returns : goal.returns
returns c =
    let now = c.get_mut.follows.lender-at-none in
    let unchanged = c.get_mut.follows.holds-at-none in
    let name = c.args.name.now in
    let none : None ≡ get_by_text now name =
    c.in_default.ensures.value ∙ ap (λ (old : ByName). get_by_text old name) (sym unchanged) in
    subst (λ (old : ByName). ChangesAt old now name (front_of (seen_at old name))) unchanged (kept now name none)
