use Rattle.std.proofs.Common.{rules, ◌≡◌, List, [], sym, ap, subst, ◌∙◌}
use Rattle.std.proofs.lemmas.Result.{on_ok_weaker}
use Rattle.std.specs.Option.{option_map_or}
use Rattle.race_pairs.specs.Warnings.{MethodRecord}
use Rattle.race_pairs.specs.MethodRecords.{record_of, all_records}
use Rattle.race_pairs.specs.Firsts.{Groups, kept_at, group_at, with_first, AddsFirst}
use Rattle.race_pairs.proofs.Groups.{records_in_order, record_added, one_added}
use Rattle.race_pairs.proofs.partners.add_record.Goals as goal

pub returns-in-Some : goal.returns-in-Some
returns-in-Some c =
    let added : MethodRecord = record_of c.args.added in
    let old = c.args.firsts.now in
    let key = c.in_ok-key.key in
    let group = c.add_first.new.group in
    let new = c.get_mut.follows.lender group in
    let puts = (c.get_mut.follows.holds group).3 (search rules) in
    let lends : all_records c.in-Some.group.now.items ≡ group_at old key.items =
    ap (λ o. option_map_or records_in_order o []) c.in-Some.ensures.value
    in
    let same = ap (λ (records : List MethodRecord). with_first records added) lends in
    on_ok_weaker c.add_first.result
    (λ made. record_added old new key group added c.in_ok-key.ensures puts (made ∙ same))
    c.add_first.ensures

pub returns : goal.returns
returns c =
    let kept = c.get_mut.follows.lender-at-none in
    let unchanged = c.get_mut.follows.holds-at-none in
    let key = c.in_ok-key.key in
    let group = c.in_ok-group.group in
    let new = c.insert.new.self in
    let none = c.in_default.ensures.value ∙ ap (λ (old : Groups). kept_at old key.items) (sym unchanged) in
    let one = c.in_ok-group.ensures.items in
    subst (λ (old : Groups). AddsFirst old new (record_of c.args.added)) unchanged
    (one_added kept new key group c.args.added c.in_ok-key.ensures none one c.in_ok-insert.ensures.updates)
