use Rattle.std.proofs.Common.{◌≡◌, [], ap, ◌∙◌}
use Rattle.std.specs.Option.{option_map_or}
use Rattle.race_pairs.specs.MethodRecords.{all_records}
use Rattle.race_pairs.specs.Firsts.{group_at, partner_in}
use Rattle.race_pairs.proofs.Groups.{records_in_order}
use Rattle.race_pairs.proofs.partners.partner_of.Goals as goal

pub returns-in-None : goal.returns-in-None
returns-in-None c = λ records finds.
    let key = c.in_ok-key.key in
    let first = c.args.first.now in
    let none : [] ≡ group_at c.args.firsts.now key.items =
    ap (λ o. option_map_or records_in_order o []) c.in-None.ensures.value
    in
    ap (partner_in first) none ∙ finds first key c.in_ok-key.ensures

pub returns : goal.returns
returns c = λ records finds.
    let key = c.in_ok-key.key in
    let first = c.args.first.now in
    let some : all_records c.in-Some.group.now.items ≡ group_at c.args.firsts.now key.items =
    ap (λ o. option_map_or records_in_order o []) c.in-Some.ensures.value
    in
    c.first_partner.ensures
    ∙ ap (λ items. partner_in first (all_records items)) c.as_slice.ensures.value
    ∙ ap (partner_in first) some
    ∙ finds first key c.in_ok-key.ensures
