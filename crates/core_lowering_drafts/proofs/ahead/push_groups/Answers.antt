use Rattle.std.proofs.Common.{◌≡◌, ◌<◌, List, length, map, get_or, ap, ◌∙◌, arith}
use Rattle.std.proofs.lemmas.Result.{on_ok_weaker}
use Rattle.core_lowering_drafts.specs.Ahead.{item_of}
use Rattle.core_lowering_drafts.specs.Lists.{Parts}
use Rattle.core_lowering_drafts.specs.Pieces.{all_parts}
use Rattle.core_lowering_drafts.proofs.Passed.{pushed-groups}
use Rattle.core_lowering_drafts.proofs.ahead.push_groups.Goals as goal

pub returns : goal.returns
returns c =
    let groups = c.args.groups.now in
    let read = c.deref.result.now in
    let found = c.in-Some-get.ensures.lookup in
    let all : read ≡ groups = c.deref.ensures.value ∙ c.groups.view_is in
    let there : c.in-Some.before < length groups =
    omega (arith, found.3.0, ap (λ (gs : List Parts). length gs) all) in
    on_ok_weaker c.push_pieces.result
    (pushed-groups groups c.args.count c.in-Some.before c.in-Some-get.group.now (map item_of c.args.items.now.items)
    (map item_of c.push_entered.new.items.items) (map item_of c.push_pieces.new.items.items)
    (all_parts c.pieces.result.now) c.in-Some.ensures.0 c.in-Some.ensures.1 there
    (found.1 ∙ ap (λ (gs : List Parts). get_or gs c.in-Some.before c.in-Some-get.group.now) all)
    c.in_ok-push_entered.ensures c.pieces.ensures)
    c.push_pieces.ensures
