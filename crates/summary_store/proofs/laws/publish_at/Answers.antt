use Rattle.std.proofs.Common.{◌+◌, Some, sym, ap, ◌∙◌, arith}
use Rattle.std.specs.Prelude.{slice_set}
use Rattle.std.specs.Arc.{arc_value}
use Rattle.summary_store.specs.declared.machine.Event.TheVariants.{Publish}
use Rattle.summary_store.specs.Passes.{held_in}
use Rattle.summary_store.proofs.Keeping.{agreed, room_left, publish_legal, keeps_publish}
use Rattle.summary_store.proofs.Keeping.{pieces_of-set, length-pieces_of, held_method}
use Rattle.summary_store.proofs.Keeping.{every_number_fits}
use Rattle.summary_store.proofs.Listing.{held_node}
use Rattle.row_links.specs.Lists.{moved, spliced}
use Rattle.summary_store.proofs.laws.publish_at.Goals as goal

pub wake-requires-clause-node : goal.wake-requires-clause-node
wake-requires-clause-node g c =
    let k = c.value.invariant.0 in
    let agrees = agreed k _ _ c.number-number.result _ _
    (ap (λ p. p.0) c.value.view_is) c.number-number.ensures c.requires.agrees (sym c.hand.ensures
    ∙ c.in-Holds.is) in
    held_node k.are_lists (every_number_fits k) _ _ agrees

pub wake-requires-clause-list : goal.wake-requires-clause-list
wake-requires-clause-list g c =
    let k = c.value.invariant.0 in
    let agrees = agreed k _ _ c.number-number.result _ _
    (ap (λ p. p.0) c.value.view_is) c.number-number.ensures c.requires.agrees (sym c.hand.ensures
    ∙ c.in-Holds.is) in
    let node = held_node k.are_lists (every_number_fits k) _ _ agrees in
    omega (arith, k.are_lists.nodes, k.are_lists.count, c.value.invariant.3)

pub wake-requires-clause-few : goal.wake-requires-clause-few
wake-requires-clause-few g c = c.value.invariant.0.are_lists.few

pub index_mut-requires : goal.index_mut-requires
index_mut-requires g c =
    let k = c.value.invariant.0 in
    let agrees = agreed k _ _ c.number-number.result _ _
    (ap (λ p. p.0) c.value.view_is) c.number-number.ensures c.requires.agrees (sym c.hand.ensures
    ∙ c.in-Holds.is) in
    omega (
      arith,
      k.places c.in-Holds.m (held_method k _ _ agrees),
      length-pieces_of arc_value c.value.inside.table.items,
      c.value.inside.table.ok.0,
    )

pub push_reserved-requires : goal.push_reserved-requires
push_reserved-requires g c =
    let k = c.value.invariant.0 in
    let agrees = agreed k _ _ c.number-number.result _ _
    (ap (λ p. p.0) c.value.view_is) c.number-number.ensures c.requires.agrees (sym c.hand.ensures
    ∙ c.in-Holds.is) in
    let legal = publish_legal k _ _ _ c.in-Holds.m _ (ap (λ p. p.0) c.value.view_is) agrees (sym c.hand.ensures
    ∙ c.in-Holds.is) c.requires.piece in
    omega (
      arith,
      room_left k (Publish c.number-number.result c.in-Holds.m) legal.0 _ c.value.invariant.1,
      c.value.inside.history.ok.0,
    )

pub invariant_of-value : goal.invariant_of-value
invariant_of-value g c =
    let k = c.value.invariant.0 in
    let agrees = agreed k _ _ c.number-number.result _ _
    (ap (λ p. p.0) c.value.view_is) c.number-number.ensures c.requires.agrees (sym c.hand.ensures
    ∙ c.in-Holds.is) in
    let legal = publish_legal k _ _ _ c.in-Holds.m _ (ap (λ p. p.0) c.value.view_is) agrees (sym c.hand.ensures
    ∙ c.in-Holds.is) c.requires.piece in (
      keeps_publish k c.number-number.result c.in-Holds.m
          (arc_value c.args.piece) legal.0 legal.1 _ c.push_reserved.ensures.items _ (c.wake.ensures
          ∙ ap (λ n. spliced (4 + n + c.in-Holds.m.0) 1 (moved c.in-Holds.m.0 2 c.value.inside.lists))
          c.value.invariant.3) _ (pieces_of-set arc_value c.value.inside.table.items c.in-Holds.m.0 c.args.piece) _
          c.note.ensures.total,
      record { events = omega (arith, c.value.invariant.1.events, c.push_reserved.ensures.capacity) },
      c.value.invariant.2,
      c.value.invariant.3,
    )

pub returns-clause-table : goal.returns-clause-table
returns-clause-table g c =
    let is = sym (sym c.hand.ensures ∙ c.in-Holds.is) in
    pieces_of-set arc_value c.value.inside.table.items c.in-Holds.m.0 c.args.piece
    ∙ (λ i. slice_set (c.value.view_is i).1 (held_in (is i)).0 (Some (arc_value c.args.piece)))
