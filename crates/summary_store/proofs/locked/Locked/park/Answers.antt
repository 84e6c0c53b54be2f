use Rattle.std.proofs.Common.{◌+◌, sym, ap, ◌∙◌, arith}
use Rattle.summary_store.specs.declared.machine.Event.TheVariants.{Park}
use Rattle.summary_store.proofs.Keeping.{agreed, room_left, callee_in_row, callee_line, are_roused}
use Rattle.summary_store.proofs.Keeping.{keeps_park, not_done_inside}
use Rattle.summary_store.proofs.Keeping.{every_number_fits}
use Rattle.summary_store.proofs.Listing.{held_node}
use Rattle.row_links.specs.Lists.{moved}
use Rattle.summary_store.proofs.locked.Locked.park.Goals as goal

pub rouse-requires-clause-node : goal.rouse-requires-clause-node
rouse-requires-clause-node g c =
    let k = c.self.invariant.0 in
    let agrees = agreed k _ _ c.number-number.result _ _
    (ap (λ p. p.0) c.self.view_is) c.number-number.ensures c.requires.agrees (sym c.hand.ensures ∙ c.in-Holds.is) in
    let low = callee_line k _ _ _ _ c.args.callee agrees (sym c.hand.ensures ∙ c.in-Holds.is) c.requires.next in
    omega (arith, k.are_lists.nodes)

pub rouse-requires-clause-list : goal.rouse-requires-clause-list
rouse-requires-clause-list g c = omega (arith, c.self.invariant.0.are_lists.count)

pub put_aside-requires-clause-node : goal.put_aside-requires-clause-node
put_aside-requires-clause-node g c =
    let k = c.self.invariant.0 in
    let agrees = agreed k _ _ c.number-number.result _ _
    (ap (λ p. p.0) c.self.view_is) c.number-number.ensures c.requires.agrees (sym c.hand.ensures ∙ c.in-Holds.is) in
    held_node (are_roused k c.args.callee _ c.rouse.ensures) (every_number_fits k) _ _ agrees

pub put_aside-requires-clause-list : goal.put_aside-requires-clause-list
put_aside-requires-clause-list g c =
    let k = c.self.invariant.0 in
    let agrees = agreed k _ _ c.number-number.result _ _
    (ap (λ p. p.0) c.self.view_is) c.number-number.ensures c.requires.agrees (sym c.hand.ensures ∙ c.in-Holds.is) in
    let low = callee_line k _ _ _ _ c.args.callee agrees (sym c.hand.ensures ∙ c.in-Holds.is) c.requires.next in
    let r = are_roused k c.args.callee _ c.rouse.ensures in
    omega (arith, r.count, c.self.invariant.3)

pub put_aside-requires-clause-few : goal.put_aside-requires-clause-few
put_aside-requires-clause-few g c =
    let r = are_roused c.self.invariant.0 c.args.callee _ c.rouse.ensures in r.few

pub push_reserved-requires : goal.push_reserved-requires
push_reserved-requires g c =
    let k = c.self.invariant.0 in
    let agrees = agreed k _ _ c.number-number.result _ _
    (ap (λ p. p.0) c.self.view_is) c.number-number.ensures c.requires.agrees (sym c.hand.ensures ∙ c.in-Holds.is) in
    let row = callee_in_row _ _ _ c.in-Holds.m c.args.callee (sym c.hand.ensures ∙ c.in-Holds.is) c.requires.next in
    let waits = not_done_inside k _ _ (ap (λ p. p.0) c.self.view_is) c.requires.waits in
    omega (
      arith,
      room_left k (Park c.number-number.result c.in-Holds.m c.args.callee) (
        agrees,
        row,
        waits,
      ) _ c.self.invariant.1,
      c.self.inside.history.ok.0,
    )

pub invariant_of-self : goal.invariant_of-self
invariant_of-self g c =
    let k = c.self.invariant.0 in
    let agrees = agreed k _ _ c.number-number.result _ _
    (ap (λ p. p.0) c.self.view_is) c.number-number.ensures c.requires.agrees (sym c.hand.ensures ∙ c.in-Holds.is) in
    let low = callee_line k _ _ _ _ c.args.callee agrees (sym c.hand.ensures ∙ c.in-Holds.is) c.requires.next in
    let row = callee_in_row _ _ _ c.in-Holds.m c.args.callee (sym c.hand.ensures ∙ c.in-Holds.is) c.requires.next in
    let waits = not_done_inside k _ _ (ap (λ p. p.0) c.self.view_is) c.requires.waits in (
      keeps_park k c.number-number.result c.in-Holds.m c.args.callee (
        agrees,
        row,
        waits,
      ) low _ c.push_reserved.ensures.items _ c.rouse.ensures _ (c.put_aside.ensures
          ∙ ap (λ n. moved c.in-Holds.m.0 (4 + n + c.args.callee.0) c.rouse.new.lists) c.self.invariant.3) _
          c.note.ensures.total,
      record { events = omega (arith, c.self.invariant.1.events, c.push_reserved.ensures.capacity) },
      c.self.invariant.2,
      c.self.invariant.3,
    )
