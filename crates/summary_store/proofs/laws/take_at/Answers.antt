use Rattle.std.proofs.Common.{[], ◌∷◌, ◌++◌, sym, ap, ◌∙◌, arith}
use Rattle.summary_store.specs.declared.machine.Event.TheVariants.{Take, Leave}
use Rattle.summary_store.proofs.Keeping.{room_left, take_legal, taken_is_analysed, number_fits, agreed, keeps_take}
use Rattle.summary_store.proofs.Keeping.{keeps_leave}
use Rattle.summary_store.proofs.Keeping.{every_number_fits}
use Rattle.summary_store.proofs.Listing.{held_list}
use Rattle.summary_store.proofs.laws.take_at.Goals as goal

pub next_method-requires-clause-list : goal.next_method-requires-clause-list
next_method-requires-clause-list g c =
    let k = c.value.invariant.0 in
    let agrees = agreed k _ _ c.number-number.result _ _
    (ap (λ p. p.0) c.value.view_is) c.number-number.ensures c.requires.agrees c.requires.free in
    held_list k.are_lists (every_number_fits k) _ _ agrees

pub next_method-requires-clause-few : goal.next_method-requires-clause-few
next_method-requires-clause-few g c = c.value.invariant.0.are_lists.few

pub push_reserved-requires : goal.push_reserved-requires
push_reserved-requires g c =
    let k = c.value.invariant.0 in
    let agrees = agreed k _ _ c.number-number.result _ _
    (ap (λ p. p.0) c.value.view_is) c.number-number.ensures c.requires.agrees c.requires.free in
    let next = sym (take_legal k _ c.next_method.ensures.next) ∙ c.in_default.is in
    omega (
      arith,
      room_left k (Leave c.number-number.result) (agrees, next) _ c.value.invariant.1,
      c.value.inside.history.ok.0,
    )

pub index_mut-requires : goal.index_mut-requires
index_mut-requires g c =
    let k = c.value.invariant.0 in
    let agrees = agreed k _ _ c.number-number.result _ _
    (ap (λ p. p.0) c.value.view_is) c.number-number.ensures c.requires.agrees c.requires.free in
    omega (arith, number_fits k _ _ agrees, c.value.inside.left.ok.0)

pub invariant_of-value : goal.invariant_of-value
invariant_of-value g c =
    let k = c.value.invariant.0 in
    let agrees = agreed k _ _ c.number-number.result _ _
    (ap (λ p. p.0) c.value.view_is) c.number-number.ensures c.requires.agrees c.requires.free in
    let next = sym (take_legal k _ c.next_method.ensures.next) ∙ c.in_default.is in (
      keeps_leave k c.number-number.result (
        agrees,
        next,
      ) _ c.push_reserved.ensures.items _ c.next_method.ensures.lists _ c.note.ensures.total,
      record { events = omega (arith, c.value.invariant.1.events, c.push_reserved.ensures.capacity) },
      c.value.invariant.2,
      c.value.invariant.3,
    )

pub push_reserved-requires-2 : goal.push_reserved-requires-2
push_reserved-requires-2 g c =
    let k = c.value.invariant.0 in
    let agrees = agreed k _ _ c.number-number.result _ _
    (ap (λ p. p.0) c.value.view_is) c.number-number.ensures c.requires.agrees c.requires.free in
    let next = sym (take_legal k _ c.next_method.ensures.next) ∙ c.in-Some.is in
    omega (
      arith,
      room_left k (Take c.number-number.result c.in-Some.m) (agrees, next) _ c.value.invariant.1,
      c.value.inside.history.ok.0,
    )

pub invariant_of-value-2 : goal.invariant_of-value-2
invariant_of-value-2 g c =
    let k = c.value.invariant.0 in
    let agrees = agreed k _ _ c.number-number.result _ _
    (ap (λ p. p.0) c.value.view_is) c.number-number.ensures c.requires.agrees c.requires.free in
    let next = sym (take_legal k _ c.next_method.ensures.next) ∙ c.in-Some.is in (
      keeps_take k c.number-number.result c.in-Some.m (
        agrees,
        next,
      ) _ c.push_reserved-2.ensures.items _ c.next_method.ensures.lists _ c.note-2.ensures.total,
      record { events = omega (arith, c.value.invariant.1.events, c.push_reserved-2.ensures.capacity) },
      c.value.invariant.2,
      c.value.invariant.3,
    )

pub returns-clause-taken : goal.returns-clause-taken
returns-clause-taken g c =
    c.push_reserved-2.ensures.items ∙ (λ i. (c.value.view_is i).0 ++ Take (c.number-number.ensures i) c.in-Some.m ∷ [])

pub returns-clause-analysed : goal.returns-clause-analysed
returns-clause-analysed g c =
    let k = c.value.invariant.0 in
    taken_is_analysed k _ (sym (take_legal k _ c.next_method.ensures.next) ∙ c.in-Some.is)
