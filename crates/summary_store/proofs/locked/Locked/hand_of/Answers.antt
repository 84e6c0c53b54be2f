use Rattle.std.proofs.Common.{◌<◌, length, ap, arith}
use Rattle.summary_store.specs.Passes.{PassView}
use Rattle.summary_store.proofs.Keeping.{every_number_fits, flags_fit, hand_seen}
use Rattle.summary_store.proofs.Listing.{hand_gone, hand_free, hand_holds}
use Rattle.summary_store.proofs.locked.Locked.hand_of.Goals as goal

pub index-requires : goal.index-requires
index-requires g c =
    let k = c.self.invariant.0 in
    omega (arith, flags_fit k, c.pass.invariant.2, c.self.inside.left.ok.0)

pub returns-then-index : goal.returns-then-index
returns-then-index g c =
    let k = c.self.invariant.0 in
    let low : c.pass.inside.number < length c.self.inside.left.items =
    omega (arith, flags_fit k, c.pass.invariant.2) in
    hand_seen k _ _ _ _ (ap (λ p. p.0) c.self.view_is) (ap (λ (p : PassView). p.number) c.pass.view_is)
    (hand_gone k.are_lists (every_number_fits k) c.pass.inside.number _ c.pass.invariant.2 low c.index.ensures
    c.if-index.true)

pub returns-in-Some : goal.returns-in-Some
returns-in-Some g c =
    let k = c.self.invariant.0 in
    let low : c.pass.inside.number < length c.self.inside.left.items =
    omega (arith, flags_fit k, c.pass.invariant.2) in
    hand_seen k _ _ _ _ (ap (λ p. p.0) c.self.view_is) (ap (λ (p : PassView). p.number) c.pass.view_is)
    (hand_holds k.are_lists (every_number_fits k) c.pass.inside.number _ c.in-Some.m c.pass.invariant.2 low
    c.index.ensures c.if-index.false _ c.held.ensures c.in-Some.is)

pub returns-in-None : goal.returns-in-None
returns-in-None g c =
    let k = c.self.invariant.0 in
    let low : c.pass.inside.number < length c.self.inside.left.items =
    omega (arith, flags_fit k, c.pass.invariant.2) in
    hand_seen k _ _ _ _ (ap (λ p. p.0) c.self.view_is) (ap (λ (p : PassView). p.number) c.pass.view_is)
    (hand_free k.are_lists (every_number_fits k) c.pass.inside.number _ c.pass.invariant.2 low c.index.ensures
    c.if-index.false _ c.held.ensures c.in-None.is)
