use Rattle.std.proofs.Common.{◌≡◌, ◌+◌, ◌++◌, Bool, false, take, drop, length, sym, subst, arith, rules}
use Rattle.std.proofs.lemmas.List.{take_at}
use Rattle.typed_core.proofs.Answering.{AreReadTo, read-begins, read-turn, read-end}
use Rattle.typed_core.proofs.typing.all_read.Goals as goal

pub loop-number-init : goal.loop-number-init
loop-number-init c =
    read-begins c.args.count c.args.reached.now c.args.all.now c.in_ok-flags.flags.items
    (c.in_ok-flags.ensures.items_if_clones_equal (λ (b : Bool) (e : b ≡ false). e))

pub loop-number-preserved : goal.loop-number-preserved
loop-number-preserved c =
    let at = c.loop-number in
    let count = c.args.count in
    let reached = c.args.reached.now in
    let all = c.args.all.now in
    let old = at.flags.items in
    let new = c.flag_reads.new.flags in
    let kept : take at.flags.len (new ++ drop (length new) old) ≡ new =
    take_at new (drop (length new) old) at.flags.len (search rules) in
    subst (AreReadTo count reached all (at.number + 1)) (sym kept)
    (read-turn count reached all at.number _ c.index-all-number.result old c.as_mut_slice.result.now new
    (omega (arith, c.loop-number-test.true, c.min-methods.ensures))
    (omega (arith, c.loop-number-test.true, c.min-methods.ensures)) c.index-all-number.is at.invariant
    c.as_mut_slice.ensures.value c.flag_reads.ensures)

pub returns-clause-flags : goal.returns-clause-flags
returns-clause-flags c =
    read-end c.args.count c.args.reached.now c.args.all.now c.loop-number.number c.loop-number.flags.items
    (omega (arith, c.loop-number-test.false, c.min-methods.ensures)) c.loop-number.invariant

pub returns-clause-size : goal.returns-clause-size
returns-clause-size c = c.loop-number.invariant.size
