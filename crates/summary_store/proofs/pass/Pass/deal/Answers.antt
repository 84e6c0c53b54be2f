use Rattle.std.proofs.Common.{ap, arith, length}
use Rattle.summary_store.proofs.Opening.{first_passes-length}
use Rattle.summary_store.proofs.pass.Pass.deal.Goals as goal

pub push_reserved-requires : goal.push_reserved-requires
push_reserved-requires g c =
    let l = ap length c.loop-number.invariant.items in
    omega (
      arith,
      first_passes-length c.loop-number.number,
      c.loop-number.passes.ok.0,
      c.loop-number.invariant.room,
      c.loop-number-test.true,
    )
