use Rattle.std.proofs.Common.{arith}
use Rattle.demand_pool.proofs.pool.finish_all.Goals as goal

pub loop-place-init : goal.loop-place-init
loop-place-init g c = record {
  count = c.requires.count;
  numbers = c.requires.numbers;
  gone = λ w low. absurd (omega (arith, low));
}

pub returns-clause-gone : goal.returns-clause-gone
returns-clause-gone g c w low =
    c.loop-place.invariant.gone w (omega (arith, low, c.requires.count, c.loop-place-test.false))
