use Rattle.std.proofs.Common.{◌≡◌, ◌<◌, ℕ, length}
use Rattle.summary_store.specs.Machine.{HasLeft}
use Rattle.summary_store.specs.Setups.{state_after}
use Rattle.demand_pool.specs.Pools.{AreNumbered}
use Rattle.demand_pool.proofs.pool.finish_all.Given as goal

abbrev pub invariant-loop-place : goal.invariant-loop-place
invariant-loop-place g l = record {
  count : length l.passes ≡ g.L.Ledger.parts;
  numbers : AreNumbered l.passes;
  gone : (w : ℕ) → w < l.place → HasLeft (state_after g.L.StoreRun.program g.L.Ledger.parts l.value.0) w;
}
