use Rattle.core_code.specs.Program.{core}
use Rattle.std.proofs.Common.{◌≡◌, ◌≤◌}
use Rattle.summary_store.specs.declared.machine.Hand.TheVariants.{Free}
use Rattle.summary_store.specs.Laws.{takes}
use Rattle.summary_store.specs.Passes.{Agrees}
use Rattle.summary_store.specs.Setups.{setup_of, state_after}
use Rattle.demand_pool.specs.Pools.{LeftStays}
use Rattle.demand_pool.proofs.rest.finish.Given as goal

abbrev pub invariant-loop-i : goal.invariant-loop-i
invariant-loop-i g l = record {
  number : l.pass.number ≡ l.fn.pass.number;
  free : l.pass.hand ≡ Free;
  agrees : Agrees (state_after g.L.StoreRun.program g.L.Ledger.parts l.value.0) l.pass;
  taken : l._i ≤ takes l.value.0;
  stays : LeftStays (setup_of (core g.L.StoreRun.program) g.L.Ledger.parts) l.fn.value.0 l.value.0;
}
