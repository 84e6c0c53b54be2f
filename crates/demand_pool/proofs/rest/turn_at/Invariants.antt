use Rattle.std.proofs.Common.{◌≡◌, ◌≤◌, ◌<◌, ℕ, length, vec_capacity}
use Rattle.std.specs.Prelude.{slice_index_or}
use Rattle.racer_base.specs.declared.ids.MethodId.{MethodId}
use Rattle.core_code.specs.Program.{core}
use Rattle.demand_pool.specs.Pools.{AreFound}
use Rattle.summary_store.specs.declared.machine.Hand.TheVariants.{Holds}
use Rattle.summary_store.specs.Machine.{IsDone}
use Rattle.summary_store.specs.Setups.{state_after}
use Rattle.demand_pool.proofs.rest.turn_at.Given as goal

abbrev pub invariant-loop-i : goal.invariant-loop-i
invariant-loop-i g l = record {
  number : l.pass.number ≡ l.fn.pass.number;
  hand : l.pass.hand ≡ Holds l.m;
  found : l.pass.found ≡ l.i;
  same : l.value.0 ≡ l.fn.value.0;
  pieces : AreFound (core g.L.StoreRun.program) l.row l.i l.callees.items;
  done : (k : ℕ) (d : MethodId) → k < l.i →
      IsDone (state_after g.L.StoreRun.program g.L.Ledger.parts l.value.0) (slice_index_or l.row k d);
  room : length l.row ≤ vec_capacity l.callees;
}
