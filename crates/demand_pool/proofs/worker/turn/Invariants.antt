use Rattle.std.proofs.Common.{◌≡◌, ◌≤◌, length, map, vec_capacity}
use Rattle.core_code.specs.Program.{core}
use Rattle.demand_pool.specs.Pools.{AreFound}
use Rattle.demand_pool.specs.RowPieces.{shared_in}
use Rattle.summary_store.specs.declared.machine.Hand.TheVariants.{Holds}
use Rattle.demand_pool.proofs.worker.turn.Given as goal

abbrev pub invariant-loop-i : goal.invariant-loop-i
invariant-loop-i g l = record {
  number : l.pass.number ≡ l.fn.pass.number;
  hand : l.pass.hand ≡ Holds l.m;
  found : l.pass.found ≡ l.i;
  made : l.pass.made ≡ l.fn.pass.made;
  pieces : AreFound (core g.L.StoreRun.program) l.row l.i (map shared_in l.found.items);
  room : length l.row ≤ vec_capacity l.found;
}
