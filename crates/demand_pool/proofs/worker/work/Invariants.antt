use Rattle.std.proofs.Common.{◌≡◌, ◌+◌, ◌≤◌}
use Rattle.summary_store.specs.declared.machine.Hand.TheVariants.{Free}
use Rattle.demand_pool.proofs.worker.work.Given as goal

abbrev pub invariant-loop-i : goal.invariant-loop-i
invariant-loop-i g l = record {
  number : l.pass.number ≡ l.fn.pass.number;
  free : l.pass.hand ≡ Free;
  made : l.fn.pass.made + l._i ≤ l.pass.made;
}
