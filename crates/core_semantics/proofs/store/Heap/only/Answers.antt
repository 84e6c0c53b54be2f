use Rattle.std.proofs.Common.{length, ap, arith}
use Rattle.std.specs.Vec.Iter.{into_iter_items}
use Rattle.core_semantics.proofs.HeapLemmas.{one_more, all_made}
use Rattle.racer_base.proofs.Lists.{nothing_left}
use Rattle.core_semantics.proofs.store.Heap.only.Goals as goal

pub loop-path-preserved : goal.loop-path-preserved
loop-path-preserved c =
    let at = c.loop-path in
    let steps = c.in-Some.ensures.steps in
    let counts = ap length steps.0 in
    record {
      make =
          one_more at.objects c.insert.new.self c.in-Some.path (into_iter_items at.path-iterator)
          (into_iter_items c.next.new.self) c.args.paths at.invariant.make steps.0 c.in_ok-insert.ensures.updates;
      count = omega (arith, counts, steps.1, at.invariant.count);
    }

pub returns : goal.returns
returns c =
    let at = c.loop-path in
    let left = into_iter_items at.path-iterator in
    all_made at.objects left c.args.paths at.invariant.make
    (nothing_left left _ at.invariant.count c.in-None.ensures.steps.0)
