use Rattle.std.proofs.Common.{◌≡◌, length}
use Rattle.std.specs.Vec.Iter.{into_iter_items, into_iter_len}
use Rattle.core_semantics.proofs.HeapLemmas.{DoMake}
use Rattle.core_semantics.proofs.store.Heap.only.Given as goal

abbrev pub invariant-loop-path : goal.invariant-loop-path
invariant-loop-path l = record {
  make : DoMake l.objects (into_iter_items l.path-iterator) l.fn.paths;
  count : into_iter_len l.path-iterator ≡ length (into_iter_items l.path-iterator);
}
