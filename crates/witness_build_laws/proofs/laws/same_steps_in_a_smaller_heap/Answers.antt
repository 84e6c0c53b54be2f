use Rattle.std.proofs.Common.{ap}
use Rattle.witness_build_laws.specs.Heaps.{Heap}
use Rattle.witness_build_laws.proofs.SameRuns.{runs-same}
use Rattle.witness_build_laws.proofs.laws.same_steps_in_a_smaller_heap.Goals as goal

pub returns : goal.returns
returns c = λ core t n turns s heap full all. runs-same core heap t n turns s (λ p. ap (λ (h : Heap). h p) full) all
