use Rattle.std.proofs.Common.{◌≡◌, ℕ, ◌+◌, drop, length, slice_index_or}
use Rattle.core_lowering_surveys.specs.Counts.{tally}
use Rattle.core_lowering_surveys.proofs.counts.count_methods.Given as goal

abbrev pub invariant-loop-info : goal.invariant-loop-info
invariant-loop-info l =
    record {
      counts : (n : ℕ) →
          slice_index_or l.counts.items n 0 + tally l.infos n (drop l.info-index l.infos) ≡ tally l.infos n l.infos;
      many : length l.counts.items ≡ length l.infos;
    }
