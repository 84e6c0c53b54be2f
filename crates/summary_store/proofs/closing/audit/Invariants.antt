use Rattle.std.proofs.Common.{◌≡◌, ◌+◌, length, vec_len}
use Rattle.std.specs.Prelude.{sum_by}
use Rattle.summary_store.specs.Passes.{PassView}
use Rattle.summary_store.proofs.closing.audit.Given as goal

abbrev pub invariant-loop-pass : goal.invariant-loop-pass
invariant-loop-pass g l = record {
  parts : l.all.parts + length l.passes.items ≡ g.L.Ledger.parts;
  amount : l.all.amount + sum_by (λ (p : PassView). p.made) l.passes.items ≡
      sum_by (λ (p : PassView). p.made) l.fn.passes.items;
}

abbrev pub decreases-loop-pass : goal.decreases-loop-pass
decreases-loop-pass g l = vec_len l.passes
