use Rattle.std.proofs.Common.{◌≡◌, ◌≤◌, ◌+◌, vec_capacity}
use Rattle.summary_store.specs.Passes.{first_passes}
use Rattle.summary_store.proofs.pass.Pass.deal.Given as goal

abbrev pub invariant-loop-number : goal.invariant-loop-number
invariant-loop-number g l = record {
  items : l.passes.items ≡ first_passes l.number;
  parts : l.share.parts + l.number ≡ g.L.Ledger.parts;
  amount : l.share.amount ≡ 0;
  room : l.workers ≤ vec_capacity l.passes;
}
