use Rattle.std.proofs.Common.{◌≡◌, ◌+◌, ◌≤◌, ◌<◌, ℕ, length, vec_capacity, vec_len}
use Rattle.std.specs.Prelude.{slice_index_or, IfOk}
use Rattle.demand_pool.specs.Pools.{AreNumbered, HasWorked, HaveWorked}
use Rattle.demand_pool.proofs.pool.passes_of.Given as goal

abbrev pub invariant-each : goal.invariant-each
invariant-each g l = record {
  count : length l.passes.items + length l.worked.items ≡ g.L.Ledger.parts;
  left : (k : ℕ) (d : _) → k < length l.worked.items →
      IfOk (slice_index_or l.worked.items k d) (λ p. p.number ≡ length l.passes.items + k);
  left_worked : (k : ℕ) (d : _) → k < length l.worked.items →
      IfOk (slice_index_or l.worked.items k d) (HasWorked l.given.most);
  numbers : AreNumbered l.passes.items;
  worked : HaveWorked l.given.most l.passes.items;
  room : g.L.Ledger.parts ≤ vec_capacity l.passes;
}

abbrev pub decreases-each : goal.decreases-each
decreases-each g l = vec_len l.worked
