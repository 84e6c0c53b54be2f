use Rattle.std.proofs.Common.{◌≡◌, ◌<◌, ℕ, false}
use Rattle.core_code.specs.Walks.{stays_at}
use Rattle.core_code.proofs.falling.has_cycle.Given as goal

-- none so far does
abbrev pub invariant-loop-place : goal.invariant-loop-place
invariant-loop-place l = (k : ℕ) → k < l.place → stays_at l.rows l.numbers k ≡ false
