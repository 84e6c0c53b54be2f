use Rattle.std.proofs.Common.{◌≡◌, length}
use Rattle.core_code.specs.Walks.{AreStays}
use Rattle.core_code.proofs.cycles.stays.Given as goal

-- each so far has its flag
abbrev pub invariant-loop-place : goal.invariant-loop-place
invariant-loop-place l = record {
  flags : AreStays l.rows l.numbers l.place l.flags.items;
  length : length l.flags.items ≡ l.place;
}
