use Rattle.std.proofs.Common.{◌≡◌, ◌≤◌, take, length, vec_capacity}
use Rattle.core_code.specs.Counting.{flagged, flags_of}
use Rattle.core_code.specs.Program.{core}
use Rattle.summary_store.proofs.starting.idle_methods.Given as goal

abbrev pub invariant-loop-place : goal.invariant-loop-place
invariant-loop-place l = record {
  items : l.methods.items ≡ flagged 0 (take l.place (flags_of (core l.program)));
  room : length (flags_of (core l.program)) ≤ vec_capacity l.methods;
}
