use Rattle.std.proofs.Common.{◌≡◌, ◌+◌, ◌-◌, ◌≤◌, length, take}
use Rattle.racer_base.specs.Outside.{taken_and}
use Rattle.racer_run.proofs.writing.write_all.Given as goal

-- the front up to `at` was taken, no write failed, and room for the whole text leaves room for the rest
abbrev pub invariant-loop-at : goal.invariant-loop-at
invariant-loop-at g l =
    let taken = g.S.Sink.taken in
    let faults = g.S.Sink.faults in
    let room = g.S.Sink.room in
    record {
      within : l.at ≤ length l.text;
      taken : taken l.sink ≡ taken_and (taken l.fn.sink) (take l.at l.text);
      no_fault : faults l.sink ≡ faults l.fn.sink;
      room : length l.text ≤ room l.fn.sink → length l.text ≤ room l.sink + l.at;
    }

abbrev pub decreases-loop-at : goal.decreases-loop-at
decreases-loop-at g l = length l.text - l.at
