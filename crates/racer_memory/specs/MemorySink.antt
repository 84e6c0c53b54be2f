-- A contract of a public call rests on this: `MemorySink`. What is seen of a sink in memory.
use Rattle.std.specs.Prelude.{◌≡◌, ℕ, ◌-◌, min, Bool, ◌&&◌, ◌||◌, if◌then◌else◌, List, length, nat_eq, nat_lt}
use Rattle.racer_memory.specs.Failing.{is_failing, is_quiet, risen}
use Rattle.racer_memory.specs.declared.memory_sink.MemorySink.{MemorySink}

-- the bytes that it took
abbrev pub taken_of : MemorySink → List ℕ
taken_of sink = sink.taken.items

-- how many bytes it takes in all
abbrev pub capacity_of : MemorySink → ℕ
capacity_of sink = sink.capacity

-- how many bytes it takes in one call, at most
abbrev pub most_of : MemorySink → ℕ
most_of sink = sink.most

-- how many faults there were
abbrev pub faults_of : MemorySink → ℕ
faults_of sink = sink.faults

-- the number of the next call
abbrev pub call_of : MemorySink → ℕ
call_of sink = sink.failing.next

-- the numbers of the calls that are to fail
abbrev pub failing_of : MemorySink → List ℕ
failing_of sink = sink.failing.calls.items

-- what is left of its capacity
abbrev pub left_of : MemorySink → ℕ
left_of sink = capacity_of sink - length (taken_of sink)

-- what is left of its capacity, where no call fails any more
abbrev pub room_of : MemorySink → ℕ
room_of sink = if is_quiet (failing_of sink) (call_of sink) then left_of sink else 0

-- to write a piece of this length now is a fault: the call is to fail, or nothing is left for a piece that is not empty
abbrev pub fails_to_write : MemorySink → ℕ → Bool
fails_to_write sink len = is_failing (failing_of sink) (call_of sink) || (nat_lt 0 len && nat_eq (left_of sink) 0)

-- how much it takes of a piece of this length, where that is no fault
abbrev pub share_of : MemorySink → ℕ → ℕ
share_of sink len = min len (min (most_of sink) (left_of sink))

-- one call goes from old to new: it has the next number, and one fault more is counted exactly where it failed
pub record IsOneCall (old new : MemorySink) (failed : Bool) : Type 0 where
  pub faults : faults_of new ≡ (if failed then risen (faults_of old) else faults_of old)
  pub call : call_of new ≡ risen (call_of old)
  pub failing : failing_of new ≡ failing_of old
  pub capacity : capacity_of new ≡ capacity_of old
  pub most : most_of new ≡ most_of old
