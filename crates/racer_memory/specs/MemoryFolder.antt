-- A contract of a public call rests on this: `MemoryFolder`. What is seen of a folder in memory.
use Rattle.std.specs.Prelude.{◌≡◌, ℕ, Bool, true, not, ◌||◌, if◌then◌else◌, List, Option, Some, string_bytes}
use Rattle.std.specs.FinMap.{contains_key}
use Rattle.racer_base.specs.Outside.{Told, same_name}
use Rattle.racer_memory.specs.FileList.{files_of}
use Rattle.racer_memory.specs.Failing.{is_failing, is_quiet, risen}
use Rattle.racer_memory.specs.declared.memory_folder.MemoryFolder.{MemoryFolder}

-- its name and its files, which it always tells
abbrev pub meaning_of : MemoryFolder → Told
meaning_of folder = record { name = string_bytes folder.name; files = files_of folder.files.items }

-- the same, as a folder may tell it
abbrev pub told_of : MemoryFolder → Option Told
told_of folder = Some (meaning_of folder)

-- how many faults there were
abbrev pub faults_of : MemoryFolder → ℕ
faults_of folder = folder.faults

-- the number of the next call
abbrev pub call_of : MemoryFolder → ℕ
call_of folder = folder.failing.next

-- the numbers of the calls that are to fail
abbrev pub failing_of : MemoryFolder → List ℕ
failing_of folder = folder.failing.calls.items

-- no call still to come is to fail
abbrev pub IsSteady : MemoryFolder → Type 0
IsSteady folder = is_quiet (failing_of folder) (call_of folder) ≡ true

-- the next call is to fail
abbrev pub fails_next : MemoryFolder → Bool
fails_next folder = is_failing (failing_of folder) (call_of folder)

-- to enter this name now is a fault: the call is to fail, or the name is another than the folder's
abbrev pub fails_to_enter : MemoryFolder → List ℕ → Bool
fails_to_enter folder name = fails_next folder || not (same_name name (meaning_of folder).name)

-- to read this file now is a fault: the call is to fail, or there is no such file
abbrev pub fails_to_read : MemoryFolder → List ℕ → Bool
fails_to_read folder name = fails_next folder || not (contains_key (meaning_of folder).files name)

-- one call goes from old to new: it has the next number, and one fault more is counted exactly where it failed
pub record IsOneCall (old new : MemoryFolder) (failed : Bool) : Type 0 where
  pub faults : faults_of new ≡ (if failed then risen (faults_of old) else faults_of old)
  pub call : call_of new ≡ risen (call_of old)
  pub failing : failing_of new ≡ failing_of old
