-- A contract of a public call rests on this: `MemoryFolder` and `MemorySink`. Which calls on a folder or a sink in
-- memory fail: those whose numbers, from 0, stand in a list.
use Rattle.std.specs.Prelude.{ℕ, ◌+◌, min, Bool, true, false, List, nat_eq, nat_lt, Result, Ok, Err}
use Rattle.std.specs.List.{list_all, list_any}
use Rattle.racer_base.specs.Outside.{last_count}
use Rattle.racer_base.specs.declared.outside.FolderFault.{FolderFault}
use Rattle.racer_base.specs.declared.outside.FolderFault.TheVariants.{Failed, Memory}

-- the call with this number is to fail
abbrev pub is_failing : List ℕ → ℕ → Bool
is_failing failing call = list_any (λ number. nat_eq number call) failing

-- neither the call with this number nor any later one is to fail
abbrev pub is_quiet : List ℕ → ℕ → Bool
is_quiet failing call = list_all (λ number. nat_lt number call) failing

-- one more, and at its last value a count stands still
abbrev pub risen : ℕ → ℕ
risen count = min (count + 1) last_count

-- a call on a folder answered `Failed`
abbrev pub has_failed : {A : Type 0} → Result A FolderFault → Bool
has_failed (Ok answer) = false
has_failed (Err Failed) = true
has_failed (Err Memory) = false
