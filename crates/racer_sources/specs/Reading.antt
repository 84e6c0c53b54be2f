-- No public contract rests on this: what one source and sources so far are read as, and how faults are counted there.
use Rattle.std.specs.Prelude.{◌≡◌, ℕ, ◌+◌, List, [], ◌∷◌, ◌++◌, Result, IfErr, MatchResult, length}
use Rattle.std.specs.Prelude.{is_some, map}
use Rattle.std.specs.Prelude.{true}
use Rattle.std.specs.List.{list_all}
use Rattle.std.specs.FinMap.{get}
use Rattle.racer_base.specs.Outside.{Files, IsRise}
use Rattle.racer_base.specs.declared.ids.FileId.{FileId}
use Rattle.racer_base.specs.declared.outside.FolderFault.{FolderFault}
use Rattle.racer_base.specs.declared.outside.FolderFault.TheVariants as folder
use Rattle.java_tree.specs.declared.unit.Unit as unit
use Rattle.racer_sources.specs.declared.refusal.Refusal.{Refusal}
use Rattle.racer_sources.specs.declared.fault.SourceFault.{SourceFault}
use Rattle.racer_sources.specs.declared.fault.SourceFault.TheVariants.{Refused, Failed, Memory}
use Rattle.racer_sources.specs.declared.units.ReadSources.{ReadSources}
use Rattle.racer_sources.specs.Sources.{IsRead, IsRefusedFile, bytes_of}

abbrev pub as_source_fault : FolderFault → SourceFault
as_source_fault folder.Failed = Failed
as_source_fault folder.Memory = Memory

-- what is refused is refused so
abbrev pub IfRefused : SourceFault → (Refusal → Type 0) → Type 0
IfRefused (Refused r) P = P r
IfRefused _ P = Unit {0}

-- a file has this fault
abbrev pub IsFileFault : FileId → ℕ → List ℕ → SourceFault → Type 0
IsFileFault file sum bytes (Refused r) = IsRefusedFile file sum bytes r
IsFileFault file sum bytes Failed = ⊥
IsFileFault file sum bytes Memory = Unit {0}

-- ---- counts of faults

-- the count of faults rises where the folder failed, and else stays
abbrev pub MovesCount : SourceFault → ℕ → ℕ → Type 0
MovesCount Failed old new = IsRise old new
MovesCount _ old new = new ≡ old

abbrev pub Counts : {T : Type 0} → Result T SourceFault → ℕ → ℕ → Type 0
Counts result old new = MatchResult result (λ _. new ≡ old) (λ fault. MovesCount fault old new)

abbrev pub NeverFails : {T : Type 0} → Result T SourceFault → Type 0
NeverFails result = IfErr result (λ fault. fault ≡ Failed → ⊥)

-- ---- one source

abbrev pub IsThere : Files → List ℕ → Type 0
IsThere files name = is_some (get files name) ≡ true

-- some bytes, with some before them, are read as this unit
abbrev pub IsReadSomehow : FileId → ℕ → unit.Unit → Type 0
IsReadSomehow file sum u = (bytes : List ℕ) × IsRead file sum bytes u

-- these bytes, with so many before them, are read as this unit
pub record IsReadAfter (file : FileId) (before : ℕ) (bytes : List ℕ) (sum : ℕ) (u : unit.Unit) : Type 0 where
  pub added : sum ≡ before + length bytes
  pub read : IsRead file sum bytes u

-- they are refused so
abbrev pub IsRefusedAfter : FileId → ℕ → List ℕ → Refusal → Type 0
IsRefusedAfter file before bytes r = IsRefusedFile file (before + length bytes) bytes r

-- ---- sources one after the other

abbrev pub AreThere : Files → List (List ℕ) → Type 0
AreThere files names = list_all (λ name. is_some (get files name)) names ≡ true

abbrev pub bytes_of_all : Files → List (List ℕ) → List (List ℕ)
bytes_of_all files names = map (bytes_of files) names

-- the file behind those that were read
abbrev pub next_file : ReadSources → FileId
next_file read = record { 0 = length read.units.items }

-- a unit is put behind those that were read, up to and with which there are then so many bytes
pub record IsAddedSomehow (old new : ReadSources) : Type 0 where
  pub unit : unit.Unit
  pub read : IsReadSomehow (next_file old) new.sum unit
  pub units : new.units.items ≡ old.units.items ++ unit ∷ []

-- the unit of these bytes
pub record IsAdded (bytes : List ℕ) (old new : ReadSources) : Type 0 where
  pub unit : unit.Unit
  pub read : IsReadAfter (next_file old) old.sum bytes new.sum unit
  pub units : new.units.items ≡ old.units.items ++ unit ∷ []

-- the file of these bytes, behind those that were read, is refused so
abbrev pub IsNextRefused : List ℕ → ReadSources → Refusal → Type 0
IsNextRefused bytes read r = IsRefusedAfter (next_file read) read.sum bytes r
