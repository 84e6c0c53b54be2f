-- A contract of a public call rests on this: what is found in a folder, and what calls on it say of its count of
-- faults.
use Rattle.std.specs.Prelude.{◌≡◌, ℕ, suc, List, [], ◌∷◌, Result, IfErr, MatchResult, Option, None, length, map}
use Rattle.std.specs.Prelude.{string_bytes}
use Rattle.racer_base.specs.Outside.{Files, Told}
use Rattle.racer_base.specs.declared.outside.FolderFault.{FolderFault}
use Rattle.racer_base.specs.declared.outside.FolderFault.TheVariants.{Memory}
use Rattle.racer_base.specs.Causes.{IsCause}
use Rattle.java_tree.specs.declared.unit.Unit as unit
use Rattle.java_resolver.specs.declared.table.Table.{Table}
use Rattle.java_resolver.specs.Declarations.{classes_of, fields_of, methods_of}
use Rattle.java_resolver.specs.Refusals.{refusal}
use Rattle.java_resolver.specs.Table as table
use Rattle.racer_sources.specs.declared.refusal.Refusal.{Refusal}
use Rattle.racer_sources.specs.declared.found.FolderSources.{FolderSources}
use Rattle.racer_sources.specs.declared.found.FolderSources.TheVariants.{Accepted, Refused}
use Rattle.racer_sources.specs.Sources.{source_names, contents, IsRead, AreAccepted, AreRefused}
use Rattle.racer_sources.specs.Contents.{bytes_in, AreInLimits}
use Rattle.racer_sources.specs.Lines.{refusal_line}

-- the count of faults stayed, or moved as the fault says
abbrev pub CountsFaults : {T : Type 0} → Result T FolderFault → ℕ → ℕ → Type 0
CountsFaults result old new = MatchResult result (λ _. new ≡ old) (λ fault. IsCause fault old new)

-- after calls on a folder it tells what it told, and is steady where it was
pub record KeepsMeaning {F : Type 0} (tells : F → Option Told) (IsSteady : F → Type 0) (old new : F) : Type 0 where
  pub told : tells new ≡ tells old
  pub stays : IsSteady old → IsSteady new

-- the only fault is want of memory
abbrev pub FailsByMemory : {T : Type 0} → Result T FolderFault → Type 0
FailsByMemory result = IfErr result (λ fault. fault ≡ Memory)

-- ---- what is known of what is found, also where the folder does not tell its files

pub record IsTableOf (units : List unit.Unit) (t : Table) : Type 0 where
  pub classes : table.classes t ≡ classes_of units
  pub fields : table.fields t ≡ fields_of units
  pub methods : table.methods t ≡ methods_of units

-- each of these units, numbered from n on, is read from some bytes
abbrev pub AreReadSomehow : (n : ℕ) → List unit.Unit → Type 0
AreReadSomehow n [] = Unit {0}
AreReadSomehow n (u ∷ us) =
    ((sum : ℕ) × (bytes : List ℕ) × IsRead (record { 0 = n }) sum bytes u) × AreReadSomehow (suc n) us

pub record AreKnown (names : List (List ℕ)) (units : List unit.Unit) (t : Table) : Type 0 where
  pub counted : length units ≡ length names
  pub table : IsTableOf units t
  pub none : refusal units ≡ None
  pub read : AreReadSomehow 0 units

abbrev pub IsKnown : FolderSources → Type 0
IsKnown (Accepted s) =
    AreKnown (map string_bytes s.names.items) s.units.items s.table
    × AreInLimits (length s.names.items) s.contents.items
IsKnown (Refused line) = Unit {0}

-- ---- what is found where it tells them

-- the units of its sources with their names, or the line of their refusal
abbrev pub IsFound : Files → FolderSources → Type 0
IsFound files (Accepted s) =
    AreAccepted (contents files) s.units.items × (map string_bytes s.names.items ≡ source_names files)
    × (bytes_in s.contents.items ≡ contents files)
IsFound files (Refused line) =
    (r : Refusal) × AreRefused (contents files) r × (line ≡ refusal_line (source_names files) r)
