-- No public contract rests on this: why units are refused together, and what is answered where sources are.
use Rattle.std.specs.Prelude.{◌≡◌, ℕ, List, Result, Ok, Err, None, Some}
use Rattle.racer_base.specs.declared.outside.FolderFault.{FolderFault}
use Rattle.racer_base.specs.declared.outside.FolderFault.TheVariants as folder
use Rattle.java_tree.specs.declared.unit.Unit as unit
use Rattle.java_resolver.specs.declared.fault.ResolveFault.{ResolveFault}
use Rattle.java_resolver.specs.declared.fault.ResolveFault.TheVariants as resolve
use Rattle.java_resolver.specs.Refusals.{refusal}
use Rattle.racer_sources.specs.declared.refusal.Refusal.{Refusal}
use Rattle.racer_sources.specs.declared.refusal.Refusal.TheVariants as refusals
use Rattle.racer_sources.specs.declared.fault.SourceFault.{SourceFault}
use Rattle.racer_sources.specs.declared.fault.SourceFault.TheVariants.{Refused, Failed, Memory}
use Rattle.racer_sources.specs.declared.found.DeclaredUnits.{DeclaredUnits}
use Rattle.racer_sources.specs.declared.found.FolderSources.{FolderSources}
use Rattle.racer_sources.specs.declared.found.FolderSources.TheVariants as found
use Rattle.racer_sources.specs.Finding.{IsTableOf}
use Rattle.racer_sources.specs.Lines.{refusal_line}

-- units that are not refused, and what they declare
pub record AreDeclared (units : List unit.Unit) (d : DeclaredUnits) : Type 0 where
  pub units_are : d.units.items ≡ units
  pub table : IsTableOf units d.table
  pub none : refusal units ≡ None

abbrev pub as_declared_fault : ResolveFault → SourceFault
as_declared_fault (resolve.DuplicateClass second first) = Refused (refusals.DuplicateClass second first)
as_declared_fault (resolve.DuplicateField second first) = Refused (refusals.DuplicateField second first)
as_declared_fault (resolve.TooManyClasses n) = Refused (refusals.TooManyClasses n)
as_declared_fault (resolve.TooManyMethods n) = Refused (refusals.TooManyMethods n)
as_declared_fault resolve.Memory = Memory

-- the units are refused so for what they declare
abbrev pub IsDeclared : List unit.Unit → Refusal → Type 0
IsDeclared units (refusals.DuplicateClass second first) = refusal units ≡ Some (resolve.DuplicateClass second first)
IsDeclared units (refusals.DuplicateField second first) = refusal units ≡ Some (resolve.DuplicateField second first)
IsDeclared units (refusals.TooManyClasses n) = refusal units ≡ Some (resolve.TooManyClasses n)
IsDeclared units (refusals.TooManyMethods n) = refusal units ≡ Some (resolve.TooManyMethods n)
IsDeclared units _ = ⊥

-- memory was refused, or this is the fault that there is
abbrev pub IsDeclaredFault : List unit.Unit → SourceFault → Type 0
IsDeclaredFault units (Refused r) = IsDeclared units r
IsDeclaredFault units Failed = ⊥
IsDeclaredFault units Memory = Unit {0}

-- where sources are refused, the line; else the folder's fault
abbrev pub IsRefusedOr : List (List ℕ) → SourceFault → Result FolderSources FolderFault → Type 0
IsRefusedOr names (Refused r) (Ok answer) = answer ≡ found.Refused (refusal_line names r)
IsRefusedOr names (Refused r) (Err fault) = fault ≡ folder.Memory
IsRefusedOr names Failed result = result ≡ Err folder.Failed
IsRefusedOr names Memory result = result ≡ Err folder.Memory
