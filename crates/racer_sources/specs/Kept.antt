-- A contract of a public call rests on this: the sources of a folder, as they are kept.
use Rattle.std.specs.Prelude.{◌≡◌, ℕ, false, List, Option, Some, Result, Ok, Err}
use Rattle.std.specs.Prelude.{IfOk, MatchOption, map, slice_get, string_bytes}
use Rattle.std.specs.List.{list_any}
use Rattle.container_cells.specs.declared.cell.Containers.TheVariants.{Opaque}
use Rattle.racer_base.specs.declared.out_of_memory.Memory as memory
use Rattle.racer_base.specs.Outside.{Files, same_name}
use Rattle.racer_sources.specs.Contents.{bytes_in, front}
use Rattle.racer_sources.specs.Finding.{AreKnown}
use Rattle.racer_sources.specs.Sources.{source_names, contents, AreAccepted, AreRefused}
use Rattle.racer_sources.specs.Programs.{Source, Refusal, Accepted, IsSource, source_of}
use Rattle.racer_sources.specs.declared.programs.FoundProgram.{FoundProgram}
use Rattle.core_code.specs.Program.{core}
use Rattle.racer_sources.specs.declared.fault.SourceFault.{SourceFault}
use Rattle.racer_sources.specs.declared.fault.SourceFault.TheVariants as fault
use Rattle.racer_sources.specs.declared.found.DeclaredUnits.{DeclaredUnits}
use Rattle.racer_sources.specs.declared.source_files.SourceFiles.{SourceFiles}
use Rattle.racer_sources.specs.declared.kept.KeptProgram.{KeptProgram}
use Rattle.racer_sources.specs.declared.kept.KeptProgram.TheVariants as kept

-- the sources of a folder with these files are kept: their names, and as much of each as is read of it
pub record AreKept (files : Files) (kept : SourceFiles) : Type 0 where
  pub names : map string_bytes kept.names.items ≡ source_names files
  pub contents : bytes_in kept.contents.items ≡ map front (contents files)

-- over whatever files these sources are kept of, this is what they are
abbrev pub IsSourceOf : SourceFiles → Result FoundProgram memory.Memory → Type 0
IsSourceOf kept result =
    (files : Files) → AreKept files kept → IfOk result (λ found. IsSource Opaque files (source_of found))

-- what is found as a source
abbrev pub source_kept : KeptProgram → Source
source_kept (kept.Accepted program files) = Accepted (core program)
source_kept (kept.Refused line) = Refusal line

-- where there is a program, the sources are kept
abbrev pub HasKept : Files → KeptProgram → Type 0
HasKept files (kept.Accepted program sources) = AreKept files sources
HasKept files (kept.Refused line) = Unit {0}

-- the place of a name in a list
abbrev pub IsNumberOf : List (List ℕ) → List ℕ → Option ℕ → Type 0
IsNumberOf names name found = MatchOption found (list_any (same_name name) names ≡ false)
    (λ n. slice_get names n ≡ Some name)

-- what sources that are kept declare, or why they are refused
abbrev pub IsDeclaredOf : SourceFiles → Result DeclaredUnits SourceFault → Type 0
IsDeclaredOf kept (Ok d) =
    AreAccepted (bytes_in kept.contents.items) d.units.items
    × AreKnown (map string_bytes kept.names.items) d.units.items d.table
IsDeclaredOf kept (Err (fault.Refused r)) = AreRefused (bytes_in kept.contents.items) r
IsDeclaredOf kept (Err fault.Failed) = ⊥
IsDeclaredOf kept (Err fault.Memory) = Unit {0}
