-- A contract of a public call rests on this: what the sources of a folder are: a program, or refused with a line.
use Rattle.std.specs.Prelude.{◌≡◌, ℕ, ◌<◌, ◌≤◌, List}
use Rattle.container_cells.specs.declared.cell.Containers.{Containers}
use Rattle.racer_base.specs.Outside.{Files}
use Rattle.racer_base.specs.declared.limits.TheConstants.{MAX_CALL_EDGES}
use Rattle.java_tree.specs.declared.unit.Unit as unit
use Rattle.core_lowering_rules.specs.Programs.{IsLowered}
use Rattle.core_lowering.specs.Lowered.{calls_of}
use Rattle.core_code.specs.Core.{Core}
use Rattle.core_code.specs.Program.{core}
use Rattle.racer_sources.specs.declared.refusal.Refusal as refusal
use Rattle.racer_sources.specs.declared.refusal.Refusal.TheVariants.{TooManyCalls}
use Rattle.racer_sources.specs.Sources.{source_names, contents, AreAccepted, AreRefused}
use Rattle.racer_sources.specs.Lines.{refusal_line}
use Rattle.racer_sources.specs.declared.programs.FoundProgram.{FoundProgram}
use Rattle.racer_sources.specs.declared.programs.FoundProgram.TheVariants as found

pub data Source : Type 0 where
  Refusal : (line : List ℕ) → Source
  Accepted : (program : Core) → Source

-- they are accepted, and their units are lowered to this program, where containers are this
pub record IsProgram (containers : Containers) (files : Files) (program : Core) : Type 0 where
  pub units : List unit.Unit
  pub accepted : AreAccepted (contents files) units
  pub few : calls_of containers units ≤ MAX_CALL_EDGES
  pub lowered : IsLowered containers (source_names files) units program

-- they are accepted but for their calls, of which there are so many
pub record HasTooManyCalls (containers : Containers) (files : Files) (n : ℕ) : Type 0 where
  pub units : List unit.Unit
  pub accepted : AreAccepted (contents files) units
  pub counted : calls_of containers units ≡ n
  pub many : MAX_CALL_EDGES < n

-- they are refused so
abbrev pub AreRefusedFor : Containers → Files → refusal.Refusal → Type 0
AreRefusedFor containers files (TooManyCalls n) = HasTooManyCalls containers files n
AreRefusedFor containers files r = AreRefused (contents files) r

-- this is what the sources of a folder with these files are, where containers are this
abbrev pub IsSource : Containers → Files → Source → Type 0
IsSource containers files (Refusal line) =
    (r : refusal.Refusal) × AreRefusedFor containers files r × (line ≡ refusal_line (source_names files) r)
IsSource containers files (Accepted program) = IsProgram containers files program

-- what is found as a source
abbrev pub source_of : FoundProgram → Source
source_of (found.Accepted program) = Accepted (core program)
source_of (found.Refused line) = Refusal line
