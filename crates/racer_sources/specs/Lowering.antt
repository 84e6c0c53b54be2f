-- No public contract rests on this: what accepted units are lowered to, where containers are this.
use Rattle.std.specs.Prelude.{◌≡◌, ℕ, ◌<◌, ◌≤◌, List}
use Rattle.container_cells.specs.declared.cell.Containers.{Containers}
use Rattle.racer_base.specs.declared.limits.TheConstants.{MAX_CALL_EDGES}
use Rattle.java_tree.specs.declared.unit.Unit as unit
use Rattle.core_lowering_rules.specs.Programs.{IsLowered}
use Rattle.core_lowering.specs.Lowered.{calls_of}
use Rattle.core_code.specs.Program.{core}
use Rattle.racer_sources.specs.declared.refusal.Refusal.TheVariants.{TooManyCalls}
use Rattle.racer_sources.specs.Lines.{refusal_line}
use Rattle.racer_sources.specs.declared.programs.FoundProgram.{FoundProgram}
use Rattle.racer_sources.specs.declared.programs.FoundProgram.TheVariants.{Accepted, Refused}

-- their program, or the line of their calls
abbrev pub IsLoweredFrom : Containers → List (List ℕ) → List unit.Unit → FoundProgram → Type 0
IsLoweredFrom containers names units (Accepted program) =
    (calls_of containers units ≤ MAX_CALL_EDGES) × IsLowered containers names units (core program)
IsLoweredFrom containers names units (Refused line) =
    (n : ℕ) × (calls_of containers units ≡ n) × (MAX_CALL_EDGES < n) × (line ≡ refusal_line names (TooManyCalls n))
