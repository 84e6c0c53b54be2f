-- A contract of a public call rests on this: `lower` and `lower_cells`. Which fault units have that have no program.
use Rattle.std.specs.Prelude.{◌≡◌, ◌<◌, ℕ, List, []}
use Rattle.container_cells.specs.declared.cell.Containers.{Containers}
use Rattle.racer_base.specs.declared.limits.TheConstants.{MAX_CALL_EDGES}
use Rattle.java_tree.specs.declared.unit.Unit as unit_type
use Rattle.core_lowering_rules.specs.Programs.{draft_of, call_edges}
use Rattle.core_lowering.specs.declared.fault.LowerFault.{LowerFault}
use Rattle.core_lowering.specs.declared.fault.LowerFault.TheVariants.{TooManyCalls, Memory}

-- how many different calls there are in units where containers are this, whatever their files
abbrev pub calls_of : Containers → List unit_type.Unit → ℕ
calls_of containers units = call_edges (draft_of containers [] units)

-- the fault of these units; nothing is said where memory was refused
abbrev pub IsFault : Containers → List unit_type.Unit → LowerFault → Type 0
IsFault containers units (TooManyCalls n) = (calls_of containers units ≡ n) × (MAX_CALL_EDGES < n)
IsFault containers units Memory = Unit {0}
