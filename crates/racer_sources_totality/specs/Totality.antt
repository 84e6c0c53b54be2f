-- A contract of a public call rests on this: the laws `recursion_is_total`, `numbers_fall`, `tables_are_total` and
-- `lowering_is_total`. That it is told of each program which methods are recursive; that numbers fall along calls where
-- none is; that units have a table, or are refused; and that they have a program, or too many calls.
use Rattle.std.specs.Prelude.{◌≡◌, ℕ, ◌<◌, ◌≤◌, ◌⊎◌, Bool, List, Some, None, length}
use Rattle.container_cells.specs.declared.cell.Containers.{Containers}
use Rattle.racer_base.specs.declared.ids.MethodId.{MethodId}
use Rattle.racer_base.specs.declared.limits.TheConstants.{MAX_CALL_EDGES}
use Rattle.java_tree.specs.declared.unit.Unit as unit
use Rattle.java_resolver.specs.declared.fault.ResolveFault.{ResolveFault}
use Rattle.java_resolver.specs.declared.fault.ResolveFault.TheVariants as resolve
use Rattle.java_resolver.specs.declared.table.Table.{Table}
use Rattle.java_resolver.specs.Declarations.{classes_of, fields_of, methods_of}
use Rattle.java_resolver.specs.Refusals.{refusal}
use Rattle.java_resolver.specs.Table.{classes, fields, methods}
use Rattle.core_code.specs.Chains.{Calls, IsOnCycle, TellCycles}
use Rattle.core_code.specs.Falling.{number_of, DoFall}
use Rattle.core_code.specs.Core.{Core}
use Rattle.core_code.specs.Recursion.{TellRecursion}
use Rattle.core_lowering_rules.specs.Programs.{IsLowered}
use Rattle.core_lowering.specs.declared.fault.LowerFault.TheVariants.{TooManyCalls}
use Rattle.core_lowering.specs.Lowered.{calls_of, IsFault}

-- all rows have flags of those that are on a cycle
abbrev pub IsTotalOnCycles : Type 0
IsTotalOnCycles = (rows : List (List MethodId)) → (flags : List Bool) × TellCycles rows flags

-- all programs have flags of their recursive methods
abbrev pub IsTotalRecursion : Type 0
IsTotalRecursion = (core : Core) → (flags : List Bool) × TellRecursion core flags

-- each method that is called has a row
abbrev pub AreInRange : List (List MethodId) → Type 0
AreInRange rows = (m n : MethodId) → Calls rows m n → n.0 < length rows

-- no method is on a cycle
abbrev pub AreAcyclic : List (List MethodId) → Type 0
AreAcyclic rows = (m : MethodId) → IsOnCycle rows m → ⊥

-- each method has a number below how many methods there are
abbrev pub FallBelow : List (List MethodId) → List ℕ → Type 0
FallBelow rows numbers = (m : MethodId) → m.0 < length rows → number_of numbers m < length rows

-- these numbers fall along calls
pub record AreFalling (rows : List (List MethodId)) (numbers : List ℕ) : Type 0 where
  pub as_many : length numbers ≡ length rows
  pub fall : DoFall rows numbers
  pub below : FallBelow rows numbers

abbrev pub HaveNumbers : List (List MethodId) → Type 0
HaveNumbers rows = (numbers : List ℕ) × AreFalling rows numbers

-- where no method is on a cycle, there are numbers that fall along calls
abbrev pub DoNumbersFall : Type 0
DoNumbersFall = (rows : List (List MethodId)) → AreInRange rows → AreAcyclic rows → HaveNumbers rows

-- this is a table of the units
pub record IsTable (us : List unit.Unit) (table : Table) : Type 0 where
  pub classes : classes table ≡ classes_of us
  pub fields : fields table ≡ fields_of us
  pub methods : methods table ≡ methods_of us

-- a fault that says something of the units
abbrev pub IsTold : ResolveFault → Type 0
IsTold resolve.Memory = ⊥
IsTold _ = Unit {0}

-- units that are not refused have a table; those that are, are so for a fault that is no want of memory
abbrev pub IsTotalTables : Type 0
IsTotalTables = (us : List unit.Unit)
    → ((table : Table) × IsTable us table × (refusal us ≡ None))
    ⊎ ((fault : ResolveFault) × IsTold fault × (refusal us ≡ Some fault))

-- all units have a program, or too many calls
abbrev pub IsTotalLowering : Type 0
IsTotalLowering = (containers : Containers) (files : List (List ℕ)) (us : List unit.Unit)
    → ((core : Core) × IsLowered containers files us core × (calls_of containers us ≤ MAX_CALL_EDGES))
    ⊎ IsFault containers us (TooManyCalls (calls_of containers us))
