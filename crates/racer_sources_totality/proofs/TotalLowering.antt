-- All units have a table or are refused, and have a program or too many calls.
use Rattle.std.proofs.Common.{◌≡◌, ℕ, ◌<◌, ◌≤◌, Bool, true, false, cond, ◌⊎◌, inl, inr, List, Option, Some, None}
use Rattle.std.proofs.Common.{length}
use Rattle.std.proofs.Common.{refl}
use Rattle.std.specs.Prelude.{option_map, nat_lt}
use Rattle.std.specs.Option.{option_or}
use Rattle.std.proofs.lemmas.Bool.{cases_lt}
use Rattle.container_cells.specs.declared.cell.Containers.{Containers}
use Rattle.racer_base.specs.declared.limits.TheConstants.{MAX_CALL_EDGES, MAX_CLASSES, MAX_METHODS}
use Rattle.java_tree.specs.declared.unit.Unit as unit
use Rattle.java_resolver.specs.declared.fault.ResolveFault.{ResolveFault}
use Rattle.java_resolver.specs.declared.fault.ResolveFault.TheVariants as resolve
use Rattle.java_resolver.specs.declared.table.Table.{Table}
use Rattle.java_resolver.specs.Declarations.{classes_of, fields_of, methods_of}
use Rattle.java_resolver.specs.declared.infos.ClassInfo.{ClassInfo}
use Rattle.java_resolver.specs.declared.infos.FieldInfo.{FieldInfo}
use Rattle.java_resolver.specs.Refusals.{Repeat, refusal, duplicate_class, duplicate_field, too_many, repeated}
use Rattle.java_resolver.specs.Refusals.{same_class}
use Rattle.java_resolver.specs.Refusals.{same_field}
use Rattle.core_lowering_rules.specs.Programs.{draft_of, program_of, IsLowered}
use Rattle.core_code.specs.Core.{Core}
use Rattle.core_code.specs.Recursion.{TellRecursion}
use Rattle.core_lowering.specs.declared.fault.LowerFault.TheVariants.{TooManyCalls}
use Rattle.core_code.specs.Chains.{flag_of}
use Rattle.core_lowering.specs.Lowered.{calls_of, IsFault}
use Rattle.racer_sources_totality.specs.Totality.{IsTotalRecursion, IsTable, IsTold, IsTotalTables, IsTotalLowering}

abbrev table-of : (us : List unit.Unit) → Table
table-of us = record { classes = classes_of us; fields = fields_of us; methods = methods_of us }

-- a fault, where there is one, is no want of memory
abbrev AreTold : Option ResolveFault → Type 0
AreTold None = Unit {0}
AreTold (Some fault) = IsTold fault

told-or : (a b : Option ResolveFault) → AreTold a → AreTold b → AreTold (option_or a b)
told-or None b h k = k
told-or (Some fault) b h k = h

told-class : (o : Option (Repeat ClassInfo))
    → AreTold (option_map (λ (r : Repeat ClassInfo). resolve.DuplicateClass r.second.place r.first.place) o)
told-class None = tt
told-class (Some r) = tt

told-field : (o : Option (Repeat FieldInfo))
    → AreTold (option_map (λ (r : Repeat FieldInfo). resolve.DuplicateField r.second.place r.first.place) o)
told-field None = tt
told-field (Some r) = tt

told-many : (classes methods : ℕ) → AreTold (too_many classes methods)
told-many classes methods = by (nat_lt MAX_CLASSES classes) (nat_lt MAX_METHODS methods) where
  by : (b c : Bool)
      → AreTold (cond b (Some (resolve.TooManyClasses classes)) (cond c (Some (resolve.TooManyMethods methods)) None))
  by true c = tt
  by false true = tt
  by false false = tt

told : (us : List unit.Unit) → AreTold (refusal us)
told us =
    told-or (duplicate_class (classes_of us)) _ (told-class (repeated same_class (classes_of us)))
    (told-or (duplicate_field (fields_of us)) _ (told-field (repeated same_field (fields_of us)))
    (told-many (length (classes_of us)) (length (methods_of us))))

abbrev AnyTable : List unit.Unit → Type 0
AnyTable us =
    ((table : Table) × IsTable us table × (refusal us ≡ None))
    ⊎ ((fault : ResolveFault) × IsTold fault × (refusal us ≡ Some fault))

pub tables : IsTotalTables
tables us = by (refusal us) refl (told us) where
  by : (o : Option ResolveFault) → refusal us ≡ o → AreTold o → AnyTable us
  by None e h = inl (table-of us, record { classes = refl; fields = refl; methods = refl }, e)
  by (Some fault) e h = inr (fault, h, e)

abbrev AnyLowered : Containers → List (List ℕ) → List unit.Unit → Type 0
AnyLowered containers files us =
    ((core : Core) × IsLowered containers files us core × (calls_of containers us ≤ MAX_CALL_EDGES))
    ⊎ IsFault containers us (TooManyCalls (calls_of containers us))

pub lowering : IsTotalRecursion → IsTotalLowering
lowering recursion containers files us =
    by (cases_lt MAX_CALL_EDGES (calls_of containers us)) (recursion (draft_of containers files us)) where
      by : (MAX_CALL_EDGES < calls_of containers us) ⊎ (calls_of containers us ≤ MAX_CALL_EDGES)
          → (flags : List Bool) × TellRecursion (draft_of containers files us) flags → AnyLowered containers files us
      by (inl many) r = inr (refl, many)
      by (inr few) r =
          inl (
            program_of containers files us (flag_of r.0),
            record { flags = r.0; recursive = r.1; program = refl },
            few,
          )
