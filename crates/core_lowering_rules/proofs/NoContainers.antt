-- Where no field is a container, cells of containers change nothing.
use Rattle.std.proofs.Common.{◌≡◌, ℕ, suc, Bool, true, false, cond, not, ◌||◌, List, [], ◌∷◌, ◌++◌, Option, Some, None}
use Rattle.std.proofs.Common.{map, filter, refl, ap, ap₂, ◌∙◌, subst, is_some}
use Rattle.std.specs.List.{flat_map, list_any}
use Rattle.container_cells.specs.declared.cell.Cell.{Cell}
use Rattle.container_cells.specs.declared.cell.Containers.TheVariants.{Opaque, WithCells}
use Rattle.container_cells.specs.declared.table.Family.{Family}
use Rattle.racer_base.specs.declared.ids.MethodId.{MethodId}
use Rattle.java_tree.specs.declared.unit.Unit.{Unit}
use Rattle.java_resolver.specs.declared.infos.FieldInfo.{FieldInfo}
use Rattle.java_resolver.specs.Declarations.{classes_of, fields_of, methods_of}
use Rattle.core_code.specs.Chains.{flag_of}
use Rattle.core_code.specs.Core.{Core}
use Rattle.core_code.specs.Recursion.{TellRecursion}
use Rattle.core_code.specs.declared.parts.FieldCore.{FieldCore}
use Rattle.core_lowering_rules.specs.Cells.{cell, cells_from, content_core, is_container, no_cell}
use Rattle.core_lowering_rules.specs.Context.{Folder}
use Rattle.core_lowering_rules.specs.Programs.{sources_of, statuses_from, class_core, field_core, method_cores}
use Rattle.core_lowering_rules.specs.Programs.{skipped_in, in_order, program_of, IsLowered}

-- ---- cells and their fields

cells-by : (o : Option Family) (n : ℕ) (fs : List FieldInfo) (others : Bool) → not (is_some o || others) ≡ true →
    (not others ≡ true → cells_from n fs ≡ map no_cell fs) →
    elim o as (λ _. List (Option Cell)) [
      | None ↦ None ∷ cells_from n fs
      | Some family ↦ Some (cell family n) ∷ cells_from (suc n) fs
    ] ≡ None ∷ map no_cell fs
cells-by None n fs others h more = ap (λ cells. None ∷ cells) (more h)
cells-by (Some family) n fs others h more = absurd cc

no-cells : (n : ℕ) (fs : List FieldInfo) → not (list_any is_container fs) ≡ true → cells_from n fs ≡ map no_cell fs
no-cells n [] h = refl
no-cells n (f ∷ fs) h = cells-by f.family n fs (list_any is_container fs) h (no-cells n fs)

contents-by : (f : FieldInfo) (fs : List FieldInfo) (b others : Bool) → not (b || others) ≡ true →
    (not others ≡ true → filter is_container fs ≡ []) →
    cond b (f ∷ filter is_container fs) (filter is_container fs) ≡ []
contents-by f fs true others h more = absurd cc
contents-by f fs false others h more = more h

no-containers : (fs : List FieldInfo) → not (list_any is_container fs) ≡ true → filter is_container fs ≡ []
no-containers [] h = refl
no-containers (f ∷ fs) h = contents-by f fs (is_container f) (list_any is_container fs) h (no-containers fs)

-- ---- programs

module _ (files : List (List ℕ)) (units : List Unit) (is_recursive : MethodId → Bool) where
  abbrev declared_with : List (Option Cell) → Folder
  declared_with cells =
      record {
        classes = classes_of units;
        fields = fields_of units;
        cells = cells;
        methods = methods_of units;
        statuses = [];
      }

  abbrev folder_with : List (Option Cell) → Folder
  folder_with cells =
      record (declared_with cells) {
        statuses = statuses_from (declared_with cells) is_recursive 0 (sources_of units);
      }

  abbrev program_with : List (Option Cell) → List FieldCore → Core
  program_with cells behind =
      record {
        files = files;
        skipped = in_order (flat_map skipped_in units);
        classes = map class_core (classes_of units);
        fields = map field_core (fields_of units) ++ behind;
        methods = method_cores (folder_with cells) (sources_of units) (folder_with cells).statuses;
      }

  pub same-program : not (list_any is_container (fields_of units)) ≡ true →
      program_of WithCells files units is_recursive ≡ program_of Opaque files units is_recursive
  same-program h =
      ap₂ program_with (no-cells _ (fields_of units) h)
      (ap (map content_core) (no-containers (fields_of units) h))

pub same-lowered : (files : List (List ℕ)) (units : List Unit) (core : Core) →
    not (list_any is_container (fields_of units)) ≡ true →
    IsLowered WithCells files units core → IsLowered Opaque files units core
same-lowered files units core h lowered =
    record {
      flags = lowered.flags;
      recursive =
          subst (λ (draft : Core). TellRecursion draft lowered.flags) (same-program files units (λ m. true) h)
          lowered.recursive;
      program = lowered.program ∙ same-program files units (flag_of lowered.flags) h;
    }
