-- What the code makes of tables and units is their program.
use Rattle.std.proofs.Common.{◌≡◌, ℕ, Bool, true, List, [], Option, map, ap, ◌∙◌}
use Rattle.std.specs.List.{flat_map}
use Rattle.container_cells.specs.declared.cell.Cell.{Cell}
use Rattle.container_cells.specs.declared.cell.Containers.{Containers}
use Rattle.racer_base.specs.declared.ids.MethodId.{MethodId}
use Rattle.java_tree.specs.declared.unit.Unit as unit_type
use Rattle.java_resolver.specs.declared.infos.ClassInfo.{ClassInfo}
use Rattle.java_resolver.specs.declared.infos.FieldInfo.{FieldInfo}
use Rattle.java_resolver.specs.declared.infos.MethodInfo.{MethodInfo}
use Rattle.java_resolver.specs.Declarations.{classes_of, fields_of, methods_of}
use Rattle.core_code.specs.declared.code.Reason.{Reason}
use Rattle.core_code.specs.Core.{Core}
use Rattle.core_code.specs.Recursion.{all_rows}
use Rattle.core_lowering_rules.specs.Cells.{cells_of}
use Rattle.core_lowering_rules.specs.Context.{Folder}
use Rattle.core_lowering_rules.specs.Methods.{Source}
use Rattle.core_lowering_rules.specs.Programs.{sources_of, declared_in, statuses_from, class_core}
use Rattle.core_lowering_rules.specs.Programs.{field_cores}
use Rattle.core_lowering_rules.specs.Programs.{method_cores, skipped_in, in_order, program_of, draft_of}
use Rattle.core_lowering_surveys.specs.Surveys.{row_in}
use Rattle.core_lowering_surveys.specs.Reasons.{own_reason, with_recursive}
use Rattle.core_lowering_rules.specs.Conditions.{unit_places}
use Rattle.core_lowering_rules.proofs.KeptPlaces.{sources-placed}
use Rattle.core_lowering_rules.proofs.NamedCode.{any-place}
use Rattle.core_lowering_rules.proofs.NamedCode.{rows-same as rows-alike}
use Rattle.core_lowering.proofs.SameReasons.{statuses-same}
use Rattle.core_lowering.proofs.SameCalls.{rows-same}

abbrev folder_in : List ClassInfo → List FieldInfo → List (Option Cell) → List MethodInfo → List (Option Reason) →
    Folder
folder_in classes fields cells methods statuses =
    record { classes = classes; fields = fields; cells = cells; methods = methods; statuses = statuses }

-- the program of these lists
abbrev pub core_in : Containers → List (List ℕ) → List unit_type.Unit → List ClassInfo → List FieldInfo →
    List (Option Cell) → List MethodInfo → List (Option Reason) → List Source → Core
core_in containers files units classes fields cells methods statuses sources =
    record {
      files = files;
      skipped = in_order (flat_map skipped_in units);
      classes = map class_core classes;
      fields = field_cores containers fields;
      methods = method_cores (folder_in classes fields cells methods statuses) sources statuses;
    }

module _ (containers : Containers) (units : List unit_type.Unit) (classes : List ClassInfo) (fields : List FieldInfo)
    (cells : List (Option Cell)) (methods : List MethodInfo) (sources : List Source) (c : classes ≡ classes_of units)
    (f : fields ≡ fields_of units) (k : cells ≡ cells_of containers fields) (m : methods ≡ methods_of units)
    (s : sources ≡ sources_of units) where
  there : cells ≡ cells_of containers (fields_of units)
  there = k ∙ ap (cells_of containers) f

  declared-same : folder_in classes fields cells methods [] ≡ declared_in containers units
  declared-same =
      ap (λ (cs : List ClassInfo). folder_in cs fields cells methods []) c
      ∙ ap (λ (fs : List FieldInfo). folder_in (classes_of units) fs cells methods []) f
      ∙ ap (λ (ks : List (Option Cell)). folder_in (classes_of units) (fields_of units) ks methods []) there
      ∙ ap (λ (ms : List MethodInfo).
      folder_in (classes_of units) (fields_of units) (cells_of containers (fields_of units)) ms []) m

  statuses-are : (is_recursive : MethodId → Bool) (statuses : List (Option Reason)) →
      statuses ≡ with_recursive is_recursive 0 (map (own_reason (folder_in classes fields cells methods [])) sources) →
      statuses ≡ statuses_from (declared_in containers units) is_recursive 0 (sources_of units)
  statuses-are is_recursive statuses e =
      let declared = declared_in containers units in
      e ∙ ap (λ (folder : Folder). with_recursive is_recursive 0 (map (own_reason folder) sources)) declared-same
      ∙ ap (λ (ss : List Source). with_recursive is_recursive 0 (map (own_reason declared) ss)) s
      ∙ statuses-same declared is_recursive 0 (sources_of units)

  pub program-made : (files : List (List ℕ)) (is_recursive : MethodId → Bool) (statuses : List (Option Reason)) →
      statuses ≡ with_recursive is_recursive 0 (map (own_reason (folder_in classes fields cells methods [])) sources) →
      core_in containers files units classes fields cells methods statuses sources ≡
      program_of containers files units is_recursive
  program-made files is_recursive statuses e =
      let made = core_in containers files units in
      let held = cells_of containers (fields_of units) in
      ap (λ (cs : List ClassInfo). made cs fields cells methods statuses sources) c
      ∙ ap (λ (fs : List FieldInfo). made (classes_of units) fs cells methods statuses sources) f
      ∙ ap (λ (ks : List (Option Cell)). made (classes_of units) (fields_of units) ks methods statuses sources) there
      ∙ ap (λ (ms : List MethodInfo). made (classes_of units) (fields_of units) held ms statuses sources) m
      ∙ ap (λ (ss : List Source).
      made (classes_of units) (fields_of units) held (methods_of units) statuses ss) s
      ∙ ap (λ (st : List (Option Reason)).
      made (classes_of units) (fields_of units) held (methods_of units) st (sources_of units))
      (statuses-are is_recursive statuses e)

  -- the calls are those of the draft, whichever methods are analysed
  pub rows-made : map (row_in (folder_in classes fields cells methods [])) sources ≡
      all_rows (draft_of containers [] units)
  rows-made =
      let none = declared_in containers units in
      let recursive = statuses_from none (λ m. true) 0 (sources_of units) in
      ap (λ (folder : Folder). map (row_in folder) sources) declared-same
      ∙ ap (λ (ss : List Source). map (row_in none) ss) s
      ∙ rows-same none none (λ m. true) 0 (sources_of units)
      ∙ rows-alike none [] recursive none (λ m. true) (λ m. true) 0 (sources_of units)
      (sources-placed (λ p. true) units (any-place (flat_map unit_places units)))
