-- The numbers in a program of units are in range.
use Rattle.std.proofs.Common.{◌≡◌, ℕ, zero, suc, Bool, true, false, cond, ◌&&◌, List, [], ◌∷◌}
use Rattle.std.proofs.Common.{Option, Some, None, map, length, refl, sym, ap, ◌∙◌, slice_get, nat_lt, arith}
use Rattle.std.proofs.Common.{is_some, replicate}
use Rattle.std.specs.Prelude.{option_map, filter, bytes_eq, ◌==◌}
use Rattle.std.specs.List.{flat_map, list_all, list_any}
use Rattle.std.proofs.lemmas.List.{length-map}
use Rattle.std.proofs.lemmas.Option.{same_Some, none-some}
use Rattle.std.proofs.lemmas.Bool.{and_from, and_parts}
use Rattle.std.proofs.lemmas.List.Folds.{list_all-append}
use Rattle.container_cells.specs.declared.cell.Containers.{Containers}
use Rattle.container_cells.specs.declared.cell.Containers.TheVariants.{Opaque, WithCells}
use Rattle.racer_base.specs.declared.ids.ClassId.{ClassId}
use Rattle.racer_base.specs.declared.ids.MethodId.{MethodId}
use Rattle.racer_base.specs.declared.ids.Kind.{Kind}
use Rattle.racer_base.specs.declared.ids.Kind.TheVariants as types
use Rattle.racer_base.specs.declared.ids.Place.{Place}
use Rattle.java_tree.specs.declared.methods.FieldTree.{FieldTree}
use Rattle.java_tree.specs.declared.methods.FieldVariable.{FieldVariable}
use Rattle.java_tree.specs.declared.methods.ParameterTree.{ParameterTree}
use Rattle.java_tree.specs.declared.methods.ResultTree.{ResultTree}
use Rattle.java_tree.specs.declared.methods.ResultTree.TheVariants as result
use Rattle.java_tree.specs.Trees.{Ty, Typed, Base, Plain, Named, no_part, part_then, Bare, Generic}
use Rattle.java_tree.specs.View.{ty_of}
use Rattle.java_tree.specs.declared.unit.Unit as unit_type
use Rattle.java_tree.specs.declared.unit.ClassTree.{ClassTree}
use Rattle.java_tree.specs.declared.unit.HeadResult.{HeadResult}
use Rattle.java_tree.specs.declared.unit.HeadResult.TheVariants as head
use Rattle.java_tree.specs.declared.unit.Member.{Member}
use Rattle.java_tree.specs.declared.unit.Member.TheVariants as member
use Rattle.java_resolver.specs.declared.infos.FieldInfo.{FieldInfo}
use Rattle.java_resolver.specs.declared.infos.MethodInfo.{MethodInfo}
use Rattle.java_resolver.specs.Declarations.{trees_of, class_info, classes_of, names_of, fields_of}
use Rattle.java_resolver.specs.Declarations.{methods_of, field_info, member_fields, class_fields, result_kind}
use Rattle.java_resolver.specs.Declarations.{kinds_of, further_arrays, head_kind, default_constructor}
use Rattle.java_resolver.specs.Hidden.{hidden_in, is_hidden}
use Rattle.java_resolver.specs.Declarations.{member_is_constructor}
use Rattle.java_resolver.specs.Firsts.{first_that}
use Rattle.java_resolver.specs.TypeKinds.{class_named, class_seen, declared_kind, base_kind, kind_of, kind_with}
use Rattle.core_code.specs.declared.code.Reason.{Reason}
use Rattle.core_code.specs.Core.{Core}
use Rattle.core_code.specs.Facts.{is_place, is_class, is_kind, is_method, is_code, is_class_in_range}
use Rattle.core_code.specs.Facts.{is_field_in_range, is_method_in_range, are_numbers_in_range}
use Rattle.core_code.specs.Calls.{taken_by}
use Rattle.core_code.specs.KindCheck.{begins_with}
use Rattle.core_lowering_rules.specs.Context.{Folder}
use Rattle.core_lowering_rules.specs.Cells.{is_container, content_core, contents}
use Rattle.core_lowering_rules.specs.Scopes.{declared}
use Rattle.core_lowering_rules.specs.Methods.{Default, Source, entered}
use Rattle.core_lowering_rules.specs.Programs.{member_sources, default_sources, class_sources, sources_of, declared_in}
use Rattle.core_lowering_rules.specs.Programs.{statuses_from, folder_of, class_core, field_core, method_core}
use Rattle.core_lowering_rules.specs.Programs.{method_cores}
use Rattle.core_lowering_rules.specs.Programs.{program_of}
use Rattle.core_lowering_rules.specs.Conditions.{member_places}
use Rattle.core_lowering_rules.specs.Conditions.{are_in_files}
use Rattle.core_lowering_rules.proofs.FoundElements.{Each, each-append, each-flat_map, first-passes, unless}
use Rattle.core_lowering_rules.proofs.KindedMethods.{kinded}
use Rattle.core_lowering_rules.proofs.KindedPrograms.{each-at, known}
use Rattle.core_lowering_rules.proofs.KindedPrograms.{sources-same, IsRightSource}
use Rattle.core_lowering_rules.proofs.KindedPrograms.{sources-right, folder-stands}
use Rattle.core_lowering_rules.proofs.InRangeCode.{numbers, fineness, found-below, code-in_range}
use Rattle.core_lowering_rules.proofs.LoweredFacts.{Grounded}
use Rattle.core_lowering_rules.proofs.DraftFacts.{fact_of}
use Rattle.core_lowering_rules.proofs.KeptPlaces.{each-all, each-from, bounded-by_class, each-places, method-places}
use Rattle.core_lowering_rules.proofs.KeptPlaces.{members-all, skipped-all, PlacedClass, trees-placed, PlacedSource}
use Rattle.core_lowering_rules.proofs.KeptPlaces.{sources-placed}
use Rattle.core_lowering_rules.proofs.LoweredMethods.{in-holds, kinds-hold}

-- ---- programs

class_numbered : (o : Option ℕ) (c : ClassId) →
    option_map (λ n. let made : ClassId = record { 0 = n } in made) o ≡ Some c → o ≡ Some c.0
class_numbered None c e = absurd (none-some _ e)
class_numbered (Some n) c e = ap (λ (d : ClassId). Some d.0) (same_Some _ _ e)

as_many-cores : (folder declared : Folder) (is_recursive : MethodId → Bool) (n : ℕ) (sources : List Source) →
    length (method_cores folder sources (statuses_from declared is_recursive n sources)) ≡ length sources
as_many-cores folder declared is_recursive n [] = refl
as_many-cores folder declared is_recursive n (s ∷ sources) =
    ap suc (as_many-cores folder declared is_recursive (suc n) sources)

module _ (containers : Containers) (files : List (List ℕ)) (units : List unit_type.Unit)
    (is_recursive : MethodId → Bool) (placed : are_in_files files units ≡ true) where
  abbrev folder : Folder
  folder = folder_of containers units is_recursive

  abbrev core : Core
  core = program_of containers files units is_recursive

  as_many-classes : length core.classes ≡ length (trees_of units)
  as_many-classes = length-map (classes_of units) class_core ∙ length-map (trees_of units) class_info

  there : (c : ClassId) → nat_lt c.0 (length (trees_of units)) ≡ true → is_class core c ≡ true
  there c h = ap (λ n. nat_lt c.0 n) as_many-classes ∙ h

  -- ---- kinds

  named-there : (name : List ℕ) (c : ClassId) → class_named (names_of units) name ≡ Some c → is_class core c ≡ true
  named-there name c e =
      let y = first-passes (λ text. bytes_eq text name) (names_of units) c.0
      (class_numbered (first_that (λ text. bytes_eq text name) (names_of units)) c e) in
      let below = found-below core (names_of units) c.0 (ap (is_some {T = List ℕ}) y.1) in
      let many : length core.classes ≡ length (names_of units) =
      length-map (classes_of units) class_core ∙ sym (length-map (classes_of units) (λ c. c.name)) in
      ap (λ n. nat_lt c.0 n) many ∙ below

  seen-by : (name : List ℕ) (c : ClassId) (b : Bool) → cond b None (class_named (names_of units) name) ≡ Some c →
      is_class core c ≡ true
  seen-by name c true e = absurd (none-some _ e)
  seen-by name c false e = named-there name c e

  seen-there : (hidden : List (List ℕ)) (name : List ℕ) (c : ClassId) →
      class_seen hidden (names_of units) name ≡ Some c → is_class core c ≡ true
  seen-there hidden name c e = seen-by name c (is_hidden hidden name) e

  declared-there : (hidden : List (List ℕ)) (name : List ℕ) (o : Option ClassId) →
      class_seen hidden (names_of units) name ≡ o → is_kind core (declared_kind o) ≡ true
  declared-there hidden name None e = refl
  declared-there hidden name (Some c) e = seen-there hidden name c e

  base-there : (hidden : List (List ℕ)) (b : Base) → is_kind core (base_kind hidden (names_of units) b) ≡ true
  base-there hidden (Plain text) = refl
  base-there hidden (Named no_part) = refl
  base-there hidden (Named (part_then (Bare name) no_part)) =
      declared-there hidden name (class_seen hidden (names_of units) name) refl
  base-there hidden (Named (part_then (Bare name) (part_then p ps))) = refl
  base-there hidden (Named (part_then (Generic name a) ps)) = refl

  kind-by : (b : Bool) (k : Kind) → is_kind core k ≡ true → is_kind core (cond b k types.Other) ≡ true
  kind-by true k h = h
  kind-by false k h = refl

  kind-there : (hidden : List (List ℕ)) (t : Ty) → is_kind core (kind_of hidden (names_of units) t) ≡ true
  kind-there hidden (Typed base arrays) =
      kind-by (arrays == 0) (base_kind hidden (names_of units) base) (base-there hidden base)

  with-there : (hidden : List (List ℕ)) (t : Ty) (further : ℕ) →
      is_kind core (kind_with (kind_of hidden (names_of units) t) further) ≡ true
  with-there hidden t further =
      kind-by (further == 0) (kind_of hidden (names_of units) t) (kind-there hidden t)

  abbrev IsKind : Kind → Type 0
  IsKind k = is_kind core k ≡ true

  result-there : (hidden : List (List ℕ)) (c : ClassId) → is_class core c ≡ true → (r : ResultTree) (arrays : ℕ) →
      IsKind (result_kind hidden (names_of units) c r arrays)
  result-there hidden c h result.Constructor arrays = h
  result-there hidden c h result.Void arrays = refl
  result-there hidden c h (result.Of t) arrays = with-there hidden (ty_of t) arrays

  head-there : (c : ClassId) → is_class core c ≡ true → (r : HeadResult) → IsKind (head_kind (names_of units) c r)
  head-there c h head.Void = refl
  head-there c h (head.Formed t) = kind-there [] (ty_of t)
  head-there c h head.Constructor = h
  head-there c h head.Unknown = refl

  parameters-there : (hidden : List (List ℕ)) (ps : List ParameterTree) →
      Each IsKind (kinds_of hidden (names_of units) ps)
  parameters-there hidden [] = tt
  parameters-there hidden (p ∷ ps) =
      (with-there hidden (ty_of p.kind) (further_arrays p), parameters-there hidden ps)

  others-there : (n : ℕ) → Each IsKind (replicate n types.Other)
  others-there zero = tt
  others-there (suc n) = (refl, others-there n)

  -- ---- what is declared

  abbrev test-here : Place → Bool
  test-here = is_place core

  trees : Each (PlacedClass test-here) (trees_of units)
  trees = trees-placed test-here units placed

  abbrev IsFieldThere : FieldInfo → Type 0
  IsFieldThere f = (is_class core f.class ≡ true) × IsKind f.kind

  variables-there : (c : ClassId) → is_class core c ≡ true → (f : FieldTree) (vs : List FieldVariable) →
      Each IsFieldThere (map (field_info (names_of units) c f) vs)
  variables-there c h f [] = tt
  variables-there c h f (v ∷ vs) = ((h, kind-there [] (ty_of f.kind)), variables-there c h f vs)

  member_fields-there : (c : ClassId) → is_class core c ≡ true → (x : Member) →
      Each IsFieldThere (member_fields (names_of units) c x)
  member_fields-there c h (member.Field f) = variables-there c h f f.variables
  member_fields-there c h (member.Method t) = tt
  member_fields-there c h (member.Outside o) = tt
  member_fields-there c h (member.Skipped place) = tt

  fields-there : Each IsFieldThere (fields_of units)
  fields-there =
      bounded-by_class IsFieldThere (PlacedClass test-here) (class_fields (names_of units)) (length (trees_of units))
      (λ c tree below p.
      each-flat_map IsFieldThere (member_fields (names_of units) c) (member_fields-there c (there c below))
      tree.members)
      0 (trees_of units) (omega arith) trees

  -- what is known of a method is in range
  record IsSound (s : Source) : Type 0 where
    class : is_class core s.info.class ≡ true
    place : is_place core s.info.place ≡ true
    parameters : Each IsKind s.info.parameters
    result : IsKind s.info.result

  member-sound : (c : ClassId) → is_class core c ≡ true → (tree : ClassTree) → PlacedClass test-here tree →
      (x : Member) → list_all test-here (member_places x) ≡ true →
      Each IsSound (member_sources (names_of units) c tree x)
  member-sound c h tree p (member.Method t) k =
      let places = method-places test-here t k in (
        record {
          class = h;
          place = places.0;
          parameters = parameters-there (hidden_in t) t.parameters;
          result = result-there (hidden_in t) c h t.result t.arrays;
        },
        tt,
      )
  member-sound c h tree p (member.Outside o) k = (
    record {
      class = h;
      place = (and_parts (test-here o.place) _ k).0;
      parameters = others-there o.parameters;
      result = head-there c h o.result;
    },
    tt,
  )
  member-sound c h tree p (member.Field f) k = tt
  member-sound c h tree p (member.Skipped place) k = tt

  members-sound : (c : ClassId) → is_class core c ≡ true → (tree : ClassTree) → PlacedClass test-here tree →
      (xs : List Member) → Each (λ x. list_all test-here (member_places x) ≡ true) xs →
      Each IsSound (flat_map (member_sources (names_of units) c tree) xs)
  members-sound c h tree p xs all =
      each-from (λ x. list_all test-here (member_places x) ≡ true) IsSound (member_sources (names_of units) c tree)
      (member-sound c h tree p) xs all

  class-sound : (c : ClassId) (tree : ClassTree) → nat_lt c.0 (length (trees_of units)) ≡ true →
      PlacedClass test-here tree → Each IsSound (class_sources (names_of units) c tree)
  class-sound c tree below p =
      let h = there c below in
      each-append IsSound (default_sources c tree) (flat_map (member_sources (names_of units) c tree) tree.members)
      (unless IsSound (list_any member_is_constructor tree.members)
      (record { info = default_constructor c tree; members = tree.members; body = Default } ∷ []) (
        record {
          class = h;
          place = (and_parts (test-here tree.place) _ p).0;
          parameters = tt;
          result = h;
        },
        tt,
      ))
      (members-sound c h tree p tree.members
      (each-places test-here member_places tree.members (members-all test-here tree p)))

  sources-sound : Each IsSound (sources_of units)
  sources-sound =
      bounded-by_class IsSound (PlacedClass test-here) (class_sources (names_of units)) (length (trees_of units))
      class-sound 0 (trees_of units) (omega arith) trees

  -- ---- methods

  method-there : (m : MethodId) (info : MethodInfo) → slice_get (methods_of units) m.0 ≡ Some info →
      is_method core m ≡ true
  method-there m info e =
      let below = found-below core (methods_of units) m.0 (ap (is_some {T = MethodInfo}) e) in
      let many : length core.methods ≡ length (methods_of units) =
      as_many-cores folder (declared_in containers units) is_recursive 0 (sources_of units)
      ∙ sym (length-map (sources_of units) known) ∙ ap (length {A = MethodInfo}) (sources-same units) in
      ap (λ n. nat_lt m.0 n) many ∙ below

  own-kinds : (b : Bool) (c : ClassId) → is_class core c ≡ true → Each IsKind (cond b [] (types.Declared c ∷ []))
  own-kinds true c h = tt
  own-kinds false c h = (h, tt)

  grounded : (s : Source) → IsSound s → Grounded (numbers core) (entered folder s)
  grounded s right =
      record {
        known =
            record {
              fields = λ f info e. let h = each-at IsFieldThere (fields_of units) f.0 info fields-there e in h.0;
              methods = method-there;
              named = seen-there;
              types = kind-there;
            };
        here = right.place;
        class = right.class;
        given = right.result;
        kinds = own-kinds s.info.is_static s.info.class right.class;
      }

  code-right : (s : Source) (status : Option Reason) → IsRightSource (names_of units) s → IsSound s →
      PlacedSource test-here s →
      let m = method_core folder s status in is_code core (length m.variables) m.code ≡ true
  code-right s status right sound put =
      let m = method_core folder s status in
      let checked = kinded core folder (folder-stands containers files units is_recursive) s.info s.members status s.body right in
      code-in_range core m
      (let made = in-holds (fact_of (fineness core)) [] (entered folder s) (grounded s sound) s put s.body put.body in
      made.fact)
      (and_parts (begins_with (taken_by m) m.variables) _ checked).1

  method-right : (s : Source) (status : Option Reason) → IsRightSource (names_of units) s → IsSound s →
      PlacedSource test-here s →
      is_method_in_range core (method_core folder s status) ≡ true
  method-right s status right sound put =
      let m = method_core folder s status in
      let a = and_from (is_class core m.class) (is_place core m.place) sound.class sound.place in
      let b = and_from (is_class core m.class && is_place core m.place) (list_all (is_kind core) m.parameters) a
      (each-all (is_kind core) m.parameters sound.parameters) in
      let c = and_from (is_class core m.class && is_place core m.place && list_all (is_kind core) m.parameters)
      (is_kind core m.result) b sound.result in
      let d = and_from
      (is_class core m.class && is_place core m.place && list_all (is_kind core) m.parameters && is_kind core m.result)
      (list_all (is_kind core) m.variables) c
      (each-all (is_kind core) m.variables
      (kinds-hold (fact_of (fineness core)) [] (entered folder s) (grounded s sound) s sound.parameters s.body)) in
      and_from
      (is_class core m.class && is_place core m.place && list_all (is_kind core) m.parameters && is_kind core m.result
      && list_all (is_kind core) m.variables) (is_code core (length m.variables) m.code) d
      (code-right s status right sound put)

  methods-right : (sources : List Source) (statuses : List (Option Reason)) →
      Each (IsRightSource (names_of units)) sources → Each IsSound sources → Each (PlacedSource test-here) sources →
      list_all (is_method_in_range core) (method_cores folder sources statuses) ≡ true
  methods-right [] statuses right sound put = refl
  methods-right (s ∷ sources) [] right sound put = refl
  methods-right (s ∷ sources) (status ∷ statuses) right sound put =
      and_from (is_method_in_range core (method_core folder s status)) _ (method-right s status right.0 sound.0 put.0)
      (methods-right sources statuses right.1 sound.1 put.1)

  -- ---- the whole

  classes-right : (cs : List ClassTree) → Each (PlacedClass test-here) cs →
      list_all (is_class_in_range core) (map class_core (map class_info cs)) ≡ true
  classes-right [] all = refl
  classes-right (c ∷ cs) all =
      and_from (test-here c.place) _ (and_parts (test-here c.place) _ all.0).0 (classes-right cs all.1)

  fields-right : (fs : List FieldInfo) → Each IsFieldThere fs →
      list_all (is_field_in_range core) (map field_core fs) ≡ true
  fields-right [] all = refl
  fields-right (f ∷ fs) all =
      let own = all.0 in
      and_from (is_class core f.class && is_kind core f.kind) _
      (and_from (is_class core f.class) (is_kind core f.kind) own.0 own.1)
      (fields-right fs all.1)

  contents-right : (fs : List FieldInfo) → Each IsFieldThere fs →
      list_all (is_field_in_range core) (map content_core (filter is_container fs)) ≡ true
  contents-right [] all = refl
  contents-right (f ∷ fs) all = by (is_container f) (contents-right fs all.1)
    where
      by : (b : Bool) → list_all (is_field_in_range core) (map content_core (filter is_container fs)) ≡ true →
          list_all (is_field_in_range core)
          (map content_core (cond b (f ∷ filter is_container fs) (filter is_container fs))) ≡ true
      by true rest =
          let own = all.0 in
          and_from (is_class core f.class && true) _ (and_from (is_class core f.class) true own.0 refl) rest
      by false rest = rest

  contents-of : (c : Containers) → list_all (is_field_in_range core) (contents c (fields_of units)) ≡ true
  contents-of Opaque = refl
  contents-of WithCells = contents-right (fields_of units) fields-there

  all-fields-right : list_all (is_field_in_range core) core.fields ≡ true
  all-fields-right =
      list_all-append (is_field_in_range core) (map field_core (fields_of units)) (contents containers (fields_of units))
      ∙ and_from (list_all (is_field_in_range core) (map field_core (fields_of units))) _
      (fields-right (fields_of units) fields-there) (contents-of containers)

  pub numbers-in_range : are_numbers_in_range core ≡ true
  numbers-in_range =
      let a = and_from (list_all test-here core.skipped) (list_all (is_class_in_range core) core.classes)
      (skipped-all test-here units placed) (classes-right (trees_of units) trees) in
      let b = and_from (list_all test-here core.skipped && list_all (is_class_in_range core) core.classes)
      (list_all (is_field_in_range core) core.fields) a all-fields-right in
      and_from
      (list_all test-here core.skipped && list_all (is_class_in_range core) core.classes
      && list_all (is_field_in_range core) core.fields)
      (list_all (is_method_in_range core) core.methods) b
      (methods-right (sources_of units) folder.statuses (sources-right units) sources-sound
      (sources-placed test-here units placed))
