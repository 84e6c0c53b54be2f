-- Units that are the same have one program.
use Rattle.std.proofs.Common.{◌≡◌, ℕ, suc, ◌-◌, Bool, true, false, List, [], ◌∷◌, ◌++◌, Option, map, length}
use Rattle.std.proofs.Common.{IsTrue, ◌↔◌, refl, ap, ap₂, sym, ◌∙◌, subst}
use Rattle.std.specs.List.{AllZip, flat_map}
use Rattle.std.specs.Prelude.{nat_lt}
use Rattle.std.specs.Option.{option_or}
use Rattle.container_cells.specs.declared.cell.Containers.{Containers}
use Rattle.racer_base.specs.declared.ids.ClassId.{ClassId}
use Rattle.racer_base.specs.declared.ids.Kind.{Kind}
use Rattle.racer_base.specs.declared.ids.MethodId.{MethodId}
use Rattle.racer_base.specs.declared.ids.Place.{Place}
use Rattle.racer_base.specs.declared.limits.TheConstants.{MAX_PARAMETERS, MAX_LOCALS}
use Rattle.racer_base.proofs.Lists.{same_3, same_4}
use Rattle.java_tree.specs.declared.unit.ClassTree.{ClassTree}
use Rattle.java_tree.specs.declared.unit.Member.{Member}
use Rattle.java_tree.specs.declared.unit.Unit as unit
use Rattle.java_tree.specs.SameUnits.{SameMember, SameClass, SameUnit}
use Rattle.java_resolver.specs.declared.infos.ClassInfo.{ClassInfo}
use Rattle.java_resolver.specs.declared.infos.FieldInfo.{FieldInfo}
use Rattle.java_resolver.specs.declared.infos.MethodInfo.{MethodInfo}
use Rattle.java_resolver.specs.Declarations.{trees_of, class_info, classes_of, class_names, names_of, by_class}
use Rattle.java_resolver.specs.Declarations.{class_fields, fields_of, class_methods, methods_of}
use Rattle.java_resolver.specs.Refusals.{refused, refusal}
use Rattle.core_code.specs.Chains.{flag_of, IsOnCycle, TellCycles}
use Rattle.core_code.specs.declared.code.Reason.{Reason}
use Rattle.core_code.specs.declared.code.Reason.TheVariants.{Overload, Outside, Parameters, Locals, Operations}
use Rattle.core_code.specs.declared.code.Reason.TheVariants.{Recursive}
use Rattle.core_code.specs.Core.{Core, Method}
use Rattle.core_code.specs.Recursion.{all_rows}
use Rattle.core_code.specs.Tree.{in_sequence}
use Rattle.core_lowering_drafts.specs.Only.{Code}
use Rattle.core_lowering_rules.specs.Context.{Folder}
use Rattle.core_lowering_rules.specs.Cells.{cells_of}
use Rattle.core_lowering_rules.specs.Methods.{Source, this_kinds}
use Rattle.core_lowering_drafts.specs.Sites.{numbered}
use Rattle.core_lowering_rules.specs.Programs.{class_sources, sources_of, status_of, declared_in, statuses_from}
use Rattle.core_lowering_rules.specs.Programs.{folder_of}
use Rattle.core_lowering_rules.specs.Programs.{class_core, field_cores, method_core, method_cores, skipped_member}
use Rattle.core_lowering_rules.specs.Programs.{skipped_in}
use Rattle.core_lowering_rules.specs.Programs.{in_order, program_of, draft_of, IsLowered, is_overloaded, where_so}
use Rattle.core_lowering_rules.specs.Programs.{is_entry}
use Rattle.core_lowering_rules.proofs.ZippedLists.{zip-map, zip-flat, zip-append, zip-zips}
use Rattle.core_lowering_rules.proofs.SameMembers.{by-form, class-alike, class_fields-alike, class_methods-alike}
use Rattle.core_lowering_rules.proofs.SameSources.{SameSource, class_sources-same, method_code-alike}
use Rattle.core_lowering_rules.proofs.SameSources.{method_kinds-alike}
use Rattle.core_lowering_rules.proofs.SameSources.{outside-alike, past-alike}

-- ---- class by class

by_class-alike : {A : Type 0} (f : ClassId → ClassTree → List A)
    → ((c : ClassId) (a b : ClassTree) → SameClass a b → f c a ≡ f c b)
    → (n : ℕ) (us vs : List ClassTree) → AllZip SameClass us vs → by_class f n us ≡ by_class f n vs
by_class-alike f one n [] [] h = refl
by_class-alike f one n [] (b ∷ vs) h = absurd h
by_class-alike f one n (a ∷ us) [] h = absurd h
by_class-alike f one n (a ∷ us) (b ∷ vs) h =
    ap₂ (λ l r. l ++ r) (one (record { 0 = n }) a b h.0) (by_class-alike f one (suc n) us vs h.1)

by_class-same : (f : ClassId → ClassTree → List Source)
    → ((c : ClassId) (a b : ClassTree) → SameClass a b → AllZip SameSource (f c a) (f c b))
    → (n : ℕ) (us vs : List ClassTree) → AllZip SameClass us vs
    → AllZip SameSource (by_class f n us) (by_class f n vs)
by_class-same f one n [] [] h = tt
by_class-same f one n [] (b ∷ vs) h = absurd h
by_class-same f one n (a ∷ us) [] h = absurd h
by_class-same f one n (a ∷ us) (b ∷ vs) h =
    zip-append SameSource (f (record { 0 = n }) a) (f (record { 0 = n }) b) (by_class f (suc n) us)
    (by_class f (suc n) vs) (one (record { 0 = n }) a b h.0) (by_class-same f one (suc n) us vs h.1)

-- ---- method by method

abbrev status_with : Folder → Bool → MethodInfo → Bool → List Kind → Bool → Option Reason
status_with folder recursive i outside kinds large =
    option_or (where_so (is_overloaded folder.methods i) Overload)
    (option_or (where_so outside Outside)
    (option_or (where_so (nat_lt MAX_PARAMETERS (length i.parameters)) Parameters)
    (option_or
    (where_so (nat_lt MAX_LOCALS (length kinds - length (this_kinds i) - length i.parameters)) Locals)
    (option_or (where_so large Operations) (where_so recursive Recursive)))))

status-alike : (folder : Folder) (recursive : Bool) (s t : Source) → SameSource s t
    → status_of folder recursive s ≡ status_of folder recursive t
status-alike folder recursive s t same =
    same_4 (status_with folder recursive) same.info (outside-alike folder s t same)
    (method_kinds-alike folder s t same) (past-alike folder s t same)

statuses-alike : (folder : Folder) (r : MethodId → Bool) (n : ℕ) (ss ts : List Source) → AllZip SameSource ss ts
    → statuses_from folder r n ss ≡ statuses_from folder r n ts
statuses-alike folder r n [] [] h = refl
statuses-alike folder r n [] (t ∷ ts) h = absurd h
statuses-alike folder r n (s ∷ ss) [] h = absurd h
statuses-alike folder r n (s ∷ ss) (t ∷ ts) h =
    ap₂ (λ x l. x ∷ l) (status-alike folder (r (record { 0 = n })) s t h.0)
    (statuses-alike folder r (suc n) ss ts h.1)

abbrev core_with : Folder → Option Reason → MethodInfo → List Kind → Code → Method
core_with folder status i kinds code =
    record {
      class = i.class;
      name = i.name;
      place = i.place;
      parameters = i.parameters;
      result = i.result;
      variables = kinds;
      is_static = i.is_static;
      entry = is_entry folder i status;
      main = i.main;
      status = status;
      code = numbered 0 (in_sequence code);
    }

core-alike : (folder : Folder) (status : Option Reason) (s t : Source) → SameSource s t
    → method_core folder s status ≡ method_core folder t status
core-alike folder status s t same =
    same_3 (core_with folder status) same.info (method_kinds-alike folder s t same) (method_code-alike folder s t same)

cores-alike : (folder : Folder) (ss ts : List Source) (statuses : List (Option Reason)) → AllZip SameSource ss ts
    → method_cores folder ss statuses ≡ method_cores folder ts statuses
cores-alike folder [] [] statuses h = refl
cores-alike folder [] (t ∷ ts) statuses h = absurd h
cores-alike folder (s ∷ ss) [] statuses h = absurd h
cores-alike folder (s ∷ ss) (t ∷ ts) [] h = refl
cores-alike folder (s ∷ ss) (t ∷ ts) (status ∷ statuses) h =
    ap₂ (λ x l. x ∷ l) (core-alike folder status s t h.0) (cores-alike folder ss ts statuses h.1)

-- ---- units

skipped_member-alike : (x y : Member) → SameMember x y → skipped_member x ≡ skipped_member y
skipped_member-alike =
    by-form (λ x y. skipped_member x ≡ skipped_member y) (λ f g h. refl) (λ m n h. refl) (λ a b h. refl)
    (λ p q e. ap (λ x. x ∷ []) e)

abbrev skipped_class : ClassTree → List Place
skipped_class c = flat_map skipped_member c.members

skipped_class-alike : (a b : ClassTree) → SameClass a b → skipped_class a ≡ skipped_class b
skipped_class-alike a b h =
    zip-flat SameMember skipped_member skipped_member skipped_member-alike a.members b.members h.members

skipped-alike : (u v : unit.Unit) → SameUnit u v → skipped_in u ≡ skipped_in v
skipped-alike u v h =
    ap₂ (λ l r. l ++ r) h.skipped
    (zip-flat SameClass skipped_class skipped_class skipped_class-alike u.classes v.classes h.classes)

abbrev declared_by : Containers → List ClassInfo → List FieldInfo → List MethodInfo → Folder
declared_by containers classes fields methods =
    record {
      classes = classes;
      fields = fields;
      cells = cells_of containers fields;
      methods = methods;
      statuses = [];
    }

abbrev program_with : Containers → List (List ℕ) → Folder → List Method → List Place → Core
program_with containers files folder methods skipped =
    record {
      files = files;
      skipped = in_order skipped;
      classes = map class_core folder.classes;
      fields = field_cores containers folder.fields;
      methods = methods;
    }

module _ (us vs : List unit.Unit) (same : AllZip SameUnit us vs) where
  trees-same : AllZip SameClass (trees_of us) (trees_of vs)
  trees-same =
      zip-zips SameUnit SameClass (λ (u : unit.Unit). u.classes) (λ (u : unit.Unit). u.classes) (λ u v h. h.classes)
      us vs same

  classes-alike : classes_of us ≡ classes_of vs
  classes-alike = zip-map SameClass class_info class-alike (trees_of us) (trees_of vs) trees-same

  names-alike : names_of us ≡ names_of vs
  names-alike = ap class_names classes-alike

  fields-alike : fields_of us ≡ fields_of vs
  fields-alike =
      by_class-alike (class_fields (names_of us)) (λ c a b h. class_fields-alike (names_of us) c a b h) 0 (trees_of us)
      (trees_of vs) trees-same
      ∙ ap (λ names. by_class (class_fields names) 0 (trees_of vs)) names-alike

  methods-alike : methods_of us ≡ methods_of vs
  methods-alike =
      by_class-alike (class_methods (names_of us)) (λ c a b h. class_methods-alike (names_of us) c a b h) 0
      (trees_of us) (trees_of vs) trees-same
      ∙ ap (λ names. by_class (class_methods names) 0 (trees_of vs)) names-alike

  pub refusal-alike : refusal us ≡ refusal vs
  refusal-alike = same_3 refused classes-alike fields-alike methods-alike

  sources-same : AllZip SameSource (sources_of us) (sources_of vs)
  sources-same =
      subst (λ names. AllZip SameSource (sources_of us) (by_class (class_sources names) 0 (trees_of vs))) names-alike
      (by_class-same (class_sources (names_of us)) (λ c a b h. class_sources-same (names_of us) c a b h) 0
      (trees_of us) (trees_of vs) trees-same)

  module _ (containers : Containers) where
    declared-alike : declared_in containers us ≡ declared_in containers vs
    declared-alike = same_3 (declared_by containers) classes-alike fields-alike methods-alike

    folder-alike : (r : MethodId → Bool) → folder_of containers us r ≡ folder_of containers vs r
    folder-alike r =
        ap (λ (folder : Folder). record folder { statuses = statuses_from folder r 0 (sources_of us) }) declared-alike
        ∙ ap (λ statuses. record (declared_in containers vs) { statuses = statuses })
        (statuses-alike (declared_in containers vs) r 0 (sources_of us) (sources_of vs) sources-same)

    pub program-alike : (files : List (List ℕ)) (r : MethodId → Bool) →
        program_of containers files us r ≡ program_of containers files vs r
    program-alike files r =
        ap
        (λ folder. program_with containers files folder (method_cores folder (sources_of us) folder.statuses)
        (flat_map skipped_in us)) (folder-alike r)
        ∙ ap₂ (program_with containers files (folder_of containers vs r))
        (cores-alike (folder_of containers vs r) (sources_of us) (sources_of vs) (folder_of containers vs r).statuses
        sources-same)
        (zip-flat SameUnit skipped_in skipped_in skipped-alike us vs same)

    pub draft-alike : (files : List (List ℕ)) → draft_of containers files us ≡ draft_of containers files vs
    draft-alike files = program-alike files (λ m. true)

-- ---- the lowered program

told-alike : (X : Type 0) (a b : Bool) → IsTrue a ↔ X → IsTrue b ↔ X → a ≡ b
told-alike X true true h k = refl
told-alike X true false h k = let no : IsTrue false = k.1 (h.0 refl) in absurd cc
told-alike X false true h k = let no : IsTrue false = h.1 (k.0 refl) in absurd cc
told-alike X false false h k = refl

flags-alike : (rows : List (List MethodId)) (f g : List Bool) → TellCycles rows f → TellCycles rows g
    → flag_of f ≡ flag_of g
flags-alike rows f g h k = λ i. λ m. (told-alike (IsOnCycle rows m) (flag_of f m) (flag_of g m) (h m) (k m)) i

pub lowered-alike : (us vs : List unit.Unit) → AllZip SameUnit us vs → (containers : Containers) →
    (files : List (List ℕ)) (p q : Core) → IsLowered containers files us p → IsLowered containers files vs q → p ≡ q
lowered-alike us vs same containers files p q h k =
    let rows : all_rows (draft_of containers files us) ≡ all_rows (draft_of containers files vs) =
    ap all_rows (draft-alike us vs same containers files) in
    let flags : flag_of h.flags ≡ flag_of k.flags =
    flags-alike (all_rows (draft_of containers files vs)) h.flags k.flags
    (subst (λ r. TellCycles r h.flags) rows h.recursive) k.recursive in
    h.program ∙ program-alike us vs same containers files (flag_of h.flags)
    ∙ ap (program_of containers files vs) flags ∙ sym k.program
