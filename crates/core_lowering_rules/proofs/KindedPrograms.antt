-- Every program of units is kinded.
use Rattle.std.proofs.Common.{◌≡◌, ℕ, zero, suc, Bool, true, false, cond, not, ◌&&◌, ◌||◌, List, [], ◌∷◌, ◌++◌}
use Rattle.std.proofs.Common.{Option, Some}
use Rattle.std.proofs.Common.{None, map, refl, sym, ap, ◌∙◌, subst, slice_get, is_some, is_none}
use Rattle.std.specs.Prelude.{codes, option_map}
use Rattle.std.specs.List.{flat_map, list_all, list_any}
use Rattle.std.proofs.lemmas.List.{map-append}
use Rattle.std.proofs.lemmas.Option.{same_Some, none-some, slice_get-map}
use Rattle.std.proofs.lemmas.Bool.{and_from, or_right}
use Rattle.std.proofs.Math.Bool.{and-false}
use Rattle.racer_base.specs.declared.ids.ClassId.{ClassId}
use Rattle.container_cells.specs.declared.cell.Containers.{Containers}
use Rattle.racer_base.specs.declared.ids.MethodId.{MethodId}
use Rattle.racer_base.specs.declared.ids.Kind.TheVariants as types
use Rattle.java_tree.specs.declared.methods.MethodTree.{MethodTree}
use Rattle.java_tree.specs.declared.methods.ResultTree.{ResultTree}
use Rattle.java_tree.specs.declared.methods.ResultTree.TheVariants as result
use Rattle.java_tree.specs.declared.unit.Unit as unit_type
use Rattle.java_tree.specs.declared.unit.ClassTree.{ClassTree}
use Rattle.java_tree.specs.declared.unit.HeadResult.{HeadResult}
use Rattle.java_tree.specs.declared.unit.HeadResult.TheVariants as head
use Rattle.java_tree.specs.declared.unit.Member.{Member}
use Rattle.java_tree.specs.declared.unit.Member.TheVariants as member
use Rattle.java_resolver.specs.declared.infos.MethodInfo.{MethodInfo}
use Rattle.java_resolver.specs.Declarations.{trees_of, names_of, fields_of, methods_of, by_class}
use Rattle.java_resolver.specs.Declarations.{method_info, default_constructor, member_methods}
use Rattle.java_resolver.specs.Declarations.{declared_methods}
use Rattle.java_resolver.specs.Declarations.{member_is_constructor, default_constructors, class_methods, is_constructor}
use Rattle.java_resolver.specs.Declarations.{result_kind, is_constructor_head, head_kind}
use Rattle.java_resolver.specs.Hidden.{hidden_in}
use Rattle.java_resolver.specs.Words.{has_word}
use Rattle.core_code.specs.declared.code.Reason.{Reason}
use Rattle.core_code.specs.Core.{Core, Method}
use Rattle.core_code.specs.KindCheck.{is_kinded, are_kinded}
use Rattle.core_lowering_rules.specs.Context.{Folder}
use Rattle.core_lowering_rules.specs.Methods.{Source, Default}
use Rattle.core_lowering_rules.specs.Programs.{member_sources, default_sources, class_sources, sources_of}
use Rattle.core_lowering_rules.specs.Programs.{folder_of, method_core, method_cores, program_of}
use Rattle.core_lowering_rules.proofs.FoundElements.{Each, each-append, each-flat_map, unless}
use Rattle.core_lowering_rules.proofs.ContentFields.{content-there, field-there}
use Rattle.core_lowering_rules.proofs.Stands.{FolderStands, HasMethod}
use Rattle.core_lowering_rules.proofs.KindedMethods.{IsRight, IsRightResult, kinded}

-- ---- what holds of each element

pub each-by_class : {A : Type 0} (P : A → Type 0) (f : ClassId → ClassTree → List A) →
    ((c : ClassId) (tree : ClassTree) → Each P (f c tree)) → (n : ℕ) (trees : List ClassTree) →
    Each P (by_class f n trees)
each-by_class P f all n [] = tt
each-by_class P f all n (c ∷ cs) =
    each-append P (f (record { 0 = n }) c) (by_class f (suc n) cs) (all (record { 0 = n }) c)
    (each-by_class P f all (suc n) cs)

pub each-at : {A : Type 0} (P : A → Type 0) (xs : List A) (n : ℕ) (x : A) → Each P xs → slice_get xs n ≡ Some x → P x
each-at P [] n x all e = absurd (none-some _ e)
each-at P (y ∷ ys) zero x all e = subst P (same_Some _ _ e) all.0
each-at P (y ∷ ys) (suc n) x all e = each-at P ys n x all.1 e

-- ---- sources and methods are the same

map-flat_map : {A B C : Type 0} (g : B → C) (f : A → List B) (h : A → List C) → ((x : A) → map g (f x) ≡ h x) →
    (xs : List A) → map g (flat_map f xs) ≡ flat_map h xs
map-flat_map g f h same [] = refl
map-flat_map g f h same (x ∷ xs) =
    map-append g (f x) (flat_map f xs) ∙ ap (λ ys. ys ++ map g (flat_map f xs)) (same x)
    ∙ ap (λ ys. h x ++ ys) (map-flat_map g f h same xs)

map-by_class : {B C : Type 0} (g : B → C) (f : ClassId → ClassTree → List B) (h : ClassId → ClassTree → List C) →
    ((c : ClassId) (tree : ClassTree) → map g (f c tree) ≡ h c tree) → (n : ℕ) (trees : List ClassTree) →
    map g (by_class f n trees) ≡ by_class h n trees
map-by_class g f h same n [] = refl
map-by_class g f h same n (c ∷ cs) =
    map-append g (f (record { 0 = n }) c) (by_class f (suc n) cs)
    ∙ ap (λ ys. ys ++ map g (by_class f (suc n) cs)) (same (record { 0 = n }) c)
    ∙ ap (λ ys. h (record { 0 = n }) c ++ ys) (map-by_class g f h same (suc n) cs)

abbrev pub known : Source → MethodInfo
known s = s.info

member-same : (names : List (List ℕ)) (c : ClassId) (tree : ClassTree) (x : Member) →
    map known (member_sources names c tree x) ≡ member_methods names c x
member-same names c tree (member.Method t) = refl
member-same names c tree (member.Outside h) = refl
member-same names c tree (member.Field f) = refl
member-same names c tree (member.Skipped place) = refl

default-by : (c : ClassId) (tree : ClassTree) (b : Bool) →
    map known (cond b [] (record { info = default_constructor c tree; members = tree.members; body = Default } ∷ [])) ≡
    cond b [] (default_constructor c tree ∷ [])
default-by c tree true = refl
default-by c tree false = refl

default-same : (c : ClassId) (tree : ClassTree) → map known (default_sources c tree) ≡ default_constructors c tree
default-same c tree = default-by c tree (list_any member_is_constructor tree.members)

class-same : (names : List (List ℕ)) (c : ClassId) (tree : ClassTree) →
    map known (class_sources names c tree) ≡ class_methods names c tree
class-same names c tree =
    map-append known (default_sources c tree) (flat_map (member_sources names c tree) tree.members)
    ∙ ap (λ ys. ys ++ map known (flat_map (member_sources names c tree) tree.members)) (default-same c tree)
    ∙ ap (λ ys. default_constructors c tree ++ ys)
    (map-flat_map known (member_sources names c tree) (member_methods names c) (member-same names c tree) tree.members)

pub sources-same : (units : List unit_type.Unit) → map known (sources_of units) ≡ methods_of units
sources-same units =
    map-by_class known (class_sources (names_of units)) (class_methods (names_of units)) (class-same (names_of units)) 0
    (trees_of units)

-- ---- what is known of methods is right

abbrev pub IsRightSource : List (List ℕ) → Source → Type 0
IsRightSource names s = IsRight names s.info s.body

result-right : (names : List (List ℕ)) (c : ClassId) (t : MethodTree) (r : ResultTree) → t.result ≡ r →
    IsRightResult (method_info names c t) r
result-right names c t result.Constructor e = (
  ap (λ r. result_kind (hidden_in t) names c r t.arrays) e,
  ap (λ r. has_word (codes "static") t.modifiers && not (is_constructor r)) e
      ∙ and-false (has_word (codes "static") t.modifiers),
)
result-right names c t result.Void e = ap (λ r. result_kind (hidden_in t) names c r t.arrays) e
result-right names c t (result.Of k) e = tt

member-right : (names : List (List ℕ)) (c : ClassId) (tree : ClassTree) (x : Member) →
    Each (IsRightSource names) (member_sources names c tree x)
member-right names c tree (member.Method t) = ((result-right names c t t.result refl, refl), tt)
member-right names c tree (member.Outside h) = (tt, tt)
member-right names c tree (member.Field f) = tt
member-right names c tree (member.Skipped place) = tt

class-right : (names : List (List ℕ)) (c : ClassId) (tree : ClassTree) →
    Each (IsRightSource names) (class_sources names c tree)
class-right names c tree =
    each-append (IsRightSource names) (default_sources c tree) (flat_map (member_sources names c tree) tree.members)
    (unless (IsRightSource names) (list_any member_is_constructor tree.members) _ ((refl, refl, refl), tt))
    (each-flat_map (IsRightSource names) (member_sources names c tree) (member-right names c tree) tree.members)

pub sources-right : (units : List unit_type.Unit) → Each (IsRightSource (names_of units)) (sources_of units)
sources-right units =
    each-by_class (IsRightSource (names_of units)) (class_sources (names_of units)) (class-right (names_of units)) 0
    (trees_of units)

-- a constructor gives an object of its class, and has one
abbrev IsMaker : MethodInfo → Type 0
IsMaker info = info.is_constructor ≡ true → (info.result ≡ types.Declared info.class) × (info.is_static ≡ false)

method-maker : (names : List (List ℕ)) (c : ClassId) (t : MethodTree) (r : ResultTree) → t.result ≡ r →
    is_constructor r ≡ true → (result_kind (hidden_in t) names c t.result t.arrays ≡ types.Declared c)
    × ((has_word (codes "static") t.modifiers && not (is_constructor t.result)) ≡ false)
method-maker names c t result.Constructor e h =
    let right = result-right names c t result.Constructor e in (right.0, right.1)
method-maker names c t result.Void e h = cc
method-maker names c t (result.Of k) e h = cc

head-maker : (names : List (List ℕ)) (c : ClassId) (b : Bool) (r : HeadResult) → is_constructor_head r ≡ true →
    (head_kind names c r ≡ types.Declared c) × ((b && not (is_constructor_head r)) ≡ false)
head-maker names c b head.Constructor h = (refl, and-false b)
head-maker names c b head.Void h = cc
head-maker names c b (head.Formed t) h = cc
head-maker names c b head.Unknown h = cc

member-makers : (names : List (List ℕ)) (c : ClassId) (x : Member) → Each IsMaker (member_methods names c x)
member-makers names c (member.Method t) = ((λ h. method-maker names c t t.result refl h), tt)
member-makers names c (member.Outside o) = ((λ h. head-maker names c o.is_static o.result h), tt)
member-makers names c (member.Field f) = tt
member-makers names c (member.Skipped place) = tt

class-makers : (names : List (List ℕ)) (c : ClassId) (tree : ClassTree) → Each IsMaker (class_methods names c tree)
class-makers names c tree =
    each-append IsMaker (default_constructors c tree) (declared_methods names c tree)
    (unless IsMaker (list_any member_is_constructor tree.members) (default_constructor c tree ∷ [])
    ((λ h. (refl, refl)), tt))
    (each-flat_map IsMaker (member_methods names c) (member-makers names c) tree.members)

methods-makers : (units : List unit_type.Unit) → Each IsMaker (methods_of units)
methods-makers units =
    each-by_class IsMaker (class_methods (names_of units)) (class-makers (names_of units)) 0 (trees_of units)

-- ---- methods where they are looked for

core-at : (folder : Folder) (sources : List Source) (statuses : List (Option Reason)) (n : ℕ) (s : Source)
    (status : Option Reason) → slice_get sources n ≡ Some s → slice_get statuses n ≡ Some status →
    slice_get (method_cores folder sources statuses) n ≡ Some (method_core folder s status)
core-at folder [] statuses n s status e f = absurd (none-some _ e)
core-at folder (x ∷ sources) [] n s status e f = absurd (none-some _ f)
core-at folder (x ∷ sources) (y ∷ statuses) zero s status e f =
    ap (λ z. Some (method_core folder z y)) (same_Some _ _ e) ∙ ap (λ z. Some (method_core folder s z))
    (same_Some _ _ f)
core-at folder (x ∷ sources) (y ∷ statuses) (suc n) s status e f = core-at folder sources statuses n s status e f

abbrev analysed_by : Option (Option Reason) → Bool
analysed_by o = elim o as (λ _. Bool) [ None ↦ false | Some status ↦ is_none status ]

analysed-none : (o : Option (Option Reason)) → analysed_by o ≡ true → o ≡ Some None
analysed-none None h = cc
analysed-none (Some None) h = refl
analysed-none (Some (Some r)) h = cc

mapped : (o : Option Source) (info : MethodInfo) → option_map known o ≡ Some info →
    (s : Source) × (o ≡ Some s) × (s.info ≡ info)
mapped None info e = absurd (none-some _ e)
mapped (Some s) info e = (s, refl, same_Some _ _ e)

module _ (containers : Containers) (files : List (List ℕ)) (units : List unit_type.Unit)
    (is_recursive : MethodId → Bool) where
  abbrev folder : Folder
  folder = folder_of containers units is_recursive

  abbrev program : Core
  program = program_of containers files units is_recursive

  has_method : (n : MethodId) (s : Source) (info : MethodInfo) → slice_get (sources_of units) n.0 ≡ Some s →
      s.info ≡ info → slice_get folder.statuses n.0 ≡ Some None → HasMethod program n info
  has_method n s info e same f =
      subst (λ i. HasMethod program n i) same
      (record {
        method = method_core folder s None;
        there = core-at folder (sources_of units) folder.statuses n.0 s None e f;
        takes = refl;
        gives = refl;
        analysed = refl;
      })

  found-method : (n : MethodId) (info : MethodInfo) → slice_get (methods_of units) n.0 ≡ Some info →
      analysed_by (slice_get folder.statuses n.0) ≡ true → HasMethod program n info
  found-method n info e h =
      let s = mapped (slice_get (sources_of units) n.0) info
      (sym (slice_get-map known (sources_of units) n.0)
      ∙ ap (λ (infos : List MethodInfo). slice_get infos n.0) (sources-same units) ∙ e) in
      has_method n s.0 info s.1 s.2 (analysed-none (slice_get folder.statuses n.0) h)

  unread-method : (sources : List Source) (statuses : List (Option Reason)) (n : ℕ) →
      analysed_by (slice_get statuses n) ≡ false →
      elim (slice_get (method_cores folder sources statuses) n) as (λ _. Bool) [
        | None ↦ false
        | Some m ↦ is_none m.status
      ] ≡ false
  unread-method [] statuses n h = refl
  unread-method (s ∷ sources) [] n h = refl
  unread-method (s ∷ sources) (status ∷ statuses) zero h = h
  unread-method (s ∷ sources) (status ∷ statuses) (suc n) h = unread-method sources statuses n h

  pub folder-stands : FolderStands program folder
  folder-stands =
      record {
        fields = λ f info e. field-there containers folder.fields f.0 info e;
        cells = λ f info cell e there. content-there containers (fields_of units) f.0 info cell e there;
        methods = found-method;
        unread = λ n h. unread-method (sources_of units) folder.statuses n.0 h;
        constructors = λ n info e h. each-at IsMaker (methods_of units) n.0 info (methods-makers units) e h;
      }

  all-kinded : (sources : List Source) (statuses : List (Option Reason)) →
      Each (IsRightSource (names_of units)) sources →
      list_all (λ (m : Method). is_some m.status || is_kinded program m) (method_cores folder sources statuses) ≡ true
  all-kinded [] statuses right = refl
  all-kinded (s ∷ sources) [] right = refl
  all-kinded (s ∷ sources) (status ∷ statuses) right =
      and_from (is_some status || is_kinded program (method_core folder s status)) _
      (or_right (is_some status) (is_kinded program (method_core folder s status))
      (kinded program folder folder-stands s.info s.members status s.body right.0))
      (all-kinded sources statuses right.1)

  pub program-kinded : are_kinded program ≡ true
  program-kinded = all-kinded (sources_of units) folder.statuses (sources-right units)
