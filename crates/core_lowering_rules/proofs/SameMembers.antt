-- Members that are the same declare the same.
use Rattle.std.proofs.Common.{◌≡◌, ℕ, Bool, true, false, not, ◌&&◌, ◌||◌, cond, List, [], ◌∷◌, ◌++◌, codes, map}
use Rattle.std.proofs.Common.{replicate}
use Rattle.std.proofs.Common.{suc, Option, Some, None, refl, ap, sym, ◌∙◌}
use Rattle.std.specs.Prelude.{option_map, option_and_then, if◌then◌else◌}
use Rattle.std.specs.List.{list_any}
use Rattle.racer_base.specs.declared.ids.ClassId.{ClassId}
use Rattle.racer_base.specs.declared.ids.Kind.{Kind}
use Rattle.racer_base.specs.declared.ids.Kind.TheVariants as kind
use Rattle.racer_base.specs.declared.ids.Place.{Place}
use Rattle.racer_base.proofs.Lists.{same_3, same_4}
use Rattle.java_tree.specs.declared.words.Ident.{Ident}
use Rattle.java_tree.specs.declared.methods.AnnotationTree.{AnnotationTree}
use Rattle.java_tree.specs.declared.methods.FieldInitialiser.{FieldInitialiser}
use Rattle.java_tree.specs.declared.methods.FieldInitialiser.TheVariants as field
use Rattle.java_tree.specs.declared.methods.FieldTree.{FieldTree}
use Rattle.java_tree.specs.declared.methods.MethodTree.{MethodTree}
use Rattle.java_tree.specs.declared.methods.ModifierTree as modifiers
use Rattle.java_tree.specs.declared.methods.ModifierTree.TheVariants as modifier
use Rattle.java_tree.specs.declared.methods.ParameterTree.{ParameterTree}
use Rattle.java_tree.specs.declared.methods.ResultTree.{ResultTree}
use Rattle.java_tree.specs.declared.methods.ResultTree.TheVariants as result
use Rattle.java_tree.specs.Trees.{Ty}
use Rattle.java_tree.specs.Trees as view
use Rattle.java_tree.specs.declared.methods.TypeParameterTree.{TypeParameterTree}
use Rattle.java_tree.specs.declared.methods.TypeParametersTree.{TypeParametersTree}
use Rattle.java_tree.specs.View.{ty_of, modifier_of, result_of, method_of, parameter_of, type_parameter_of}
use Rattle.java_tree.specs.View.{type_parameters_of}
use Rattle.java_tree.specs.declared.unit.ClassTree.{ClassTree}
use Rattle.java_tree.specs.declared.unit.HeadResult.{HeadResult}
use Rattle.java_tree.specs.declared.unit.HeadResult.TheVariants as head
use Rattle.java_tree.specs.declared.unit.Member.{Member}
use Rattle.java_tree.specs.declared.unit.Member.TheVariants as member
use Rattle.java_tree.specs.declared.unit.OutsideHead.{OutsideHead}
use Rattle.java_tree.specs.SameUnits.{SameAnnotation, SameInitialiser, SameVariable, SameField, SameMethod}
use Rattle.java_tree.specs.SameUnits.{SameResult, SameHead}
use Rattle.java_tree.specs.SameUnits.{SameMember, SameClass}
use Rattle.java_resolver.specs.declared.infos.ClassInfo.{ClassInfo}
use Rattle.java_resolver.specs.declared.infos.FieldInfo.{FieldInfo}
use Rattle.java_resolver.specs.declared.infos.MethodInfo.{MethodInfo}
use Rattle.java_resolver.specs.Hidden.{hidden_in, classes_in_all}
use Rattle.java_resolver.specs.TypeKinds.{kind_of, kind_with}
use Rattle.java_resolver_parts.specs.ContainerTypes.{type_begun, type_in}
use Rattle.java_resolver_parts.specs.LockTypes.{is_other, is_lock_type}
use Rattle.java_resolver_parts.specs.TypeParameters.{parameter_name, parameter_names}
use Rattle.java_resolver.specs.Words.{has_word, is_annotated}
use Rattle.java_resolver.specs.Declarations.{has_synchronized, has_annotation, is_checked, class_info, field_info}
use Rattle.java_resolver.specs.Declarations.{made_family}
use Rattle.java_resolver.specs.Declarations.{member_fields, class_fields, constructor_name, result_kind, is_constructor}
use Rattle.java_resolver.specs.Declarations.{kinds_of, takes_any_number, method_info, head_kind}
use Rattle.java_resolver.specs.Declarations.{is_constructor_head, head_info}
use Rattle.java_resolver.specs.Declarations.{default_constructor, member_methods}
use Rattle.java_resolver.specs.Declarations.{member_is_constructor, class_methods}
use Rattle.core_lowering_rules.proofs.FilledMethods.{Seen, same_seen}
use Rattle.core_lowering_rules.proofs.ZippedLists.{same_5, zip-equal, zip-map, zip-flat, zip-any}
use Rattle.core_lowering_rules.proofs.ZippedLists.{map-injective}

-- ---- by cases

-- what holds of two of each form holds of two members that are the same
pub by-form : (P : Member → Member → Type 0) → ((f g : FieldTree) → SameField f g → P (member.Field f) (member.Field g))
    → ((m n : MethodTree) → SameMethod m n → P (member.Method m) (member.Method n))
    → ((a b : OutsideHead) → SameHead a b → P (member.Outside a) (member.Outside b))
    → ((p q : Place) → p ≡ q → P (member.Skipped p) (member.Skipped q)) → (x y : Member) → SameMember x y → P x y
by-form P of-field of-method of-head of-place (member.Field f) (member.Field g) h = of-field f g h
by-form P of-field of-method of-head of-place (member.Field f) (member.Method n) h = absurd h
by-form P of-field of-method of-head of-place (member.Field f) (member.Outside b) h = absurd h
by-form P of-field of-method of-head of-place (member.Field f) (member.Skipped q) h = absurd h
by-form P of-field of-method of-head of-place (member.Method m) (member.Field g) h = absurd h
by-form P of-field of-method of-head of-place (member.Method m) (member.Method n) h = of-method m n h
by-form P of-field of-method of-head of-place (member.Method m) (member.Outside b) h = absurd h
by-form P of-field of-method of-head of-place (member.Method m) (member.Skipped q) h = absurd h
by-form P of-field of-method of-head of-place (member.Outside a) (member.Field g) h = absurd h
by-form P of-field of-method of-head of-place (member.Outside a) (member.Method n) h = absurd h
by-form P of-field of-method of-head of-place (member.Outside a) (member.Outside b) h = of-head a b h
by-form P of-field of-method of-head of-place (member.Outside a) (member.Skipped q) h = absurd h
by-form P of-field of-method of-head of-place (member.Skipped p) (member.Field g) h = absurd h
by-form P of-field of-method of-head of-place (member.Skipped p) (member.Method n) h = absurd h
by-form P of-field of-method of-head of-place (member.Skipped p) (member.Outside b) h = absurd h
by-form P of-field of-method of-head of-place (member.Skipped p) (member.Skipped q) h = of-place p q h

-- ---- modifiers and annotations

pub same_annotation : (a b : AnnotationTree) → SameAnnotation a b → a ≡ b
same_annotation a b e =
    ap {B = AnnotationTree} (λ (v : view.Annotation). record { names = v.names; arguments = v.arguments }) e

same_modifier : (m n : modifiers.ModifierTree) → modifier_of m ≡ modifier_of n → m ≡ n
same_modifier (modifier.Word x) (modifier.Word y) e = ap modifier.Word (cc e)
same_modifier (modifier.Word x) (modifier.Annotated b) e = absurd (cc e)
same_modifier (modifier.Annotated a) (modifier.Word y) e = absurd (cc e)
same_modifier (modifier.Annotated a) (modifier.Annotated b) e = ap modifier.Annotated (same_annotation a b (cc e))

pub same_modifiers : (ms ns : List modifiers.ModifierTree) → map modifier_of ms ≡ map modifier_of ns → ms ≡ ns
same_modifiers ms ns e = map-injective modifier_of same_modifier ms ns e

-- ---- classes

synchronized-alike : (x y : Member) → SameMember x y → has_synchronized x ≡ has_synchronized y
synchronized-alike =
    by-form (λ x y. has_synchronized x ≡ has_synchronized y) (λ f g h. refl)
    (λ m n h. h.2) (λ a b h. h.has_synchronized) (λ p q e. refl)

abbrev checked : (safe unsafe locks : Bool) → Bool
checked safe unsafe locks = (safe || locks) && not unsafe

checked-alike : (a b : ClassTree) → SameClass a b → is_checked a ≡ is_checked b
checked-alike a b h =
    let same : a.annotations ≡ b.annotations =
    zip-equal SameAnnotation same_annotation a.annotations b.annotations h.annotations in
    same_3 checked (ap (λ notes. has_annotation (codes "ThreadSafe") (record a { annotations = notes })) same)
    (ap (λ notes. has_annotation (codes "NotThreadSafe") (record a { annotations = notes })) same)
    (zip-any SameMember has_synchronized synchronized-alike a.members b.members h.members)

abbrev class_by : List ℕ → Place → Bool → ClassInfo
class_by x p c = record { name = x; place = p; checked = c }

pub class-alike : (a b : ClassTree) → SameClass a b → class_info a ≡ class_info b
class-alike a b h = same_3 class_by h.name h.place (checked-alike a b h)

-- ---- fields

begun-alike : (v w : FieldInitialiser) → SameInitialiser v w → type_begun v ≡ type_begun w
begun-alike field.Absent field.Absent h = refl
begun-alike field.Absent (field.Formed j) h = absurd h
begun-alike field.Absent field.Unread h = absurd h
begun-alike (field.Formed i) field.Absent h = absurd h
begun-alike (field.Formed i) (field.Formed j) h = ap type_in h.0
begun-alike (field.Formed i) field.Unread h = absurd h
begun-alike field.Unread field.Absent h = absurd h
begun-alike field.Unread (field.Formed j) h = absurd h
begun-alike field.Unread field.Unread h = refl

module _ (names : List (List ℕ)) (c : ClassId) where
  abbrev field_by : List modifiers.ModifierTree → Ty → List ℕ → Place → Option Ty → FieldInfo
  field_by ms t x p begun =
      record {
        class = c;
        name = x;
        place = p;
        kind = kind_of [] names t;
        is_static = has_word (codes "static") ms;
        is_final = has_word (codes "final") ms;
        is_volatile = has_word (codes "volatile") ms;
        is_lock = has_word (codes "final") ms && is_other (kind_of [] names t) && is_lock_type t;
        family =
            if has_word (codes "final") ms && is_other (kind_of [] names t)
            then option_and_then (made_family names) begun
            else None;
      }

  variables-alike : (f g : FieldTree) → SameField f g
      → map (field_info names c f) f.variables ≡ map (field_info names c g) g.variables
  variables-alike f g h =
      let words = same_modifiers f.modifiers g.modifiers h.modifiers in
      zip-map SameVariable (field_info names c f)
      (λ v w k. same_3 (field_by f.modifiers (ty_of f.kind)) k.0 k.1 (begun-alike v.initialiser w.initialiser k.2))
      f.variables g.variables h.variables
      ∙ ap (λ ms. map (λ v. field_by ms (ty_of f.kind) v.name.text v.name.place (type_begun v.initialiser)) g.variables)
      words
      ∙ ap (λ t. map (λ v. field_by g.modifiers t v.name.text v.name.place (type_begun v.initialiser)) g.variables)
      h.kind.0

  fields-alike : (x y : Member) → SameMember x y → member_fields names c x ≡ member_fields names c y
  fields-alike =
      by-form (λ x y. member_fields names c x ≡ member_fields names c y) variables-alike (λ m n h. refl)
      (λ a b h. refl) (λ p q e. refl)

  pub class_fields-alike : (a b : ClassTree) → SameClass a b → class_fields names c a ≡ class_fields names c b
  class_fields-alike a b h =
      zip-flat SameMember (member_fields names c) (member_fields names c) fields-alike a.members b.members h.members

-- ---- methods

abbrev pub has_no_result : view.Result → Bool
has_no_result view.NoResult = true
has_no_result view.VoidResult = false
has_no_result (view.TypeResult t) = false

constructor-is : (r : ResultTree) → is_constructor r ≡ has_no_result (result_of r)
constructor-is result.Constructor = refl
constructor-is result.Void = refl
constructor-is (result.Of t) = refl

pub constructor-alike : (m n : MethodTree) → method_of m ≡ method_of n
    → is_constructor m.result ≡ is_constructor n.result
constructor-alike m n e =
    constructor-is m.result ∙ ap (λ (v : view.Method). has_no_result v.result) e ∙ sym (constructor-is n.result)

pub modifiers-alike : (m n : MethodTree) → method_of m ≡ method_of n → m.modifiers ≡ n.modifiers
modifiers-alike m n e = same_modifiers m.modifiers n.modifiers (ap (λ (v : view.Method). v.modifiers) e)

head_constructor-alike : (r s : HeadResult) → SameResult r s → is_constructor_head r ≡ is_constructor_head s
head_constructor-alike head.Void head.Void h = refl
head_constructor-alike head.Void (head.Formed u) h = refl
head_constructor-alike head.Void head.Constructor h = absurd h
head_constructor-alike head.Void head.Unknown h = refl
head_constructor-alike (head.Formed t) head.Void h = refl
head_constructor-alike (head.Formed t) (head.Formed u) h = refl
head_constructor-alike (head.Formed t) head.Constructor h = absurd h
head_constructor-alike (head.Formed t) head.Unknown h = refl
head_constructor-alike head.Constructor head.Void h = absurd h
head_constructor-alike head.Constructor (head.Formed u) h = absurd h
head_constructor-alike head.Constructor head.Constructor h = refl
head_constructor-alike head.Constructor head.Unknown h = absurd h
head_constructor-alike head.Unknown head.Void h = refl
head_constructor-alike head.Unknown (head.Formed u) h = refl
head_constructor-alike head.Unknown head.Constructor h = absurd h
head_constructor-alike head.Unknown head.Unknown h = refl

member_constructor-alike : (x y : Member) → SameMember x y → member_is_constructor x ≡ member_is_constructor y
member_constructor-alike =
    by-form (λ x y. member_is_constructor x ≡ member_is_constructor y) (λ f g h. refl)
    (λ m n h. constructor-alike m n h.0) (λ a b h. head_constructor-alike a.result b.result h.result) (λ p q e. refl)

pub constructs-alike : (a b : ClassTree) → SameClass a b
    → list_any member_is_constructor a.members ≡ list_any member_is_constructor b.members
constructs-alike a b h =
    zip-any SameMember member_is_constructor member_constructor-alike a.members b.members h.members

-- ---- what is read of a method from its tree without places

abbrev names_listed : List view.TypeParameter → List (List ℕ)
names_listed ps = map (λ (p : view.TypeParameter). p.name) ps

abbrev names_seen : Option view.TypeParameters → List (List ℕ)
names_seen None = []
names_seen (Some ps) = names_listed ps.items

abbrev hidden_seen : view.Method → List (List ℕ)
hidden_seen v = names_seen v.type_parameters ++ classes_in_all v.body

listed-are : (ps : List TypeParameterTree) → map parameter_name ps ≡ names_listed (map type_parameter_of ps)
listed-are [] = refl
listed-are (p ∷ ps) = ap (λ l. p.name.text ∷ l) (listed-are ps)

names-are : (o : Option TypeParametersTree) → parameter_names o ≡ names_seen (option_map type_parameters_of o)
names-are None = refl
names-are (Some ps) = listed-are ps.items

hidden-is : (m : MethodTree) → hidden_in m ≡ hidden_seen (method_of m)
hidden-is m = ap (λ names. names ++ classes_in_all (method_of m).body) (names-are m.type_parameters)

abbrev further_seen : view.Parameter → ℕ
further_seen p = if p.any_number then suc p.arrays else p.arrays

abbrev takes_seen : List view.Parameter → Bool
takes_seen [] = false
takes_seen (p ∷ []) = p.any_number
takes_seen (p ∷ q ∷ ps) = takes_seen (q ∷ ps)

takes-is : (ps : List ParameterTree) → takes_any_number ps ≡ takes_seen (map parameter_of ps)
takes-is [] = refl
takes-is (p ∷ []) = refl
takes-is (p ∷ q ∷ ps) = takes-is (q ∷ ps)

module _ (names : List (List ℕ)) (c : ClassId) where
  abbrev kind_by : List (List ℕ) → view.Result → ℕ → Kind
  kind_by hidden view.NoResult arrays = kind.Declared c
  kind_by hidden view.VoidResult arrays = kind.Plain
  kind_by hidden (view.TypeResult t) arrays = kind_with (kind_of hidden names t) arrays

  result-is : (hidden : List (List ℕ)) (r : ResultTree) (arrays : ℕ)
      → result_kind hidden names c r arrays ≡ kind_by hidden (result_of r) arrays
  result-is hidden result.Constructor arrays = refl
  result-is hidden result.Void arrays = refl
  result-is hidden (result.Of t) arrays = refl

  abbrev kind_seen : List (List ℕ) → view.Parameter → Kind
  kind_seen hidden p = kind_with (kind_of hidden names p.kind) (further_seen p)

  kinds-are : (hidden : List (List ℕ)) (ps : List ParameterTree)
      → kinds_of hidden names ps ≡ map (kind_seen hidden) (map parameter_of ps)
  kinds-are hidden [] = refl
  kinds-are hidden (p ∷ ps) = ap (λ l. kind_seen hidden (parameter_of p) ∷ l) (kinds-are hidden ps)

  abbrev info_with : List modifiers.ModifierTree → Bool → Ident → List (List ℕ) → List Kind → Bool → Kind → MethodInfo
  info_with ms constructs x hidden ps any r =
      record {
        class = c;
        name = cond constructs constructor_name x.text;
        place = x.place;
        parameters = ps;
        any_number = any;
        result = r;
        hidden = hidden;
        is_static = has_word (codes "static") ms && not constructs;
        is_private = has_word (codes "private") ms;
        is_constructor = constructs;
        main = is_annotated (codes "MainThread") ms || is_annotated (codes "UiThread") ms;
        not_thread_safe = is_annotated (codes "NotThreadSafe") ms;
      }

  abbrev method_by : List modifiers.ModifierTree → Bool → view.Method → Ident → MethodInfo
  method_by ms constructs v x =
      let hidden = hidden_seen v in
      info_with ms constructs x hidden (map (kind_seen hidden) v.parameters) (takes_seen v.parameters)
      (kind_by hidden v.result v.arrays)

  method-is : (m : MethodTree)
      → method_info names c m ≡ method_by m.modifiers (is_constructor m.result) (method_of m) m.name
  method-is m =
      let v = method_of m in
      let hidden = hidden-is m in
      same_4 (info_with m.modifiers (is_constructor m.result) m.name) hidden
      (kinds-are (hidden_in m) m.parameters ∙ ap (λ xs. map (kind_seen xs) v.parameters) hidden)
      (takes-is m.parameters)
      (result-is (hidden_in m) m.result m.arrays ∙ ap (λ xs. kind_by xs v.result v.arrays) hidden)

  pub method-alike : (m n : MethodTree) → SameMethod m n → method_info names c m ≡ method_info names c n
  method-alike m n h =
      method-is m
      ∙ same_4 method_by (modifiers-alike m n h.0) (constructor-alike m n h.0) h.0
      (ap (λ (s : Seen). s.name) (same_seen m n h.0 h.1))
      ∙ sym (method-is n)

  -- ---- methods without a tree

  abbrev head_by : Kind → Bool → List ℕ → Place → ℕ → Bool → MethodInfo
  head_by k constructs x p n fixed =
      record {
        class = c;
        name = x;
        place = p;
        parameters = replicate n kind.Other;
        any_number = false;
        result = k;
        hidden = [];
        is_static = fixed && not constructs;
        is_private = false;
        is_constructor = constructs;
        main = false;
        not_thread_safe = false;
      }

  abbrev head_with : HeadResult → List ℕ → Place → ℕ → Bool → MethodInfo
  head_with r = head_by (head_kind names c r) (is_constructor_head r)

  head_result-alike : (r s : HeadResult) → SameResult r s → head_with r ≡ head_with s
  head_result-alike head.Void head.Void h = refl
  head_result-alike head.Void (head.Formed u) h = absurd h
  head_result-alike head.Void head.Constructor h = absurd h
  head_result-alike head.Void head.Unknown h = absurd h
  head_result-alike (head.Formed t) head.Void h = absurd h
  head_result-alike (head.Formed t) (head.Formed u) h = ap (λ v. head_by (kind_of [] names v) false) h.0
  head_result-alike (head.Formed t) head.Constructor h = absurd h
  head_result-alike (head.Formed t) head.Unknown h = absurd h
  head_result-alike head.Constructor head.Void h = absurd h
  head_result-alike head.Constructor (head.Formed u) h = absurd h
  head_result-alike head.Constructor head.Constructor h = refl
  head_result-alike head.Constructor head.Unknown h = absurd h
  head_result-alike head.Unknown head.Void h = absurd h
  head_result-alike head.Unknown (head.Formed u) h = absurd h
  head_result-alike head.Unknown head.Constructor h = absurd h
  head_result-alike head.Unknown head.Unknown h = refl

  pub head-alike : (a b : OutsideHead) → SameHead a b → head_info names c a ≡ head_info names c b
  head-alike a b h =
      same_5 (λ (f : List ℕ → Place → ℕ → Bool → MethodInfo) x p n fixed. f x p n fixed)
      (head_result-alike a.result b.result h.result) h.name h.place h.parameters h.is_static

  -- ---- the methods of a class

  methods-alike : (x y : Member) → SameMember x y → member_methods names c x ≡ member_methods names c y
  methods-alike =
      by-form (λ x y. member_methods names c x ≡ member_methods names c y) (λ f g h. refl)
      (λ m n h. ap (λ i. i ∷ []) (method-alike m n h)) (λ a b h. ap (λ i. i ∷ []) (head-alike a b h)) (λ p q e. refl)

  pub default-alike : (a b : ClassTree) → SameClass a b → default_constructor c a ≡ default_constructor c b
  default-alike a b h = ap (λ p. default_constructor c (record a { place = p })) h.place

  pub class_methods-alike : (a b : ClassTree) → SameClass a b → class_methods names c a ≡ class_methods names c b
  class_methods-alike a b h =
      same_3 (λ (constructs : Bool) (i : MethodInfo) (others : List MethodInfo). cond constructs [] (i ∷ []) ++ others)
      (constructs-alike a b h) (default-alike a b h)
      (zip-flat SameMember (member_methods names c) (member_methods names c) methods-alike a.members
      b.members h.members)
