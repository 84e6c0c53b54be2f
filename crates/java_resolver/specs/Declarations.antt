-- A contract of a public call rests on this: what the units of a folder declare, as lists in source order: classes,
-- fields by class and declarator, methods and constructors (JLS 8.1, 8.3, 8.4, 8.8).
use Rattle.std.specs.Prelude.{ℕ, suc, Bool, true, false, not, ◌&&◌, ◌||◌, List, [], ◌∷◌, ◌++◌, codes, map}
use Rattle.std.specs.Prelude.{Option, None, option_and_then, replicate, if◌then◌else◌}
use Rattle.std.specs.List.{flat_map, list_any}
use Rattle.container_cells.specs.declared.table.Family.{Family}
use Rattle.racer_base.specs.declared.ids.ClassId.{ClassId}
use Rattle.racer_base.specs.declared.ids.Kind.{Kind}
use Rattle.racer_base.specs.declared.ids.Kind.TheVariants as kind
use Rattle.java_tree.specs.declared.methods.FieldTree.{FieldTree}
use Rattle.java_tree.specs.declared.methods.FieldVariable.{FieldVariable}
use Rattle.java_tree.specs.declared.methods.MethodTree.{MethodTree}
use Rattle.java_tree.specs.declared.methods.ParameterTree.{ParameterTree}
use Rattle.java_tree.specs.declared.methods.ResultTree.{ResultTree}
use Rattle.java_tree.specs.declared.methods.ResultTree.TheVariants as result
use Rattle.java_tree.specs.Trees.{Ty}
use Rattle.java_tree.specs.View.{ty_of}
use Rattle.java_tree.specs.declared.unit.Unit.{Unit}
use Rattle.java_tree.specs.declared.unit.ClassTree.{ClassTree}
use Rattle.java_tree.specs.declared.unit.Member.{Member}
use Rattle.java_tree.specs.declared.unit.Member.TheVariants.{Field, Method, Outside, Skipped}
use Rattle.java_tree.specs.declared.unit.OutsideHead.{OutsideHead}
use Rattle.java_tree.specs.declared.unit.HeadResult.{HeadResult}
use Rattle.java_tree.specs.declared.unit.HeadResult.TheVariants as head
use Rattle.java_resolver.specs.declared.infos.ClassInfo.{ClassInfo}
use Rattle.java_resolver.specs.declared.infos.FieldInfo.{FieldInfo}
use Rattle.java_resolver.specs.declared.infos.MethodInfo.{MethodInfo}
use Rattle.java_resolver.specs.Words.{is_annotation_named, has_word, is_annotated}
use Rattle.java_resolver.specs.Hidden.{hidden_in}
use Rattle.java_resolver.specs.TypeKinds.{kind_of, kind_with}
use Rattle.java_resolver_parts.specs.LockTypes.{is_other, is_lock_type}
use Rattle.java_resolver_parts.specs.ContainerTypes.{type_family, type_begun}

-- ---- classes

-- the classes of all units
abbrev pub trees_of : List Unit → List ClassTree
trees_of = flat_map (λ (u : Unit). u.classes)

-- whether `synchronized` stands among the tokens of a method or constructor, which is kept by who reads them
abbrev pub has_synchronized : Member → Bool
has_synchronized (Method m) = m.has_synchronized
has_synchronized (Outside h) = h.has_synchronized
has_synchronized (Field f) = false
has_synchronized (Skipped place) = false

abbrev pub has_annotation : List ℕ → ClassTree → Bool
has_annotation name c = list_any (is_annotation_named name) c.annotations

-- whether a class is analysed for races: it is called safe for threads, or takes a lock, and is not called unsafe
abbrev pub is_checked : ClassTree → Bool
is_checked c =
    (has_annotation (codes "ThreadSafe") c || list_any has_synchronized c.members)
    && not (has_annotation (codes "NotThreadSafe") c)

abbrev pub class_info : ClassTree → ClassInfo
class_info c = record { name = c.name; place = c.place; checked = is_checked c }

abbrev pub classes_of : List Unit → List ClassInfo
classes_of units = map class_info (trees_of units)

abbrev pub class_names : List ClassInfo → List (List ℕ)
class_names classes = map (λ (c : ClassInfo). c.name) classes

abbrev pub names_of : List Unit → List (List ℕ)
names_of units = class_names (classes_of units)

-- what each class has, given its number, from this one on
abbrev pub by_class : {A : Type 0} → (ClassId → ClassTree → List A) → ℕ → List ClassTree → List A
by_class f n [] = []
by_class f n (c ∷ cs) = f (record { 0 = n }) c ++ by_class f (suc n) cs

-- ---- fields

-- whether fields are lock fields: final ones of a lock type that no class of the folder has the name of
abbrev pub is_lock_field : List (List ℕ) → FieldTree → Bool
is_lock_field classes f =
    has_word (codes "final") f.modifiers && is_other (kind_of [] classes (ty_of f.kind)) && is_lock_type (ty_of f.kind)

-- the family of a new object of this type, where no class of the folder is its type
abbrev pub made_family : List (List ℕ) → Ty → Option Family
made_family classes t = if is_other (kind_of [] classes t) then type_family t else None

-- that of the container that a field holds: of a final one of no class of the folder, by the type of the object that it
-- begins with
abbrev pub field_family : List (List ℕ) → FieldTree → FieldVariable → Option Family
field_family classes f v =
    if has_word (codes "final") f.modifiers && is_other (kind_of [] classes (ty_of f.kind))
    then option_and_then (made_family classes) (type_begun v.initialiser)
    else None

abbrev pub field_info : List (List ℕ) → ClassId → FieldTree → FieldVariable → FieldInfo
field_info classes c f v =
    record {
      class = c;
      name = v.name.text;
      place = v.name.place;
      kind = kind_of [] classes (ty_of f.kind);
      is_static = has_word (codes "static") f.modifiers;
      is_final = has_word (codes "final") f.modifiers;
      is_volatile = has_word (codes "volatile") f.modifiers;
      is_lock = is_lock_field classes f;
      family = field_family classes f v;
    }

abbrev pub member_fields : List (List ℕ) → ClassId → Member → List FieldInfo
member_fields classes c (Field f) = map (field_info classes c f) f.variables
member_fields classes c _ = []

abbrev pub class_fields : List (List ℕ) → ClassId → ClassTree → List FieldInfo
class_fields classes c tree = flat_map (member_fields classes c) tree.members

abbrev pub fields_of : List Unit → List FieldInfo
fields_of units = by_class (class_fields (names_of units)) 0 (trees_of units)

-- ---- methods

abbrev pub constructor_name : List ℕ
constructor_name = codes "<new>"

-- where these names mean no class, and so many `[ ]` stand behind the parameters
abbrev pub result_kind : (hidden classes : List (List ℕ)) → ClassId → ResultTree → (arrays : ℕ) → Kind
result_kind hidden classes c result.Constructor arrays = kind.Declared c
result_kind hidden classes c result.Void arrays = kind.Plain
result_kind hidden classes c (result.Of t) arrays = kind_with (kind_of hidden classes (ty_of t)) arrays

abbrev pub is_constructor : ResultTree → Bool
is_constructor result.Constructor = true
is_constructor _ = false

abbrev pub method_name : MethodTree → List ℕ
method_name m = if is_constructor m.result then constructor_name else m.name.text

-- how many `[ ]` a parameter has besides those of its type, `...` being one of them
abbrev pub further_arrays : ParameterTree → ℕ
further_arrays p = if p.any_number then suc p.arrays else p.arrays

abbrev pub parameter_kind : (hidden classes : List (List ℕ)) → ParameterTree → Kind
parameter_kind hidden classes p = kind_with (kind_of hidden classes (ty_of p.kind)) (further_arrays p)

abbrev pub kinds_of : (hidden classes : List (List ℕ)) → List ParameterTree → List Kind
kinds_of hidden classes parameters = map (parameter_kind hidden classes) parameters

-- whether the last of these takes any number of arguments
abbrev pub takes_any_number : List ParameterTree → Bool
takes_any_number [] = false
takes_any_number (p ∷ []) = p.any_number
takes_any_number (p ∷ q ∷ ps) = takes_any_number (q ∷ ps)

-- a constructor is an instance method whatever its modifiers
abbrev pub method_info : List (List ℕ) → ClassId → MethodTree → MethodInfo
method_info classes c m =
    record {
      class = c;
      name = method_name m;
      place = m.name.place;
      parameters = kinds_of (hidden_in m) classes m.parameters;
      any_number = takes_any_number m.parameters;
      result = result_kind (hidden_in m) classes c m.result m.arrays;
      hidden = hidden_in m;
      is_static = has_word (codes "static") m.modifiers && not (is_constructor m.result);
      is_private = has_word (codes "private") m.modifiers;
      is_constructor = is_constructor m.result;
      main = is_annotated (codes "MainThread") m.modifiers || is_annotated (codes "UiThread") m.modifiers;
      not_thread_safe = is_annotated (codes "NotThreadSafe") m.modifiers;
    }

abbrev pub head_kind : List (List ℕ) → ClassId → HeadResult → Kind
head_kind classes c head.Void = kind.Plain
head_kind classes c (head.Formed t) = kind_of [] classes (ty_of t)
head_kind classes c head.Constructor = kind.Declared c
head_kind classes c head.Unknown = kind.Other

abbrev pub is_constructor_head : HeadResult → Bool
is_constructor_head head.Constructor = true
is_constructor_head _ = false

-- of a method that no tree spells, the kinds of its parameters are not known
abbrev pub head_info : List (List ℕ) → ClassId → OutsideHead → MethodInfo
head_info classes c h =
    record {
      class = c;
      name = h.name;
      place = h.place;
      parameters = replicate h.parameters kind.Other;
      any_number = false;
      result = head_kind classes c h.result;
      hidden = [];
      is_static = h.is_static && not (is_constructor_head h.result);
      is_private = false;
      is_constructor = is_constructor_head h.result;
      main = false;
      not_thread_safe = false;
    }

-- the constructor of a class that declares none, at the class's name (JLS 8.8.9)
abbrev pub default_constructor : ClassId → ClassTree → MethodInfo
default_constructor c tree =
    record {
      class = c;
      name = constructor_name;
      place = tree.place;
      parameters = [];
      any_number = false;
      result = kind.Declared c;
      hidden = [];
      is_static = false;
      is_private = false;
      is_constructor = true;
      main = false;
      not_thread_safe = false;
    }

abbrev pub member_methods : List (List ℕ) → ClassId → Member → List MethodInfo
member_methods classes c (Method m) = method_info classes c m ∷ []
member_methods classes c (Outside h) = head_info classes c h ∷ []
member_methods classes c (Field f) = []
member_methods classes c (Skipped place) = []

-- the methods that a class declares
abbrev pub declared_methods : List (List ℕ) → ClassId → ClassTree → List MethodInfo
declared_methods classes c tree = flat_map (member_methods classes c) tree.members

abbrev pub member_is_constructor : Member → Bool
member_is_constructor (Method m) = is_constructor m.result
member_is_constructor (Outside h) = is_constructor_head h.result
member_is_constructor (Field f) = false
member_is_constructor (Skipped place) = false

-- the constructor that a class has without declaring it
abbrev pub default_constructors : ClassId → ClassTree → List MethodInfo
default_constructors c tree =
    if list_any member_is_constructor tree.members then [] else default_constructor c tree ∷ []

abbrev pub class_methods : List (List ℕ) → ClassId → ClassTree → List MethodInfo
class_methods classes c tree = default_constructors c tree ++ declared_methods classes c tree

abbrev pub methods_of : List Unit → List MethodInfo
methods_of units = by_class (class_methods (names_of units)) 0 (trees_of units)
