-- No public contract rests on this: that numbers by names and keys are those of the first elements there.
use Rattle.std.specs.Prelude.{◌≡◌, ℕ, suc, Bool, true, false, not, ◌&&◌, ◌||◌, List, [], ◌∷◌, Option, None, bytes_eq}
use Rattle.std.specs.Prelude.{length, map, option_map, is_some, if◌then◌else◌}
use Rattle.std.specs.Borrow.{Bor}
use Rattle.java_tree.specs.declared.unit.ClassTree.{ClassTree}
use Rattle.java_resolver.specs.declared.infos.ClassInfo.{ClassInfo}
use Rattle.java_resolver.specs.declared.infos.FieldInfo.{FieldInfo}
use Rattle.java_resolver.specs.declared.infos.MethodInfo.{MethodInfo}
use Rattle.java_resolver.specs.declared.with_any.WithAny.{WithAny}
use Rattle.java_resolver.specs.Declarations.{class_names, class_fields, class_methods, by_class}
use Rattle.java_resolver.specs.Firsts.{first_that}
use Rattle.keyed_numbers.specs.Numbers.{Key, key_eq, Named, number_at, or_added}

-- the number went to each name and key where the element belongs and none was
abbrev pub AddsElement : {A : Type 0} → (List ℕ → Key → A → Bool) → Named → Named → A → ℕ → Type 0
AddsElement belongs old new x number =
    (name : List ℕ) (key : Key) →
    number_at new name key ≡ or_added (belongs name key x) number (number_at old name key)

-- at each name and key stands the number of the first element that belongs there
abbrev pub FindsFirsts : {A : Type 0} → (List ℕ → Key → A → Bool) → Named → List A → Type 0
FindsFirsts belongs numbers xs =
    (name : List ℕ) (key : Key) → number_at numbers name key ≡ first_that (belongs name key) xs

abbrev pub class_at : List ℕ → Key → ClassInfo → Bool
class_at name key c = key_eq (0, 0) key && bytes_eq c.name name

abbrev pub field_at : (in_static : Bool) → List ℕ → Key → FieldInfo → Bool
field_at in_static name key f =
    (not in_static || f.is_static) && (key_eq (0, f.class.0) key && bytes_eq f.name name)

abbrev pub method_at : List ℕ → Key → MethodInfo → Bool
method_at name key m = key_eq (m.class.0, length m.parameters) key && bytes_eq m.name name

-- of methods whose last parameter takes any number of arguments
abbrev pub method_with_any_at : List ℕ → Key → MethodInfo → Bool
method_with_any_at name key m = m.any_number && (key_eq (0, m.class.0) key && bytes_eq m.name name)

-- how many elements stand before the second that passes
abbrev pub second_that : {A : Type 0} → (A → Bool) → List A → Option ℕ
second_that test [] = None
second_that test (x ∷ xs) = option_map suc (if test x then first_that test xs else second_that test xs)

-- where a first one stands there, the number went to its name and key as that of the second, unless there is one
abbrev pub AddsSecond : Named → Named → Named → MethodInfo → ℕ → Type 0
AddsSecond first old new m number =
    (name : List ℕ) (key : Key) →
    number_at new name key ≡ or_added (is_some (number_at first name key) && method_with_any_at name key m) number
    (number_at old name key)

-- at each name and key stand the numbers of the first and of the second method there
abbrev pub AreWithAny : (first second : Named) → List MethodInfo → Type 0
AreWithAny first second methods =
    FindsFirsts method_with_any_at first methods
    × ((name : List ℕ) (key : Key) → number_at second name key ≡ second_that (method_with_any_at name key) methods)

abbrev pub AreMethodNumbers : Named → WithAny → List MethodInfo → Type 0
AreMethodNumbers numbers with_any methods =
    FindsFirsts method_at numbers methods × AreWithAny with_any.first with_any.second methods

abbrev pub AreFieldNumbers : Named → Named → List FieldInfo → Type 0
AreFieldNumbers numbers static_numbers fields =
    FindsFirsts (field_at false) numbers fields × FindsFirsts (field_at true) static_numbers fields

-- the classes behind references
abbrev pub trees_behind : List (Bor ClassTree) → List ClassTree
trees_behind trees = map (λ (t : Bor ClassTree). t.now) trees

-- what these classes declare
abbrev pub fields_behind : List ClassInfo → List (Bor ClassTree) → List FieldInfo
fields_behind classes trees = by_class (class_fields (class_names classes)) 0 (trees_behind trees)

abbrev pub methods_behind : List ClassInfo → List (Bor ClassTree) → List MethodInfo
methods_behind classes trees = by_class (class_methods (class_names classes)) 0 (trees_behind trees)
