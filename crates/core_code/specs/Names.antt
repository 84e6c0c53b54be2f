-- A contract of a public call rests on this: `Program::of`. What holds of the names in every program.
use Rattle.std.specs.Prelude.{ℕ, ◌-◌, Bool, true, ◌&&◌, ◌||◌, not, List, [], ◌∷◌, ◌++◌, bytes_eq, codes, filter}
use Rattle.std.specs.Prelude.{is_none, length, nat_eq, take}
use Rattle.std.specs.List.{list_all}
use Rattle.std.specs.Cmp.Lexicographic.{pointwise}
use Rattle.racer_base.specs.Name.{is_word, is_listed, keywords, fixed_words}
use Rattle.core_code.specs.declared.parts.ClassCore.{ClassCore}
use Rattle.core_code.specs.declared.parts.FieldCore.{FieldCore}
use Rattle.core_code.specs.Core.{Core, Method}

-- An identifier is a word that is neither a keyword nor a literal (JLS 3.8).

abbrev pub is_identifier : List ℕ → Bool
is_identifier text = is_word text && not (is_listed keywords text) && not (is_listed fixed_words text)

-- The name of a field is an identifier, that of the content of a container the identifier of the container's field and
-- `[]`. What else is known of it: the law `field_names_stand_in_texts`.

abbrev pub content_name : List ℕ → List ℕ
content_name name = name ++ codes "[]"

-- without its last two bytes
abbrev pub front_name : List ℕ → List ℕ
front_name text = take (length text - 2) text

abbrev pub is_content_name : List ℕ → Bool
is_content_name text = is_identifier (front_name text) && bytes_eq text (content_name (front_name text))

abbrev pub is_field_name : List ℕ → Bool
is_field_name text = is_identifier text || is_content_name text

-- The names of classes are identifiers, those of fields names of fields.

abbrev pub are_names_right : Core → Bool
are_names_right core =
    list_all (λ (c : ClassCore). is_identifier c.name) core.classes
    && list_all (λ (f : FieldCore). is_field_name f.name) core.fields

-- no two elements are the same
abbrev pub all_differ : {X : Type 0} → (X → X → Bool) → List X → Bool
all_differ same [] = true
all_differ same (x ∷ xs) = list_all (λ y. not (same x y)) xs && all_differ same xs

abbrev pub same_text : List ℕ → List ℕ → Bool
same_text = pointwise nat_eq

-- Class names differ.

abbrev pub do_classes_differ : Core → Bool
do_classes_differ core = all_differ (λ (a b : ClassCore). same_text a.name b.name) core.classes

-- The names of the fields of one class differ (JLS 8.3).

abbrev pub same_field : FieldCore → FieldCore → Bool
same_field a b = nat_eq a.class.0 b.class.0 && same_text a.name b.name

abbrev pub do_fields_differ : Core → Bool
do_fields_differ core = all_differ same_field core.fields

-- Analysed methods of one class differ in their names or in how many parameters they have.

abbrev pub same_signature : Method → Method → Bool
same_signature a b =
    nat_eq a.class.0 b.class.0 && same_text a.name b.name && nat_eq (length a.parameters) (length b.parameters)

abbrev pub do_methods_differ : Core → Bool
do_methods_differ core = all_differ same_signature (filter (λ (m : Method). is_none m.status) core.methods)
