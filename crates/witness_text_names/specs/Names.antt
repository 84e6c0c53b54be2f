-- A contract of a public call rests on this: the entries, the roots and the fields that names are.
use Rattle.std.specs.Prelude.{ℕ, Bool, ◌&&◌, ◌==◌, List, ◌∷◌, ◌++◌, Option, find, map, option_map}
use Rattle.std.specs.List.{enumerate_from, slice_split}
use Rattle.racer_base.specs.declared.ids.ClassId.{ClassId}
use Rattle.racer_base.specs.declared.ids.FieldId.{FieldId}
use Rattle.racer_base.specs.declared.ids.Kind.{Kind}
use Rattle.core_code.specs.declared.parts.ClassCore.{ClassCore}
use Rattle.core_code.specs.declared.parts.FieldCore.{FieldCore}
use Rattle.core_code.specs.Core.{Core, Method}
use Rattle.core_code.specs.Kinds.{same_class}
use Rattle.core_code.specs.Names.{same_text}
use Rattle.access_paths.specs.Text.{name_at}
use Rattle.core_semantics.specs.declared.object.StartRoot.{StartRoot}
use Rattle.core_semantics.specs.declared.object.StartRoot.TheVariants.{This, Class, Param}
use Rattle.race_report_parts.specs.Marks.{start_root_text}
use Rattle.race_report_parts.specs.Texts.{class_names}
use Rattle.core_semantics_kinds.specs.Reached.{ObjectOf, Reached, TheClass}
use Rattle.race_report_parts.specs.WitnessFiles.{entry_text}

-- ---- entries

-- a method with its number
abbrev pub NumberedMethod : Type 0
NumberedMethod = ℕ × Method

-- the entry of this text of the class of this name; entries are methods of checked classes
abbrev pub is_named : Core → List ℕ → List ℕ → Method → Bool
is_named core class text m =
    m.entry && same_text (name_at (class_names core) m.class.0) class && same_text (entry_text m) text

abbrev pub entry_named : Core → List ℕ → List ℕ → Option NumberedMethod
entry_named core class text = find (λ e. is_named core class text e.1) (enumerate_from 0 core.methods)

-- ---- start paths

-- the names between the dots (46) of a text, in order
abbrev pub names_in : List ℕ → List (List ℕ)
names_in text = slice_split (λ b. b == 46) text

-- the roots that there are: `this`, the classes, and the parameters of both entries
abbrev pub parameters_of : ℕ → Method → List StartRoot
parameters_of t m = map (λ (e : ℕ × Kind). Param t e.0) (enumerate_from 0 m.parameters)

abbrev pub class_roots : Core → List StartRoot
class_roots core = map (λ (e : ℕ × ClassCore). Class (record { 0 = e.0 })) (enumerate_from 0 core.classes)

abbrev pub all_roots : Core → Method → Method → List StartRoot
all_roots core f g = This ∷ class_roots core ++ parameters_of 0 f ++ parameters_of 1 g

-- the root that has this text
abbrev pub root_named : Core → Method → Method → List ℕ → Option StartRoot
root_named core f g text = find (λ r. same_text (start_root_text core r) text) (all_roots core f g)

-- a field of this name of the class reached
abbrev pub class_in : Reached → ClassId
class_in (ObjectOf c) = c
class_in (TheClass c) = c

abbrev pub is_field_named : ClassId → List ℕ → FieldCore → Bool
is_field_named c name field = same_class c field.class && same_text field.name name

abbrev pub field_named : Core → List ℕ → Reached → Option FieldId
field_named core name reached =
    option_map (λ (e : ℕ × FieldCore). record { 0 = e.0 })
    (find (λ e. is_field_named (class_in reached) name e.1) (enumerate_from 0 core.fields))
