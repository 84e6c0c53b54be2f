-- A contract of a public call rests on this: what holds of units that have a program. Their files are those that there
-- are, and the names of their classes and fields are identifiers.
use Rattle.std.specs.Prelude.{ℕ, Bool, ◌&&◌, List, [], ◌∷◌, ◌++◌, Some, None, length, nat_lt}
use Rattle.std.specs.List.{flat_map, list_all}
use Rattle.racer_base.specs.declared.ids.Place.{Place}
use Rattle.java_tree.specs.declared.methods.FieldInitialiser.{FieldInitialiser}
use Rattle.java_tree.specs.declared.methods.FieldInitialiser.TheVariants as field
use Rattle.java_tree.specs.declared.methods.FieldVariable.{FieldVariable}
use Rattle.java_tree.specs.KeptPlaces.{init_places}
use Rattle.java_tree.specs.KeptPlaces.{Marks}
use Rattle.java_tree.specs.MethodPlaces.{method_marks}
use Rattle.java_tree.specs.declared.unit.Unit.{Unit}
use Rattle.java_tree.specs.declared.unit.ClassTree.{ClassTree}
use Rattle.java_tree.specs.declared.unit.Member.{Member}
use Rattle.java_tree.specs.declared.unit.Member.TheVariants as member
use Rattle.java_resolver.specs.declared.infos.ClassInfo.{ClassInfo}
use Rattle.java_resolver.specs.declared.infos.FieldInfo.{FieldInfo}
use Rattle.java_resolver.specs.Declarations.{classes_of, fields_of}
use Rattle.core_code.specs.Names.{is_identifier}

-- ---- places

-- those that are kept
abbrev pub kept_of : Marks → List Place
kept_of [] = []
kept_of (None ∷ marks) = kept_of marks
kept_of (Some place ∷ marks) = place ∷ kept_of marks

abbrev pub initialiser_places : FieldInitialiser → List Place
initialiser_places field.Absent = []
initialiser_places (field.Formed i) = kept_of (init_places i [])
initialiser_places field.Unread = []

abbrev pub variable_places : FieldVariable → List Place
variable_places v = v.name.place ∷ initialiser_places v.initialiser

abbrev pub member_places : Member → List Place
member_places (member.Method t) = kept_of (method_marks t)
member_places (member.Outside h) = h.place ∷ []
member_places (member.Field f) = flat_map variable_places f.variables
member_places (member.Skipped place) = place ∷ []

abbrev pub class_places : ClassTree → List Place
class_places c = c.place ∷ flat_map member_places c.members

abbrev pub unit_places : Unit → List Place
unit_places unit = unit.skipped ++ flat_map class_places unit.classes

-- whether a place is in one of these files
abbrev pub is_in_files : List (List ℕ) → Place → Bool
is_in_files files place = nat_lt place.file.0 (length files)

abbrev pub are_in_files : List (List ℕ) → List Unit → Bool
are_in_files files units = list_all (is_in_files files) (flat_map unit_places units)

-- ---- names

abbrev pub are_named : List Unit → Bool
are_named units =
    list_all (λ (c : ClassInfo). is_identifier c.name) (classes_of units)
    && list_all (λ (f : FieldInfo). is_identifier f.name) (fields_of units)
