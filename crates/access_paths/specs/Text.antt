-- A contract of a public call rests on this: the text of a path, for given names of the classes and fields.
use Rattle.std.specs.Prelude.{ℕ, List, [], ◌∷◌, ◌++◌, codes, slice_index_or}
use Rattle.std.specs.Fmt.{decimal}
use Rattle.racer_base.specs.declared.ids.FieldId.{FieldId}
use Rattle.access_paths.specs.declared.path.Root.{Root}
use Rattle.access_paths.specs.declared.path.Root.TheVariants.{This, Class, Formal, Some as SomeOf}
use Rattle.access_paths.specs.declared.path.Path.{Path}

abbrev pub name_at : List (List ℕ) → ℕ → List ℕ
name_at names i = slice_index_or names i []

-- `this`, the class's name, `#i`, or `some C`
abbrev pub root_text : List (List ℕ) → Root → List ℕ
root_text class_names This = codes "this"
root_text class_names (Class c) = name_at class_names c.0
root_text class_names (Formal i) = codes "#" ++ decimal i
root_text class_names (SomeOf c) = codes "some " ++ name_at class_names c.0

-- `.f` for each field
abbrev pub fields_text : List (List ℕ) → List FieldId → List ℕ
fields_text field_names [] = []
fields_text field_names (f ∷ fs) = codes "." ++ name_at field_names f.0 ++ fields_text field_names fs

abbrev pub path_text : List (List ℕ) → List (List ℕ) → Path → List ℕ
path_text class_names field_names p = root_text class_names p.root ++ fields_text field_names p.fields
