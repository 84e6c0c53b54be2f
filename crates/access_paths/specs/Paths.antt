-- A contract of a public call rests on this: when two paths are the same, fronts, and extension by a field.
use Rattle.std.specs.Prelude.{ℕ, Bool, true, false, ◌&&◌, List, [], ◌∷◌, ◌++◌, Option, None, Some, length, take}
use Rattle.std.specs.Prelude.{nat_eq, nat_lt, if◌then◌else◌}
use Rattle.std.specs.Option.{option_and_then}
use Rattle.std.specs.Cmp.Lexicographic.{pointwise}
use Rattle.racer_base.specs.declared.ids.ClassId.{ClassId}
use Rattle.racer_base.specs.declared.ids.FieldId.{FieldId}
use Rattle.racer_base.specs.declared.limits.TheConstants.{MAX_PATH_FIELDS}
use Rattle.access_paths.specs.declared.path.Root.{Root}
use Rattle.access_paths.specs.declared.path.Root.TheVariants.{This, Class, Formal, Some as SomeOf}
use Rattle.access_paths.specs.declared.path.Path.{Path}

abbrev pub same_root : Root → Root → Bool
same_root This This = true
same_root (Class c) (Class d) = nat_eq c.0 d.0
same_root (Formal i) (Formal j) = nat_eq i j
same_root (SomeOf c) (SomeOf d) = nat_eq c.0 d.0
same_root _ _ = false

abbrev pub same_field : FieldId → FieldId → Bool
same_field f g = nat_eq f.0 g.0

abbrev pub same_fields : List FieldId → List FieldId → Bool
same_fields = pointwise same_field

-- whether two paths are the same
abbrev pub same_path : Path → Path → Bool
same_path p q = same_root p.root q.root && same_fields p.fields q.fields

-- a root alone
abbrev pub alone : Root → Path
alone root = record { root = root; fields = [] }

-- some object of class c, and its field f
abbrev pub some_path : ClassId → FieldId → Path
some_path c f = record { root = SomeOf c; fields = f ∷ [] }

-- the path of the first so many fields
abbrev pub front : ℕ → Path → Path
front n p = record { root = p.root; fields = take n p.fields }

-- `p.f`, which exists where p has fewer fields than the limit
abbrev pub extended : Path → FieldId → Option Path
extended p f =
    if nat_lt (length p.fields) MAX_PATH_FIELDS
    then Some (record { root = p.root; fields = p.fields ++ f ∷ [] })
    else None

-- the same by these fields in turn
abbrev pub extended_along : Path → List FieldId → Option Path
extended_along p [] = Some p
extended_along p (f ∷ fs) = option_and_then (λ q. extended_along q fs) (extended p f)

-- all fields but the last, and the last
abbrev pub front_of : List FieldId → List FieldId
front_of [] = []
front_of (f ∷ []) = []
front_of (f ∷ g ∷ fs) = f ∷ front_of (g ∷ fs)

abbrev pub last_of : List FieldId → Option FieldId
last_of [] = None
last_of (f ∷ []) = Some f
last_of (f ∷ g ∷ fs) = last_of (g ∷ fs)

abbrev pub is_some_root : Root → Bool
is_some_root This = false
is_some_root (Class c) = false
is_some_root (Formal i) = false
is_some_root (SomeOf c) = true

abbrev pub is_formal : Root → Bool
is_formal This = false
is_formal (Class c) = false
is_formal (Formal i) = true
is_formal (SomeOf c) = false
