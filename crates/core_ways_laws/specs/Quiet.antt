-- A contract of a public call rests on this: paths that name one object all through the two legs of a warning.
use Rattle.std.specs.Prelude.{◌≡◌, ℕ, ◌≤◌, Bool, true, false, Some, length}
use Rattle.std.specs.Prelude.{IsTrue}
use Rattle.std.specs.List.{list_all}
use Rattle.racer_base.specs.declared.ids.FieldId.{FieldId}
use Rattle.racer_base.specs.declared.ids.MethodId.{MethodId}
use Rattle.racer_base.specs.declared.ids.Kind.{Kind}
use Rattle.racer_base.specs.declared.ids.Kind.TheVariants.{Plain, Declared, Other}
use Rattle.racer_base.specs.declared.limits.TheConstants.{MAX_PATH_FIELDS}
use Rattle.access_paths.specs.declared.path.Root.{Root}
use Rattle.access_paths.specs.declared.path.Root.TheVariants.{This, Class, Formal, Some as SomeOf}
use Rattle.access_paths.specs.declared.path.Path.{Path}
use Rattle.access_paths.specs.Paths.{extended, front}
use Rattle.core_code.specs.Core.{Core}
use Rattle.core_semantics.specs.declared.object.StartPath.{StartPath}
use Rattle.core_semantics.specs.declared.object.StartRoot.{StartRoot}
use Rattle.core_semantics.specs.declared.object.StartRoot.TheVariants.{This as StartThis, Class as StartClass, Param}
use Rattle.core_semantics.specs.Steps.{kind_of}
use Rattle.core_ways.specs.Stable.{is_lasting_root, is_wobbly}

-- whether a field has a class of the program as its kind
abbrev pub is_declared : Kind → Bool
is_declared Plain = false
is_declared (Declared c) = true
is_declared Other = false

abbrev pub are_declared : Core → Path → Bool
are_declared core q = list_all (λ f. is_declared (kind_of core f)) q.fields

-- the path at the begin of a run; of a root that does not last this is none that is used
abbrev pub start_root : Root → StartRoot
start_root This = StartThis
start_root (Class c) = StartClass c
start_root (Formal i) = Param 0 i
start_root (SomeOf c) = StartClass c

abbrev pub start_path : Path → StartPath
start_path q = record { root = start_root q.root; fields = q.fields }

-- no prefix of a path, the path itself among them, is wobbly in one of two methods
abbrev pub IsCalm : Core → MethodId → MethodId → Path → Type 0
IsCalm core m1 m2 q =
    (k : ℕ) → k ≤ length q.fields → (is_wobbly core m1 (front k q) ≡ false) × (is_wobbly core m2 (front k q) ≡ false)

-- a quiet path of the two entries of a warning
pub record IsQuiet (core : Core) (m1 m2 : MethodId) (q : Path) : Type 0 where
  pub lasts : IsTrue (is_lasting_root q.root)
  pub short : length q.fields ≤ MAX_PATH_FIELDS
  pub declared : IsTrue (are_declared core q)
  pub calm : IsCalm core m1 m2 q

-- All that the invariant needs to know of the quiet paths, so that its lemmas hold of any such set of paths.
pub record Quietness (core : Core) : Type 1 where
  pub IsIn : Path → Type 0
  pub lasts : (q : Path) → IsIn q → IsTrue (is_lasting_root q.root)
  pub short : (q : Path) → IsIn q → length q.fields ≤ MAX_PATH_FIELDS
  pub declared : (q : Path) → IsIn q → IsTrue (are_declared core q)
  pub prefix : (q : Path) (f : FieldId) (r : Path) → extended q f ≡ Some r → IsIn r → IsIn q
