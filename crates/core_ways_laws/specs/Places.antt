-- A contract of a public call rests on this: `legs_meet_records`. The invariant that the legs of a warning keep.
use Rattle.std.specs.Prelude.{◌≡◌, Bool, true, false, List, [], ◌∷◌, Option, None, Some, Contains, IsTrue, map}
use Rattle.racer_base.specs.declared.ids.ClassId.{ClassId}
use Rattle.racer_base.specs.declared.ids.FieldId.{FieldId}
use Rattle.racer_base.specs.declared.ids.Kind.TheVariants.{Declared as DeclaredKind}
use Rattle.access_paths.specs.declared.path.Path.{Path}
use Rattle.access_paths.specs.Paths.{extended}
use Rattle.owner_domain.specs.declared.value.Value.{Value as Called}
use Rattle.owner_domain.specs.declared.value.Value.TheVariants.{Named}
use Rattle.owner_domain.specs.declared.value.State.{State}
use Rattle.core_code.specs.Core.{Core, Method}
use Rattle.core_code.specs.Kinds.{StackKind, Plain, Other, kind_of}
use Rattle.core_semantics.specs.declared.object.Object.{Object}
use Rattle.core_semantics.specs.declared.object.Object.TheVariants.{Start}
use Rattle.core_semantics.specs.declared.object.StartPath.{StartPath}
use Rattle.core_semantics.specs.declared.object.Value.{Value}
use Rattle.core_semantics.specs.declared.object.Value.TheVariants.{Object as Ref}
use Rattle.core_semantics.specs.State.{Store}
use Rattle.core_semantics.specs.Steps.{kind_of as field_kind}
use Rattle.core_ways_laws.specs.Values.{Point}
use Rattle.core_ways_laws.specs.Names.{Naming, name_of}
use Rattle.core_ways_laws.specs.Quiet.{Quietness, are_declared, start_path}

-- the object of a path at the begin of a run
abbrev pub start_object : Path → Value
start_object q = Ref (Start (start_path q))

-- the kinds of places whose objects are known: all but plain values and objects of any class
abbrev pub is_strong : StackKind → Bool
is_strong Plain = false
is_strong Other = false
is_strong _ = true

-- a place of this kind, which is called by this name or by none, and holds this value
pub record IsPlace (core : Core) (quiet : Quietness core) (kind : StackKind) (name : Option Path) (x : Value) : Type 0
  where
    -- what is called by a quiet path holds its object
    pub held : (q : Path) → name ≡ Some q → quiet.IsIn q → x ≡ start_object q
    -- the object of a quiet path is called by it
    pub called : IsTrue (is_strong kind) → (q : Path) → x ≡ start_object q → quiet.IsIn q → name ≡ Some q
    -- all fields of the name have classes of the program as their kinds
    pub declared : IsTrue (is_strong kind) → (q : Path) → name ≡ Some q → IsTrue (are_declared core q)

-- places, one after another: their kinds, what the analysis calls them, and what they hold
abbrev pub ArePlaces : (core : Core) → Quietness core → Naming → List StackKind → List Called → List Value → Type 0
ArePlaces core quiet n [] [] [] = Unit {0}
ArePlaces core quiet n (k ∷ ks) (v ∷ vs) (x ∷ xs) =
    IsPlace core quiet k (name_of n v) x × ArePlaces core quiet n ks vs xs
ArePlaces core quiet n _ _ _ = ⊥

-- the variables and the stack of a frame of a method
pub record IsFrame (core : Core) (quiet : Quietness core) (n : Naming) (method : Method) (kinds : List StackKind)
    (s : State) (at : Point) : Type 0 where
  pub vars : ArePlaces core quiet n (map kind_of method.variables) s.vars at.vars
  pub stack : ArePlaces core quiet n kinds s.stack at.stack

-- what is stored, where each start path with a field is an object
pub record IsStore (core : Core) (quiet : Quietness core) (store : Store) : Type 0 where
  pub all : (p : StartPath) → store.heap p ≡ true
  -- nothing was stored in the fields along quiet paths
  pub unstored : (q : Path) (f : FieldId) (r : Path) → extended q f ≡ Some r → quiet.IsIn r →
      store.cells (Start (start_path q)) f ≡ None
  -- no object of a quiet path was stored in a field that has a class of the program as its kind
  pub stored : (o : Object) (f : FieldId) (c : ClassId) (q : Path) → field_kind core f ≡ DeclaredKind c →
      store.cells o f ≡ Some (start_object q) → quiet.IsIn q → ⊥

-- no path among these is called by a quiet path
abbrev pub AreHushed : (core : Core) → Quietness core → Naming → List Path → Type 0
AreHushed core quiet n paths =
    (w : Path) → Contains paths w → (q : Path) → name_of n (Named w) ≡ Some q → quiet.IsIn q → ⊥
