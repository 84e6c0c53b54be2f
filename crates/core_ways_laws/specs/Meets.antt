-- A contract of a public call rests on this: the access at the end of a leg is that of its record.
use Rattle.std.specs.Prelude.{◌≡◌, ℕ, false, Some, IsTrue, slice_index_or}
use Rattle.racer_base.specs.declared.ids.FieldId.{FieldId}
use Rattle.racer_base.specs.declared.ids.Touch.{Touch}
use Rattle.racer_base.specs.declared.ids.Touch.TheVariants.{Read, Write}
use Rattle.access_paths.specs.declared.path.Path.{Path}
use Rattle.access_paths.specs.Paths.{front_of, is_some_root, last_of}
use Rattle.owner_domain.specs.declared.value.Value.TheVariants.{Named}
use Rattle.access_domain.specs.declared.access.Access.{Access}
use Rattle.core_code.specs.declared.code.Op.{Op as CoreOp}
use Rattle.core_code.specs.declared.code.Op.TheVariants.{Get, Put}
use Rattle.core_code.specs.Core.{Core}
use Rattle.core_semantics.specs.declared.object.Value.{Value}
use Rattle.core_semantics.specs.declared.object.Value.TheVariants.{Null}
use Rattle.core_ways_laws.specs.Values.{Point}
use Rattle.core_ways_laws.specs.Arrivals.{Arrival}
use Rattle.core_ways_laws.specs.Names.{Naming, name_of}
use Rattle.core_ways_laws.specs.Places.{start_object}
use Rattle.core_ways_laws.specs.Quiet.{Quietness, are_declared}

-- the operation that touches a field so
abbrev pub touching : Touch → FieldId → CoreOp
touching Read f = Get f
touching Write f = Put f

-- where the base of the access lies on the stack, counted from its top
abbrev pub base_slot : Touch → ℕ
base_slot Read = 0
base_slot Write = 1

abbrev pub base_value : Touch → Point → Value
base_value kind at = slice_index_or at.stack (base_slot kind) Null

-- the path of a record without its last field
abbrev pub base_path : Path → Path
base_path p = record { root = p.root; fields = front_of p.fields }

-- what comes next is the access of a record: it touches the record's field, and where the base of the record's path has
-- a quiet name it touches the object of that name
pub record DoesMeet (core : Core) (quiet : Quietness core) (n : Naming) (r : Access) (arrival : Arrival) : Type 0 where
  pub field : FieldId
  pub last : last_of r.path.fields ≡ Some field
  pub op : arrival.op ≡ touching r.kind field
  pub declared : is_some_root r.path.root ≡ false → (q : Path) → name_of n (Named (base_path r.path)) ≡ Some q →
      IsTrue (are_declared core q)
  pub base : is_some_root r.path.root ≡ false → (q : Path) → name_of n (Named (base_path r.path)) ≡ Some q →
      quiet.IsIn q → base_value r.kind arrival.at ≡ start_object q
