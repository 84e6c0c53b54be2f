-- A contract of a public call rests on this: the law `places_reach_their_access`. What it is that places go from a
-- record's site down to its access.
use Rattle.std.specs.Prelude.{◌≡◌, ℕ, List, [], ◌∷◌, Some}
use Rattle.racer_base.specs.declared.ids.MethodId.{MethodId}
use Rattle.racer_base.specs.declared.ids.Place.{Place}
use Rattle.access_paths.specs.Paths.{last_of}
use Rattle.access_domain.specs.declared.access.Access.{Access}
use Rattle.access_domain.specs.Origins.{field_of, touch_of}
use Rattle.core_code.specs.declared.code.Op.TheVariants.{Call}
use Rattle.core_code.specs.Core.{Core}
use Rattle.core_code.specs.Tree.{Operation}
use Rattle.race_report_parts.specs.Places.{OwnedRecord, operation_at, owned_record_at}

-- the operation at the site of a record stands at this place, and makes the access: it reads or writes, as the record
-- says, the last field of its path
pub record IsAccessAt (core : Core) (held : OwnedRecord) (at : Place) : Type 0 where
  pub operation : Operation
  pub is : operation_at core held.method held.access.site ≡ Some operation
  pub place : operation.place ≡ at
  pub touches : touch_of operation.op ≡ Some held.access.kind
  pub field : field_of operation.op ≡ last_of held.access.path.fields

-- the operation at the site of a record stands at this place, and calls a method that has the record below, of which
-- the rest is so; that record is of the same kind, and its path ends in the same field
pub record IsCallAt (core : Core) (held : OwnedRecord) (at : Place) (Rest : OwnedRecord → Type 0) : Type 0 where
  pub operation : Operation
  pub is : operation_at core held.method held.access.site ≡ Some operation
  pub place : operation.place ≡ at
  pub callee : MethodId
  pub count : ℕ
  pub calls : operation.op ≡ Call callee count
  pub index : ℕ
  pub below : held.access.below ≡ Some index
  pub lower : Access
  pub has : owned_record_at core callee index ≡ Some (record { method = callee; access = lower })
  pub kind : held.access.kind ≡ lower.kind
  pub same_field : last_of held.access.path.fields ≡ last_of lower.path.fields
  pub rest : Rest (record { method = callee; access = lower })

-- the last place is that of the access, and each before it that of a call
abbrev pub DoesReach : Core → OwnedRecord → List Place → Type 0
DoesReach core held [] = ⊥
DoesReach core held (at ∷ []) = IsAccessAt core held at
DoesReach core held (at ∷ next ∷ more) = IsCallAt core held at (λ lower. DoesReach core lower (next ∷ more))
