-- A contract of a public call rests on this: the places of a record, from its site down to its access.
use Rattle.std.specs.Prelude.{ℕ, zero, suc, List, [], ◌∷◌, Option, None, Some, length, option_map, slice_get}
use Rattle.std.specs.Option.{option_and_then}
use Rattle.racer_base.specs.declared.ids.MethodId.{MethodId}
use Rattle.racer_base.specs.declared.ids.SiteId.{SiteId}
use Rattle.racer_base.specs.declared.ids.Place.{Place}
use Rattle.core_code.specs.declared.code.Op.{Op as CoreOp}
use Rattle.core_code.specs.declared.code.Op.TheVariants.{Call}
use Rattle.core_code.specs.Calls.{method_at}
use Rattle.core_code.specs.Core.{Core}
use Rattle.core_code.specs.Tree.{Operation, op_at}
use Rattle.access_domain.specs.declared.access.Access.{Access}
use Rattle.access_domain.specs.OutcomeRecords.{records_of}

-- the operation of a method that has this site
abbrev pub operation_at : Core → MethodId → SiteId → Option Operation
operation_at core m site = option_and_then (λ method. op_at method.code site) (method_at core m)

-- the method that an operation calls
abbrev pub callee_of : CoreOp → Option MethodId
callee_of (Call m n) = Some m
callee_of _ = None

-- a record and the method that has it
pub record OwnedRecord : Type 0 where
  pub method : MethodId
  pub access : Access

-- the record of a method that has this index
abbrev pub owned_record_at : Core → MethodId → ℕ → Option OwnedRecord
owned_record_at core m index =
    option_map (λ a. record { method = m; access = a }) (slice_get (records_of core m) index)

-- the record of the called method that a record is made of: it has this index there
abbrev pub record_below : Core → Option MethodId → Option ℕ → Option OwnedRecord
record_below core None index = None
record_below core (Some m) None = None
record_below core (Some m) (Some index) = owned_record_at core m index

-- the place of a record's site, and where that is a call, the places of the callee's record; over so many methods
abbrev pub places_within : Core → Option OwnedRecord → ℕ → List Place
places_within core None n = []
places_within core (Some held) zero = []
places_within core (Some held) (suc n) =
    elim (operation_at core held.method held.access.site) [
      | None ↦ []
      | Some o ↦ o.place ∷ places_within core (record_below core (callee_of o.op) held.access.below) n
    ]

-- no chain of calls has more methods than there are
abbrev pub places_of : Core → OwnedRecord → List Place
places_of core held = places_within core (Some held) (length core.methods)
