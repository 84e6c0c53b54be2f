-- The two records of a warning are there.
use Rattle.std.proofs.Common.{◌≡◌, ℕ, Some, Contains, slice_get, option_map}
use Rattle.racer_base.specs.declared.ids.MethodId.{MethodId}
use Rattle.core_code.specs.Core.{Core, Method}
use Rattle.access_domain.specs.declared.access.Access.{Access}
use Rattle.access_domain.specs.OutcomeRecords.{records_of}
use Rattle.race_pairs.specs.declared.warning.Warning.{Warning}
use Rattle.race_pairs.specs.Pairs.{IsPair}
use Rattle.race_pairs.specs.Warnings.{warnings}
use Rattle.race_pairs.proofs.WarningPairs.{warning_is_pair}
use Rattle.race_report_parts.specs.Places.{OwnedRecord, places_of}
use Rattle.race_report_parts.specs.Told.{Side, side_from, side_of, Sides, sides_from, sides_of}

-- the record of this index is there, where the method is and has so many
side_there : (core : Core) (m : MethodId) (index : ℕ) (method : Method) (access : Access) →
    slice_get core.methods m.0 ≡ Some method → slice_get (records_of core m) index ≡ Some access →
    (side : Side) × (side_of core m index ≡ Some side)
side_there core m index method access is has =
    let held : OwnedRecord = record { method = m; access = access } in (
      record { method = method; access = access; places = places_of core held },
      λ i. side_from core (is i) (option_map (λ (a : Access). let one : OwnedRecord =
          record { method = m; access = a } in one)
          (has i)),
    )

pub sides_there : (core : Core) (w : Warning) → Contains (warnings core) w →
    (sides : Sides) × (sides_of core w ≡ Some sides)
sides_there core w here =
    let pair : IsPair core w = warning_is_pair core w here in
    let first = side_there core w.entry w.access pair.of_entry.method pair.first pair.of_entry.is pair.of_entry.has in
    let partner = side_there core w.partner w.partner_access pair.of_partner.method pair.partner pair.of_partner.is
    pair.of_partner.has in
    (record { first = first.0; partner = partner.0 }, λ i. sides_from (first.1 i) (partner.1 i))
