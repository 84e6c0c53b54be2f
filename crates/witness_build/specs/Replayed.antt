-- A contract of a public call rests on this: what the file of a confirmed warning's witness needs to be replayed.
use Rattle.std.specs.Prelude.{◌≡◌, ℕ, IsTrue, List, Some, slice_get}
use Rattle.std.specs.List.{Contains, list_all}
use Rattle.core_code.specs.Calls.{method_at}
use Rattle.core_code.specs.Core.{Core, Method}
use Rattle.access_domain.specs.declared.access.Access.{Access}
use Rattle.access_domain.specs.OutcomeRecords.{record_at}
use Rattle.race_pairs.specs.declared.warning.Warning.{Warning}
use Rattle.race_pairs.specs.Warnings.{warnings}
use Rattle.core_semantics.specs.declared.object.StartPath.{StartPath}
use Rattle.core_semantics.specs.Legs.{Leg}
use Rattle.core_ways.specs.declared.mark.Mark.{Mark}
use Rattle.core_ways.specs.Marks.{Said, Unnamed, Unstable, Unread, Long, Blocked, Confirmed, said_by}
use Rattle.witness_build_laws.specs.Races.{RacesOn}
use Rattle.core_semantics_kinds.specs.Reached.{is_right, roots_of}

-- each of these objects is a right start path for the two entries of a warning
pub record AreRight (core : Core) (w : Warning) (objects : List StartPath) : Type 0 where
  pub entry : Method
  pub partner : Method
  pub is_entry : method_at core w.entry ≡ Some entry
  pub is_partner : method_at core w.partner ≡ Some partner
  pub right : IsTrue (list_all (is_right core (roots_of entry partner)) objects)

-- the run of these legs from these objects ends in a race, in the cell of the path of the entry's record
pub record DoRace (core : Core) (w : Warning) (objects : List StartPath) (legs : List Leg) : Type 0 where
  pub access : Access
  pub is_record : record_at core w.entry w.access ≡ Some access
  pub race : RacesOn core w objects legs access.path

-- both
pub record CanReplay (core : Core) (w : Warning) (objects : List StartPath) (legs : List Leg) : Type 0 where
  pub right : AreRight core w objects
  pub race : DoRace core w objects legs

-- this holds of the objects and legs of a mark, where it confirms its warning
abbrev pub IfConfirmed : (List StartPath → List Leg → Type 0) → Said → Type 0
IfConfirmed P Unnamed = Unit {0}
IfConfirmed P (Unstable before) = Unit {0}
IfConfirmed P (Unread at) = Unit {0}
IfConfirmed P (Long steps) = Unit {0}
IfConfirmed P (Blocked thread at) = Unit {0}
IfConfirmed P (Confirmed objects legs) = P objects legs

-- this holds of each mark that confirms its warning, where that is one of the list of warnings
abbrev pub HaveConfirmed : Core → (Warning → List StartPath → List Leg → Type 0) → List Warning → List Mark → Type 0
HaveConfirmed core P found marks =
    (k : ℕ) (w : Warning) (mark : Mark) → slice_get found k ≡ Some w → slice_get marks k ≡ Some mark →
    Contains (warnings core) w → IfConfirmed (P w) (said_by mark)
