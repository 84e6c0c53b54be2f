-- A contract of a public call rests on this: the headline of the analysis of a program.
use Rattle.std.specs.Prelude.{◌≡◌, Some}
use Rattle.std.specs.List.{Contains}
use Rattle.access_domain.specs.declared.access.Access.{Access}
use Rattle.access_domain.specs.OutcomeRecords.{record_at}
use Rattle.core_code.specs.Core.{Core}
use Rattle.core_semantics.specs.declared.object.Start.TheVariants.{All}
use Rattle.core_semantics.specs.Runs.{begun}
use Rattle.core_ways.specs.Marks.{Confirmed, IsWhole, legs_of, objects_of}
use Rattle.core_ways.specs.Stable.{IsStable}
use Rattle.race_pairs.specs.declared.warning.Warning.{Warning}
use Rattle.race_pairs.specs.Warnings.{warnings}
use Rattle.witness_build_laws.specs.Warned.{pair_of, warning_mark}
use Rattle.witness_build_laws.specs.Races.{RacesOn}

-- a warning is marked confirmed, with its two legs and the objects that they read, and that run ends in its race
pub record IsConfirmed (core : Core) (w : Warning) (r : Access) : Type 0 where
  pub marked : warning_mark core w ≡ Confirmed
      (objects_of core (legs_of core (pair_of w)) (begun core w.entry w.partner All)) (legs_of core (pair_of w))
  pub races : RacesOn core w
      (objects_of core (legs_of core (pair_of w)) (begun core w.entry w.partner All)) (legs_of core (pair_of w)) r.path

-- each warning of a program whose path is stable in both methods, and whose two ways are whole, is confirmed
abbrev pub AreConfirmed : Core → Type 0
AreConfirmed core =
    (w : Warning) (r : Access) → Contains (warnings core) w → record_at core w.entry w.access ≡ Some r →
    IsStable core w.entry w.partner r.path → IsWhole core (pair_of w) → IsConfirmed core w r
