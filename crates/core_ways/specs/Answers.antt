-- A contract of a public call rests on this: what a way that is taken is, and why one is not.
use Rattle.std.specs.Prelude.{◌≡◌, ℕ, ◌≤◌, ◌<◌, min, [], Some, Result, Ok, Err, slice_get}
use Rattle.racer_base.specs.declared.limits.TheConstants.{MAX_WAY_STEPS}
use Rattle.core_ways.specs.declared.taken.WayFault.{WayFault}
use Rattle.core_ways.specs.declared.taken.WayFault.TheVariants.{Unread, Long}
use Rattle.core_ways.specs.declared.taken.WayTaken.{WayTaken}
use Rattle.core_ways.specs.Ways.{Trip}

-- a number of steps, kept at the last value of its type
abbrev pub counted : ℕ → ℕ
counted n = min n 4294967295

-- the way has no unread call and not too many steps, and is given whole
pub record IsTaken (trip : Trip) (taken : WayTaken) : Type 0 where
  pub read : trip.unread ≡ []
  pub short : trip.steps ≤ MAX_WAY_STEPS
  pub turns : taken.turns ≡ trip.turns
  pub steps : taken.steps ≡ trip.steps

-- the way has no unread call and so many steps, which are too many
pub record IsLong (trip : Trip) (steps : ℕ) : Type 0 where
  pub read : trip.unread ≡ []
  pub long : MAX_WAY_STEPS < trip.steps
  pub count : steps ≡ counted trip.steps

-- the first unread call is told before a great number of steps
abbrev pub IsWay : Trip → Result WayTaken WayFault → Type 0
IsWay trip (Ok taken) = IsTaken trip taken
IsWay trip (Err (Unread place)) = slice_get trip.unread 0 ≡ Some place
IsWay trip (Err (Long steps)) = IsLong trip steps
