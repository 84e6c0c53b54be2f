-- A contract of a public call rests on this: two ways in running order, or why they are not run.
use Rattle.std.specs.Prelude.{◌≡◌, ℕ, ◌≤◌, [], ◌∷◌, None, Some, length}
use Rattle.racer_base.specs.declared.limits.TheConstants.{MAX_WAY_STEPS}
use Rattle.core_code.specs.Core.{Core}
use Rattle.core_semantics.specs.declared.object.Start.TheVariants.{All}
use Rattle.core_semantics.specs.Runs.{begun}
use Rattle.core_ways.specs.declared.taken.WayTaken.{WayTaken}
use Rattle.core_ways.specs.Answers.{IsTaken}
use Rattle.core_ways.specs.Marks.{Pair, Said, Unread, Long, first_unread, first_long, leg_along, mark_by_run}
use Rattle.core_ways.specs.Ways.{Trip}
use Rattle.core_ways.specs.declared.way_pair.WayPair.{WayPair}
use Rattle.core_ways.specs.declared.way_pair.WayPair.TheVariants.{Taken, Unread as BothUnread, Long as BothLong}

-- the first call on a way that is not read is told before a great number of steps of either
abbrev pub IsWayPair : Trip → Trip → WayPair → Type 0
IsWayPair a b (Taken x y) = IsTaken a x × IsTaken b y
IsWayPair a b (BothUnread place) = first_unread (a ∷ b ∷ []) ≡ Some place
IsWayPair a b (BothLong steps) =
    (first_unread (a ∷ b ∷ []) ≡ None) × (first_long (a ∷ b ∷ []) ≡ Some steps)

-- no more turns, and no more steps, than a leg may have
pub record IsShort (taken : WayTaken) : Type 0 where
  pub turns : length taken.turns ≤ MAX_WAY_STEPS
  pub steps : taken.steps ≤ MAX_WAY_STEPS

abbrev pub AreShort : WayPair → Type 0
AreShort (Taken x y) = IsShort x × IsShort y
AreShort (BothUnread place) = Unit {0}
AreShort (BothLong steps) = Unit {0}

abbrev pub said_by_length : Core → Pair → ℕ → ℕ → Trip → Trip → Said
said_by_length core w t u a b =
    elim (first_long (a ∷ b ∷ [])) [
      | None ↦ mark_by_run core (leg_along t a ∷ leg_along u b ∷ []) (begun core w.m1 w.m2 All)
      | Some steps ↦ Long steps
    ]

-- what is said of two ways, of these threads in running order
abbrev pub said_of : Core → Pair → ℕ → ℕ → Trip → Trip → Said
said_of core w t u a b =
    elim (first_unread (a ∷ b ∷ [])) [ None ↦ said_by_length core w t u a b | Some place ↦ Unread place ]
