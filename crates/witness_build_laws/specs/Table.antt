-- A contract of a public call rests on this: the laws of the table of marks. What it is that a warning is blocked, and
-- which row of the table each mark is.
use Rattle.std.specs.Prelude.{◌≡◌, ℕ, true, false, List, ◌∷◌, ◌++◌, None, Some}
use Rattle.racer_base.specs.declared.ids.Place.{Place}
use Rattle.access_paths.specs.declared.path.Path.{Path}
use Rattle.access_paths.specs.Paths.{is_some_root}
use Rattle.core_code.specs.Core.{Core}
use Rattle.core_semantics.specs.declared.answer.Why.{Why}
use Rattle.core_semantics.specs.declared.object.Start.TheVariants.{All}
use Rattle.core_semantics.specs.Legs.{Leg, Halted, StuckFor, run, runs}
use Rattle.core_semantics.specs.Runs.{begun, place}
use Rattle.core_semantics.specs.State.{State}
use Rattle.core_ways.specs.Marks.{IsWhole, Said, Unnamed, Unstable, Unread, Long, Blocked, Confirmed, first_long}
use Rattle.core_ways.specs.Marks.{first_unread, legs_of, objects_of, ways_in_order}
use Rattle.core_ways.specs.Stable.{IsStable, unstable_prefix}
use Rattle.race_pairs.specs.declared.warning.Warning.{Warning}
use Rattle.witness_build_laws.specs.Warned.{pair_of}

-- Some steps of a leg are made, and the next one is stuck, for this reason: an operation or a lock at this place, which
-- cannot be done with the values that it has. So no turn is missing, no monitor is held by the other thread, and its
-- thread has not ended.
pub record IsStuckAt (core : Core) (leg : Leg) (from : State) (at : Place) : Type 0 where
  pub why : Why
  pub stop : State
  pub steps : ℕ
  pub breaks : runs core leg.thread leg.steps leg.turns from ≡ Halted (StuckFor why) stop steps
  pub place : place stop leg.thread ≡ Some at

-- one of these legs is stuck so, and those before it are made, with all of their turns
pub record IsStopped (core : Core) (legs : List Leg) (start : State) (t : ℕ) (at : Place) : Type 0 where
  pub before : List Leg
  pub leg : Leg
  pub behind : List Leg
  pub are : legs ≡ before ++ leg ∷ behind
  pub from : State
  pub comes : run core before start ≡ Some from
  pub thread : leg.thread ≡ t
  pub stuck : IsStuckAt core leg from at

-- one of the two legs of a warning, in running order, with all start paths as objects
abbrev pub IsBlocked : Core → Warning → ℕ → Place → Type 0
IsBlocked core w t at = IsStopped core (legs_of core (pair_of w)) (begun core w.entry w.partner All) t at

-- The row of the table of marks that a mark is, of a warning on this path. The rows exclude each other.
abbrev pub IsRow : Core → Warning → Path → Said → Type 0
IsRow core w p Unnamed = is_some_root p.root ≡ true
IsRow core w p (Unstable before) =
    (is_some_root p.root ≡ false) × (unstable_prefix core w.entry w.partner p ≡ Some before)
IsRow core w p (Unread at) =
    IsStable core w.entry w.partner p × (first_unread (ways_in_order core (pair_of w)) ≡ Some at)
IsRow core w p (Long steps) =
    IsStable core w.entry w.partner p × (first_unread (ways_in_order core (pair_of w)) ≡ None)
    × (first_long (ways_in_order core (pair_of w)) ≡ Some steps)
IsRow core w p (Blocked t at) =
    IsStable core w.entry w.partner p × (first_unread (ways_in_order core (pair_of w)) ≡ None)
    × (first_long (ways_in_order core (pair_of w)) ≡ None) × IsBlocked core w t at
IsRow core w p (Confirmed objects legs) =
    IsStable core w.entry w.partner p × IsWhole core (pair_of w) × (legs ≡ legs_of core (pair_of w))
    × (objects ≡ objects_of core (legs_of core (pair_of w)) (begun core w.entry w.partner All))
