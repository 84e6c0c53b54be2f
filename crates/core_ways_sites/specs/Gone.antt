-- A contract of a public call rests on this: what is gone of a way so far.
use Rattle.std.specs.Prelude.{◌≡◌, ℕ, ◌≤◌, List, [], ◌∷◌, ◌++◌, None}
use Rattle.racer_base.specs.declared.limits.TheConstants.{MAX_WAY_STEPS}
use Rattle.core_semantics.specs.declared.answer.Turn.{Turn}
use Rattle.core_ways.specs.declared.count.Count.{Count}
use Rattle.core_ways.specs.Counts.{added, count_of}
use Rattle.core_ways.specs.Ways.{Trip}

-- what is counted has no unread call and not too many steps
pub record IsOpen (count : Count) : Type 0 where
  pub read : count.unread ≡ None
  pub short : count.steps ≤ MAX_WAY_STEPS

-- with others behind them
abbrev pub IsLonger : List Turn → List Turn → Type 0
IsLonger old new = (more : List Turn) × (new ≡ old ++ more)

-- one step that takes this turn
abbrev pub one_turn : Turn → Trip
one_turn turn = record { turns = turn ∷ []; steps = 1; unread = [] }

-- a trip is counted so, and as long as it is open these are its turns
pub record IsGone (trip : Trip) (count : Count) (turns : List Turn) : Type 0 where
  pub counted : count ≡ count_of trip
  pub turned : IsOpen count → turns ≡ trip.turns

-- what is gone, and then the rest, is the whole
pub record LeadsOn (count : Count) (turns : List Turn) (rest whole : Trip) : Type 0 where
  pub small : count.steps ≤ 4294967295
  pub counted : added count (count_of rest) ≡ count_of whole
  pub turned : IsOpen (count_of whole) → turns ++ rest.turns ≡ whole.turns
