-- A way has no more turns than steps.
use Rattle.std.proofs.Common.{ℕ, zero, suc, ◌≤◌, true, false, cond, List, [], ◌∷◌, length}
use Rattle.std.proofs.Common.{nat_eq, arith, length-append, ap}
use Rattle.racer_base.specs.declared.ids.MethodId.{MethodId}
use Rattle.core_code.specs.Calls.{known_below, rank_of}
use Rattle.core_code.specs.Core.{Core}
use Rattle.core_ways.specs.declared.part.WayPart.{WayPart}
use Rattle.core_ways.specs.declared.part.WayPart.TheVariants.{Step, Branched, Passed, Unread}
use Rattle.core_ways.specs.declared.taken.WayTaken.{WayTaken}
use Rattle.core_ways.specs.Answers.{IsTaken}
use Rattle.core_ways.specs.Ways.{Trip, joined, parts_of, straight, trip_along, trip_given, trip_of, trip_of_part}
use Rattle.core_ways.specs.Ways.{way_of, way_parts}
use Rattle.core_ways.specs.declared.way_pair.WayPair.{WayPair}
use Rattle.core_ways.specs.declared.way_pair.WayPair.TheVariants.{Taken, Unread as BothUnread, Long as BothLong}
use Rattle.core_ways.specs.WayPairs.{IsWayPair, AreShort, IsShort}

abbrev Few : Trip → Type 0
Few trip = length trip.turns ≤ trip.steps

few-joined : (a b : Trip) → Few a → Few b → Few (joined a b)
few-joined a b x y = let both = length-append a.turns b.turns in omega (arith, both, x, y)

few-part : (trips : MethodId → Trip) (part : WayPart) → ((m : MethodId) → Few (trips m)) → Few (trip_of_part trips part)
few-part trips Step few = omega arith
few-part trips (Branched turn) few = omega arith
few-part trips (Passed m) few = few-joined (straight 1) (trips m) (omega arith) (few m)
few-part trips (Unread place) few = omega arith

few-along : (trips : MethodId → Trip) (parts : List WayPart) → ((m : MethodId) → Few (trips m)) →
    Few (trip_along trips parts)
few-along trips [] few = omega arith
few-along trips (part ∷ parts) few =
    few-joined (trip_of_part trips part) (trip_along trips parts) (few-part trips part few) (few-along trips parts few)

few-below : (core : Core) (n : ℕ) (m : MethodId) → Few (known_below (straight 0) (trip_given core) core n m)
few-below core zero m = omega arith
few-below core (suc n) m =
    elim (nat_eq (rank_of core m) n) as (λ b. Few (cond b
    (trip_given core (known_below (straight 0) (trip_given core) core n) m)
    (known_below (straight 0) (trip_given core) core n m))) [
      | true ↦ few-along (known_below (straight 0) (trip_given core) core n) (parts_of core m) (few-below core n)
      | false ↦ few-below core n m
    ]

few-method : (core : Core) (m : MethodId) → Few (trip_of core m)
few-method core m =
    few-along (known_below (straight 0) (trip_given core) core (rank_of core m)) (parts_of core m)
    (few-below core (rank_of core m))

pub few-way : (core : Core) (m : MethodId) (i : ℕ) → Few (way_of core m i)
few-way core m i = few-along (trip_of core) (way_parts core m i) (few-method core)

-- a way that is taken is short enough for a leg
pub taken-short : (core : Core) (m : MethodId) (i : ℕ) (taken : WayTaken) → IsTaken (way_of core m i) taken →
    IsShort taken
taken-short core m i taken is =
    let few = few-way core m i in
    let turns = ap length is.turns in
    record { turns = omega (arith, few, turns, is.short); steps = omega (arith, is.steps, is.short) }

pub both-short : (core : Core) (m n : MethodId) (i j : ℕ) (both : WayPair) →
    IsWayPair (way_of core m i) (way_of core n j) both →
    AreShort both
both-short core m n i j (Taken x y) are = (taken-short core m i x are.0, taken-short core n j y are.1)
both-short core m n i j (BothUnread place) are = tt
both-short core m n i j (BothLong steps) are = tt
