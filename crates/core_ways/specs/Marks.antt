-- A contract of a public call rests on this: when two ways are whole, and the mark of a warning. A warning is named by
-- its two entries and the numbers of their records.
use Rattle.std.specs.Prelude.{◌≡◌, ℕ, zero, suc, ◌≤◌, Bool, false, List, [], ◌∷◌, ◌++◌, Option, None, Some}
use Rattle.std.specs.Prelude.{IsSome, nat_lt, if◌then◌else◌}
use Rattle.racer_base.specs.declared.ids.MethodId.{MethodId}
use Rattle.racer_base.specs.declared.ids.Place.{Place}
use Rattle.racer_base.specs.declared.ids.Touch.TheVariants.{Read, Write}
use Rattle.racer_base.specs.declared.limits.TheConstants.{MAX_WAY_STEPS}
use Rattle.access_paths.specs.declared.path.Path.{Path}
use Rattle.access_paths.specs.Paths.{is_some_root}
use Rattle.core_code.specs.Core.{Core}
use Rattle.core_semantics.specs.declared.answer.Turn.{Turn}
use Rattle.core_semantics.specs.declared.answer.Turn.TheVariants.{Right}
use Rattle.core_semantics.specs.declared.object.StartPath.{StartPath}
use Rattle.core_semantics.specs.declared.object.Start.TheVariants.{All}
use Rattle.core_semantics.specs.declared.object.Object.TheVariants.{Start as StartOf}
use Rattle.core_semantics.specs.declared.object.Value.{Value}
use Rattle.core_semantics.specs.declared.object.Value.TheVariants.{Object as Ref}
use Rattle.core_semantics.specs.Legs.{Leg, Came, Halted, run, runs}
use Rattle.core_semantics.specs.Objects.{same_start_path}
use Rattle.core_semantics.specs.Runs.{Access as Touching, begun, next_touch, place, wants_turn}
use Rattle.core_semantics.specs.State.{State}
use Rattle.core_semantics.specs.Steps.{Next, Goes, read, step}
use Rattle.access_domain.specs.Records.{firsts}
use Rattle.access_domain.specs.OutcomeRecords.{record_at}
use Rattle.core_ways.specs.declared.mark.Leg.{Leg as LegTaken}
use Rattle.core_ways.specs.declared.mark.Mark.{Mark}
use Rattle.core_ways.specs.declared.mark.Mark.TheVariants as code
use Rattle.core_ways.specs.Answers.{counted}
use Rattle.core_ways.specs.Stable.{unstable_prefix}
use Rattle.core_ways.specs.Ways.{Trip, way_of}

-- a warning: a record of each of two entries
pub record Pair : Type 0 where
  pub m1 : MethodId
  pub i : ℕ
  pub m2 : MethodId
  pub j : ℕ

-- whether the record of this index of a method is locked
abbrev pub is_locked : Core → MethodId → ℕ → Bool
is_locked core m i = elim (record_at core m i) [ None ↦ false | Some r ↦ r.locked ]

abbrev pub leg_along : ℕ → Trip → Leg
leg_along t trip = record { thread = t; turns = trip.turns; steps = trip.steps }

-- Thread 0 runs the first entry. The leg of an unlocked record goes first; where both are unlocked, that of thread 0.
abbrev pub legs_of : Core → Pair → List Leg
legs_of core w =
    if is_locked core w.m1 w.i
    then leg_along 1 (way_of core w.m2 w.j) ∷ leg_along 0 (way_of core w.m1 w.i) ∷ []
    else leg_along 0 (way_of core w.m1 w.i) ∷ leg_along 1 (way_of core w.m2 w.j) ∷ []

-- the ways in running order
abbrev pub ways_in_order : Core → Pair → List Trip
ways_in_order core w =
    if is_locked core w.m1 w.i
    then way_of core w.m2 w.j ∷ way_of core w.m1 w.i ∷ []
    else way_of core w.m1 w.i ∷ way_of core w.m2 w.j ∷ []

-- neither way meets a call that is not read, neither has too many steps, and both can be run, one after the other
pub record IsWhole (core : Core) (w : Pair) : Type 0 where
  pub read_first : (way_of core w.m1 w.i).unread ≡ []
  pub read_second : (way_of core w.m2 w.j).unread ≡ []
  pub short_first : (way_of core w.m1 w.i).steps ≤ MAX_WAY_STEPS
  pub short_second : (way_of core w.m2 w.j).steps ≤ MAX_WAY_STEPS
  pub runs : IsSome (run core (legs_of core w) (begun core w.m1 w.m2 All))

-- What the reads of a run give: the start paths with a field, each once, in the order first read.

abbrev pub paths_in : Value → List StartPath
paths_in (Ref (StartOf p)) = elim p.fields [ [] ↦ [] | ◌∷◌ f fs ↦ p ∷ [] ]
paths_in _ = []

abbrev pub given_by : Core → State → Touching → List StartPath
given_by core s (o, f, Read) = paths_in (read core s.store o f)
given_by core s (o, f, Write) = []

-- what the next step of a thread reads
abbrev pub next_read : Core → State → ℕ → List StartPath
next_read core s t = elim (next_touch s t) [ None ↦ [] | Some touching ↦ given_by core s touching ]

abbrev pub reads_on : (State → List StartPath) → Next State → List StartPath
reads_on rest (Goes next) = rest next
reads_on rest _ = []

-- what so many steps of a thread read
abbrev pub reads : Core → ℕ → ℕ → List Turn → State → List StartPath
reads core t zero turns s = []
reads core t (suc n) turns s =
    if wants_turn s t
    then (elim turns [ [] ↦ [] | ◌∷◌ turn rest ↦ reads_on (reads core t n rest) (step core s t turn) ])
    else next_read core s t ++ reads_on (reads core t n turns) (step core s t Right)

abbrev pub reads_of_legs : Core → List Leg → State → List StartPath
reads_of_legs core [] s = []
reads_of_legs core (leg ∷ legs) s =
    reads core leg.thread leg.steps leg.turns s
    ++ (elim (runs core leg.thread leg.steps leg.turns s) [
      | Came to left ↦ reads_of_legs core legs to
      | Halted halt at steps ↦ []
    ])

abbrev pub objects_of : Core → List Leg → State → List StartPath
objects_of core legs s = firsts same_start_path (reads_of_legs core legs s)

-- what a mark says; the legs in running order
pub data Said : Type 0 where
  Unnamed : Said
  Unstable : (before : Path) → Said
  Unread : (at : Place) → Said
  Long : (steps : ℕ) → Said
  Blocked : (thread : ℕ) (at : Place) → Said
  Confirmed : (objects : List StartPath) (legs : List Leg) → Said

-- The rows of the table of marks, in order. A row that looks at ways is asked for both, in running order.

abbrev pub first_unread : List Trip → Option Place
first_unread [] = None
first_unread (trip ∷ trips) = elim trip.unread [ [] ↦ first_unread trips | ◌∷◌ at others ↦ Some at ]

abbrev pub first_long : List Trip → Option ℕ
first_long [] = None
first_long (trip ∷ trips) =
    if nat_lt MAX_WAY_STEPS trip.steps then Some (counted trip.steps) else first_long trips

-- the first thread that cannot make its leg, and where it is then
abbrev pub first_halt : Core → List Leg → State → Option (ℕ × Option Place)
first_halt core [] s = None
first_halt core (leg ∷ legs) s =
    elim (runs core leg.thread leg.steps leg.turns s) [
      | Came to left ↦ first_halt core legs to
      | Halted halt at steps ↦ Some (leg.thread, place at leg.thread)
    ]

-- A thread cannot make its next step at this place. At no place nothing is known; no way comes to that, as the law
-- `blocked_warnings_are_stuck` of `witness_build_laws` says.
abbrev pub blocked_at : ℕ → Option Place → Said
blocked_at thread None = Unnamed
blocked_at thread (Some at) = Blocked thread at

abbrev pub mark_by_run : Core → List Leg → State → Said
mark_by_run core legs s =
    elim (first_halt core legs s) [
      | None ↦ Confirmed (objects_of core legs s) legs
      | Some halted ↦ blocked_at halted.0 halted.1
    ]

abbrev pub mark_by_length : Core → Pair → Said
mark_by_length core w =
    elim (first_long (ways_in_order core w)) [
      | None ↦ mark_by_run core (legs_of core w) (begun core w.m1 w.m2 All)
      | Some steps ↦ Long steps
    ]

abbrev pub mark_by_calls : Core → Pair → Said
mark_by_calls core w =
    elim (first_unread (ways_in_order core w)) [ None ↦ mark_by_length core w | Some at ↦ Unread at ]

-- the mark of a warning on this path
abbrev pub mark_of : Core → Pair → Path → Said
mark_of core w p =
    if is_some_root p.root
    then Unnamed
    else (elim (unstable_prefix core w.m1 w.m2 p) [ None ↦ mark_by_calls core w | Some q ↦ Unstable q ])

-- what is seen of a leg and of a mark
abbrev pub leg_of : LegTaken → Leg
leg_of leg = record { thread = leg.thread; turns = leg.turns; steps = leg.steps }

abbrev pub said_by : Mark → Said
said_by code.Unnamed = Unnamed
said_by (code.Unstable before) = Unstable before
said_by (code.Unread at) = Unread at
said_by (code.Long steps) = Long steps
said_by (code.Blocked thread at) = Blocked thread at
said_by (code.Confirmed w) = Confirmed w.objects (leg_of w.first ∷ leg_of w.second ∷ [])
