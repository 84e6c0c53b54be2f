-- A contract of a public call rests on this: what walks tell of two legs.
use Rattle.std.specs.Prelude.{◌≡◌, ℕ, Bool, false, List, [], ◌∷◌, Option, None, Some}
use Rattle.std.specs.BTreeSet.{IsDisjoint}
use Rattle.racer_base.specs.declared.ids.MethodId.{MethodId}
use Rattle.racer_base.specs.declared.ids.Place.{Place}
use Rattle.core_code.specs.Core.{Core}
use Rattle.core_semantics.specs.declared.object.StartPath.{StartPath}
use Rattle.core_semantics.specs.Legs.{Leg}
use Rattle.core_semantics.specs.Runs.{place}
use Rattle.core_semantics.specs.State.{State, thread_of}
use Rattle.core_semantics.specs.View.{state_of}
use Rattle.core_ways.specs.declared.mark.Leg.{Leg as LegTaken}
use Rattle.core_ways.specs.Ends.{Past, Stopped, leg_end, leg_reads}
use Rattle.core_ways.specs.Gathered.{gathered}
use Rattle.core_ways.specs.Marks.{blocked_at, mark_by_run}
use Rattle.witness_build_apart_laws.specs.RunLegs.{AreRead}
use Rattle.witness_build_walks.specs.declared.walk.Walk.{Walk}
use Rattle.witness_build_walks.specs.declared.walks.Walked.{Walked}
use Rattle.witness_build_walks.specs.declared.walks.Walked.TheVariants as code
use Rattle.witness_build_walks.specs.declared.walks.Walks.{Walks}
use Rattle.witness_build_walks.specs.Walks.{HasGone, IsWalk, field_cmp}

-- what walks tell of two legs, with the objects that both read
abbrev pub IsTold : Core → (first second : Leg) → State → List StartPath → Walked → Type 0
IsTold core f g s objects (code.Stopped thread at) = blocked_at thread at ≡ mark_by_run core (f ∷ g ∷ []) s
IsTold core f g s objects code.Past = AreRead core f g s objects
IsTold core f g s objects code.Unknown = objects ≡ []

-- what a second leg tells that is run from here, where a first one was given these objects
abbrev pub IsRunOn : Core → Leg → State → (given before objects : List StartPath) → Walked → Type 0
IsRunOn core g s given before objects (code.Stopped thread at) =
    (stop : State) × (leg_end core g.thread g.steps g.turns s ≡ Stopped stop)
    × (thread ≡ g.thread) × (at ≡ place stop g.thread)
IsRunOn core g s given before objects code.Past =
    (end : State) × (leg_end core g.thread g.steps g.turns s ≡ Past end)
    × (objects ≡ gathered (gathered before given) (leg_reads core g.thread g.steps g.turns s))
IsRunOn core g s given before objects code.Unknown = ⊥

-- the last walk of a thread, where there is one
abbrev pub IsLast : Core → ℕ → Option Walk → Type 0
IsLast core t None = Unit {0}
IsLast core t (Some w) = IsWalk core w × (w.thread ≡ t)

-- the last walks of both threads, and their trunks
pub record AreWalks (core : Core) (walks : Walks) : Type 0 where
  pub first : IsLast core 0 walks.first
  pub second : IsLast core 1 walks.second
  pub first_trunk : IsLast core 0 walks.first_trunk
  pub second_trunk : IsLast core 1 walks.second_trunk

-- the place that a walk is at
abbrev pub place_at : Walk → Option Place
place_at w = place (state_of w.machine) w.thread

-- a walk of a method along a leg
pub record IsGone (core : Core) (m : MethodId) (leg : LegTaken) (all : Bool) (w : Walk) : Type 0 where
  pub thread : w.thread ≡ leg.thread
  pub method : w.method ≡ m
  pub gone : HasGone core leg w all

abbrev pub IsGoneIn : Core → MethodId → LegTaken → Bool → Option Walk → Type 0
IsGoneIn core m leg all None = ⊥
IsGoneIn core m leg all (Some w) = IsGone core m leg all w

-- the second walk reads no field that the first stored in, and waits for no monitor
pub record AreApart (first second : Walk) : Type 0 where
  pub quiet : first.is_loud ≡ false
  pub free : (thread_of (state_of first.machine) first.thread).locks ≡ []
  pub disjoint : IsDisjoint field_cmp first.writes second.reads
