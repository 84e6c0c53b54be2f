-- What a confirmed mark says of the parts that it was made of.
use Rattle.std.proofs.Common.{◌≡◌, ℕ, true, false, cond, List, ◌∷◌, Option, None, Some, refl}
use Rattle.racer_base.specs.declared.ids.Place.{Place}
use Rattle.access_paths.specs.declared.path.Path.{Path}
use Rattle.access_paths.specs.Paths.{is_some_root}
use Rattle.core_code.specs.Core.{Core}
use Rattle.core_semantics.specs.declared.answer.Turn.{Turn}
use Rattle.core_semantics.specs.declared.object.Start.TheVariants.{All}
use Rattle.core_semantics.specs.declared.object.StartPath.{StartPath}
use Rattle.core_semantics.specs.Legs.{Leg, Ran, Came, Halted, runs}
use Rattle.core_semantics.specs.Runs.{begun, place}
use Rattle.core_semantics.specs.State.{State}
use Rattle.core_ways.specs.Marks.{Pair, Said, Unnamed, Unstable, Unread, Long, Confirmed, blocked_at, first_halt}
use Rattle.core_ways.specs.Marks.{first_long}
use Rattle.core_ways.specs.Marks.{first_unread, legs_of, mark_by_calls, mark_by_length, mark_by_run, mark_of}
use Rattle.core_ways.specs.Marks.{objects_of, ways_in_order}
use Rattle.core_ways.specs.Stable.{unstable_prefix}

abbrev pub start : Core → Pair → State
start core w = begun core w.m1 w.m2 All

-- no prefix is unstable, both legs are made, and these are the legs and what they read
pub record IsConfirmedBy (core : Core) (w : Pair) (p : Path) (read : List StartPath) (given : List Leg) : Type 0 where
  pub named : is_some_root p.root ≡ false
  pub stable : unstable_prefix core w.m1 w.m2 p ≡ None
  pub made : first_halt core (legs_of core w) (start core w) ≡ None
  pub legs : given ≡ legs_of core w
  pub objects : read ≡ objects_of core (legs_of core w) (start core w)

abbrev pub by_halt : Core → List Leg → State → Option (ℕ × Option Place) → Said
by_halt core legs s o =
    elim o [
      | None ↦ Confirmed (objects_of core legs s) legs
      | Some halted ↦ blocked_at halted.0 halted.1
    ]

-- a thread that is stopped is no run that is confirmed
never-confirmed : (t : ℕ) (o : Option Place) (objects : List StartPath) (legs : List Leg) →
    blocked_at t o ≡ Confirmed objects legs → ⊥
never-confirmed t None objects legs e = absurd cc
never-confirmed t (Some at) objects legs e = absurd cc

abbrev RunParts : Core → List Leg → State → List StartPath → List Leg → Type 0
RunParts core legs s objects given =
    (first_halt core legs s ≡ None) × (given ≡ legs) × (objects ≡ objects_of core legs s)

run-parts : (core : Core) (legs given : List Leg) (s : State) (objects : List StartPath) →
    mark_by_run core legs s ≡ Confirmed objects given → RunParts core legs s objects given
run-parts core legs given s objects is =
    elim (first_halt core legs s) as (λ o. first_halt core legs s ≡ o → by_halt core legs s o ≡ Confirmed objects
    given →
    RunParts core legs s objects given) [
      | None ↦ λ e c. (e, cc, cc)
      | Some halted ↦ λ e c. absurd (never-confirmed halted.0 halted.1 objects given c)
    ] refl is

length-parts : (core : Core) (w : Pair) (given : List Leg) (objects : List StartPath) →
    mark_by_length core w ≡ Confirmed objects given → RunParts core (legs_of core w) (start core w) objects given
length-parts core w given objects is =
    (elim (first_long (ways_in_order core w)) as (λ o.
    (elim o as (λ _. Said) [ None ↦ mark_by_run core (legs_of core w) (start core w) | Some steps ↦ Long steps ])
    ≡ Confirmed objects given → RunParts core (legs_of core w) (start core w) objects given) [
      | None ↦ λ c. run-parts core (legs_of core w) given (start core w) objects c
      | Some steps ↦ λ c. absurd cc
    ]) is

calls-parts : (core : Core) (w : Pair) (given : List Leg) (objects : List StartPath) →
    mark_by_calls core w ≡ Confirmed objects given → RunParts core (legs_of core w) (start core w) objects given
calls-parts core w given objects is =
    (elim (first_unread (ways_in_order core w)) as (λ o.
    (elim o as (λ _. Said) [ None ↦ mark_by_length core w | Some at ↦ Unread at ])
    ≡ Confirmed objects given → RunParts core (legs_of core w) (start core w) objects given) [
      | None ↦ λ c. length-parts core w given objects c
      | Some at ↦ λ c. absurd cc
    ]) is

prefix-parts : (core : Core) (w : Pair) (p : Path) (given : List Leg) (objects : List StartPath) →
    is_some_root p.root ≡ false → (o : Option Path) → unstable_prefix core w.m1 w.m2 p ≡ o →
    (elim o as (λ _. Said) [ None ↦ mark_by_calls core w | Some q ↦ Unstable q ]) ≡ Confirmed objects given →
    IsConfirmedBy core w p objects given
prefix-parts core w p given objects named None e is =
    let parts = calls-parts core w given objects is in
    record { named = named; stable = e; made = parts.0; legs = parts.1; objects = parts.2 }
prefix-parts core w p given objects named (Some q) e is = absurd cc

pub mark-parts : (core : Core) (w : Pair) (p : Path) (given : List Leg) (objects : List StartPath) →
    mark_of core w p ≡ Confirmed objects given → IsConfirmedBy core w p objects given
mark-parts core w p given objects is =
    elim (is_some_root p.root) as (λ b. is_some_root p.root ≡ b →
    cond b Unnamed (elim (unstable_prefix core w.m1 w.m2 p) as (λ _. Said) [
      | None ↦ mark_by_calls core w
      | Some q ↦ Unstable q
    ]) ≡ Confirmed objects given → IsConfirmedBy core w p objects given) [
      | true ↦ λ e c. absurd cc
      | false ↦ λ e c. prefix-parts core w p given objects e (unstable_prefix core w.m1 w.m2 p) refl c
    ] refl is

-- ---- legs that are made

abbrev pub halt_in : Core → ℕ → List Leg → Ran → Option (ℕ × Option Place)
halt_in core t legs r = elim r [ Came to left ↦ first_halt core legs to | Halted halt at steps ↦ Some (t, place at t) ]

-- where no leg is stopped, the first comes to a state, and no later one is stopped from there
pub first-made : (core : Core) (leg : Leg) (legs : List Leg) (s : State) → first_halt core (leg ∷ legs) s ≡ None →
    (to : State) × (left : List Turn) × (runs core leg.thread leg.steps leg.turns s ≡ Came to left)
    × (first_halt core legs to ≡ None)
first-made core leg legs s none = made (runs core leg.thread leg.steps leg.turns s) refl none
  where
    made : (r : Ran) → runs core leg.thread leg.steps leg.turns s ≡ r → halt_in core leg.thread legs r ≡ None →
        (to : State) × (left : List Turn) × (runs core leg.thread leg.steps leg.turns s ≡ Came to left)
        × (first_halt core legs to ≡ None)
    made (Came to left) e n = (to, left, e, n)
    made (Halted halt at steps) e n = absurd cc
