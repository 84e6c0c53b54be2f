-- A warning with a stable path and whole ways is confirmed.
use Rattle.std.proofs.Common.{◌≡◌, ℕ, ◌≤◌, Bool, true, false, List, [], ◌∷◌, Option, None, Some, IsSome, nat_lt, refl}
use Rattle.std.proofs.Common.{arith, ◌∙◌, if◌then◌else◌}
use Rattle.std.specs.Option.{option_and_then}
use Rattle.std.proofs.lemmas.Bool.{false≢true}
use Rattle.racer_base.specs.declared.ids.Place.{Place}
use Rattle.racer_base.specs.declared.limits.TheConstants.{MAX_WAY_STEPS}
use Rattle.access_paths.specs.declared.path.Path.{Path}
use Rattle.core_code.specs.Core.{Core}
use Rattle.core_semantics.specs.declared.object.Start.TheVariants.{All}
use Rattle.core_semantics.specs.Legs.{Leg, Ran, Came, Halted, run, runs, whole}
use Rattle.core_semantics.specs.Runs.{begun, place}
use Rattle.core_semantics.specs.State.{State}
use Rattle.access_domain.specs.declared.access.Access.{Access}
use Rattle.access_domain.specs.OutcomeRecords.{record_at}
use Rattle.race_pairs.specs.declared.warning.Warning.{Warning}
use Rattle.core_ways.specs.Stable.{IsStable}
use Rattle.core_ways.specs.Ways.{Trip, way_of}
use Rattle.core_ways.specs.Marks.{Pair, IsWhole, Confirmed, is_locked, legs_of, ways_in_order, objects_of, mark_of}
use Rattle.core_ways.specs.Marks.{mark_by_calls, mark_by_length, mark_by_run, first_unread, first_long, first_halt}
use Rattle.witness_build_laws.specs.Warned.{pair_of, warning_mark}
use Rattle.core_ways_laws.proofs.StableMeets.{lasting-known}

pub none_unread : (a b : Trip) → a.unread ≡ [] → b.unread ≡ [] → first_unread (a ∷ b ∷ []) ≡ None
none_unread a b ea eb = rw (ea, eb) refl

not_longer : (n : ℕ) → n ≤ MAX_WAY_STEPS → nat_lt MAX_WAY_STEPS n ≡ false
not_longer n h = grind arith

pub none_long : (a b : Trip) → a.steps ≤ MAX_WAY_STEPS → b.steps ≤ MAX_WAY_STEPS → first_long (a ∷ b ∷ []) ≡ None
none_long a b ha hb = rw (not_longer a.steps ha, not_longer b.steps hb) refl

-- what holds of both ways in either order holds of them in running order
in_either_order : (P : List Trip → Type 0) (locked : Bool) (a b : Trip) → P (a ∷ b ∷ []) → P (b ∷ a ∷ []) →
    P (if locked then b ∷ a ∷ [] else a ∷ b ∷ [])
in_either_order P true a b x y = y
in_either_order P false a b x y = x

-- legs that come whole do not halt
none_after : (core : Core) (leg : Leg) (legs : List Leg) (r : Ran) →
    ((to : State) → IsSome (run core legs to) → first_halt core legs to ≡ None) →
    IsSome (option_and_then (run core legs) (whole r)) →
    ◌≡◌ {A = Option (ℕ × Option Place)} (elim r [
      | Came to left ↦ first_halt core legs to
      | Halted halt at steps ↦ Some (leg.thread, place at leg.thread)
    ]) None
none_after core leg legs (Came to []) rest comes = rest to comes
none_after core leg legs (Came to (turn ∷ turns)) rest comes = absurd (false≢true comes)
none_after core leg legs (Halted halt at steps) rest comes = absurd (false≢true comes)

none_halts : (core : Core) (legs : List Leg) (s : State) → IsSome (run core legs s) → first_halt core legs s ≡ None
none_halts core [] s comes = refl
none_halts core (leg ∷ legs) s comes =
    none_after core leg legs (runs core leg.thread leg.steps leg.turns s) (λ to. none_halts core legs to) comes

pub said-made : (core : Core) (legs : List Leg) (s : State) → first_halt core legs s ≡ None →
    mark_by_run core legs s ≡ Confirmed (objects_of core legs s) legs
said-made core legs s none = rw (mark_by_run, none) refl

by_length : (core : Core) (w : Pair) → first_long (ways_in_order core w) ≡ None →
    mark_by_length core w ≡ mark_by_run core (legs_of core w) (begun core w.m1 w.m2 All)
by_length core w none = rw (mark_by_length, none) refl

by_calls : (core : Core) (w : Pair) → first_unread (ways_in_order core w) ≡ None →
    mark_by_calls core w ≡ mark_by_length core w
by_calls core w none = rw (mark_by_calls, none) refl

by_path : (core : Core) (w : Pair) (p : Path) → IsStable core w.m1 w.m2 p → mark_of core w p ≡ mark_by_calls core w
by_path core w p stable = rw (lasting-known p.root stable.root, stable.prefixes) refl

pub confirmed : (core : Core) (w : Pair) (p : Path) → IsStable core w.m1 w.m2 p → IsWhole core w →
    mark_of core w p ≡ Confirmed (objects_of core (legs_of core w) (begun core w.m1 w.m2 All)) (legs_of core w)
confirmed core w p stable ways =
    let a : Trip = way_of core w.m1 w.i in
    let b : Trip = way_of core w.m2 w.j in
    by_path core w p stable
    ∙ by_calls core w (in_either_order (λ ts. first_unread ts ≡ None) (is_locked core w.m1 w.i) a b
    (none_unread a b ways.read_first ways.read_second) (none_unread b a ways.read_second ways.read_first))
    ∙ by_length core w (in_either_order (λ ts. first_long ts ≡ None) (is_locked core w.m1 w.i) a b
    (none_long a b ways.short_first ways.short_second) (none_long b a ways.short_second ways.short_first))
    ∙ said-made core (legs_of core w) (begun core w.m1 w.m2 All)
    (none_halts core (legs_of core w) (begun core w.m1 w.m2 All) ways.runs)

pub whole_confirmed : (core : Core) (w : Warning) (r : Access) → record_at core w.entry w.access ≡ Some r →
    IsStable core w.entry w.partner r.path → IsWhole core (pair_of w) →
    warning_mark core w ≡ Confirmed
    (objects_of core (legs_of core (pair_of w)) (begun core w.entry w.partner All)) (legs_of core (pair_of w))
whole_confirmed core w r there stable ways = rw (warning_mark, there) (confirmed core (pair_of w) r.path stable ways)
