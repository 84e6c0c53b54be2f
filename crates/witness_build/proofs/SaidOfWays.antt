-- What is said of the two ways of a warning.
use Rattle.std.proofs.Common.{◌≡◌, ℕ, ◌<◌, ◌≤◌, Bool, true, false, cond, List, [], ◌∷◌, sym, ap, ◌∙◌, Option, None}
use Rattle.std.proofs.Common.{Some, nat_lt, slice_get}
use Rattle.std.proofs.lemmas.Bool.{lt-ltb, le-ltb}
use Rattle.racer_base.specs.declared.ids.Place.{Place}
use Rattle.racer_base.specs.declared.limits.TheConstants.{MAX_WAY_STEPS}
use Rattle.core_code.specs.Core.{Core}
use Rattle.core_semantics.specs.declared.object.Start.TheVariants.{All}
use Rattle.core_semantics.specs.Legs.{Leg}
use Rattle.core_semantics.specs.Runs.{begun}
use Rattle.core_ways.specs.Answers.{IsLong, counted}
use Rattle.core_ways.specs.Marks.{Pair, Said, Unread, Long, first_long, first_unread, is_locked, leg_along}
use Rattle.core_ways.specs.Marks.{mark_by_calls, mark_by_run}
use Rattle.core_ways.specs.Ways.{Trip, way_of}
use Rattle.core_ways.specs.declared.way_pair.WayPair.TheVariants as code
use Rattle.core_ways.specs.WayPairs.{IsWayPair, said_by_length, said_of}
use Rattle.witness_build_laws.proofs.WholeWarnings.{none_long, none_unread}

-- ---- the first call that is not read, and the first way that is long

abbrev first_call : List Place → Option Place → Option Place
first_call unread rest = elim unread [ [] ↦ rest | ◌∷◌ at others ↦ Some at ]

abbrev long_or : Bool → ℕ → Option ℕ → Option ℕ
long_or b steps rest = cond b (Some (counted steps)) rest

pub unread-first : (a b : Trip) (place : Place) → slice_get a.unread 0 ≡ Some place →
    first_unread (a ∷ b ∷ []) ≡ Some place
unread-first a b place e = first a.unread e
  where
    first : (unread : List Place) → slice_get unread 0 ≡ Some place →
        first_call unread (first_call b.unread None) ≡ Some place
    first [] e = absurd cc
    first (p ∷ ps) e = e

pub unread-second : (a b : Trip) (place : Place) → a.unread ≡ [] → slice_get b.unread 0 ≡ Some place →
    first_unread (a ∷ b ∷ []) ≡ Some place
unread-second a b place none e =
    ap (λ unread. first_call unread (first_call b.unread None)) none ∙ first b.unread e
  where
    first : (unread : List Place) → slice_get unread 0 ≡ Some place → first_call unread None ≡ Some place
    first [] e = absurd cc
    first (p ∷ ps) e = e

long-first : (a b : Trip) (steps : ℕ) → MAX_WAY_STEPS < a.steps → steps ≡ counted a.steps →
    first_long (a ∷ b ∷ []) ≡ Some steps
long-first a b steps long count =
    ap (λ l. long_or l a.steps (long_or (nat_lt MAX_WAY_STEPS b.steps) b.steps None))
    (lt-ltb MAX_WAY_STEPS a.steps long)
    ∙ ap (λ (n : ℕ). Some n) (sym count)

long-second : (a b : Trip) (steps : ℕ) → a.steps ≤ MAX_WAY_STEPS → MAX_WAY_STEPS < b.steps →
    steps ≡ counted b.steps → first_long (a ∷ b ∷ []) ≡ Some steps
long-second a b steps short long count =
    ap (λ l. long_or l a.steps (long_or (nat_lt MAX_WAY_STEPS b.steps) b.steps None))
    (le-ltb MAX_WAY_STEPS a.steps short)
    ∙ ap (λ l. long_or l b.steps None) (lt-ltb MAX_WAY_STEPS b.steps long)
    ∙ ap (λ (n : ℕ). Some n) (sym count)

-- ---- by what both ways are

pub both-long-first : (a b : Trip) (steps : ℕ) → IsLong a steps → b.unread ≡ [] → IsWayPair a b (code.Long steps)
both-long-first a b steps is read = (none_unread a b is.read read, long-first a b steps is.long is.count)

pub both-long-second : (a b : Trip) (steps : ℕ) → a.unread ≡ [] → a.steps ≤ MAX_WAY_STEPS → IsLong b steps →
    IsWayPair a b (code.Long steps)
both-long-second a b steps read short is =
    (none_unread a b read is.read, long-second a b steps short is.long is.count)

-- ---- what is said

abbrev by_calls : Core → Pair → ℕ → ℕ → Trip → Trip → Option Place → Said
by_calls core w t u a b o = elim o [ None ↦ said_by_length core w t u a b | Some place ↦ Unread place ]

abbrev by_long : Core → Pair → ℕ → ℕ → Trip → Trip → Option ℕ → Said
by_long core w t u a b o =
    elim o [
      | None ↦ mark_by_run core (leg_along t a ∷ leg_along u b ∷ []) (begun core w.m1 w.m2 All)
      | Some steps ↦ Long steps
    ]

pub said-unread : (core : Core) (w : Pair) (t u : ℕ) (a b : Trip) (place : Place) →
    first_unread (a ∷ b ∷ []) ≡ Some place → Unread place ≡ said_of core w t u a b
said-unread core w t u a b place e = sym (ap (by_calls core w t u a b) e)

pub said-long : (core : Core) (w : Pair) (t u : ℕ) (a b : Trip) (steps : ℕ) → first_unread (a ∷ b ∷ []) ≡ None →
    first_long (a ∷ b ∷ []) ≡ Some steps → Long steps ≡ said_of core w t u a b
said-long core w t u a b steps none e =
    sym (ap (by_calls core w t u a b) none ∙ ap (by_long core w t u a b) e)

same-leg : (t : ℕ) (trip : Trip) (leg : Leg) → leg.thread ≡ t → leg.turns ≡ trip.turns → leg.steps ≡ trip.steps →
    leg ≡ leg_along t trip
same-leg t trip leg x y z = (λ i. let made : Leg = record { thread = x i; turns = y i; steps = z i } in made)

abbrev IsLegOf : ℕ → Trip → Leg → Type 0
IsLegOf t trip leg = (leg.thread ≡ t) × (leg.turns ≡ trip.turns) × (leg.steps ≡ trip.steps)

pub said-taken : (core : Core) (w : Pair) (t u : ℕ) (a b : Trip) (f g : Leg) → a.unread ≡ [] → b.unread ≡ [] →
    a.steps ≤ MAX_WAY_STEPS → b.steps ≤ MAX_WAY_STEPS → IsLegOf t a f → IsLegOf u b g →
    mark_by_run core (f ∷ g ∷ []) (begun core w.m1 w.m2 All) ≡ said_of core w t u a b
said-taken core w t u a b f g ra rb sa sb x y =
    (λ i. mark_by_run core (same-leg t a f x.0 x.1 x.2 i ∷ same-leg u b g y.0 y.1 y.2 i ∷ [])
    (begun core w.m1 w.m2 All))
    ∙ sym (ap (by_calls core w t u a b) (none_unread a b ra rb) ∙ ap (by_long core w t u a b) (none_long a b sa sb))

-- ---- in running order

abbrev said_in_order : Core → Pair → Bool → Said
said_in_order core w b =
    let one : Trip = way_of core w.m1 w.i in
    let other : Trip = way_of core w.m2 w.j in
    elim (first_unread (cond b (other ∷ one ∷ []) (one ∷ other ∷ []))) [
      | None ↦ elim (first_long (cond b (other ∷ one ∷ []) (one ∷ other ∷ []))) [
        | None ↦ mark_by_run core
            (cond b (leg_along 1 other ∷ leg_along 0 one ∷ []) (leg_along 0 one ∷ leg_along 1 other ∷ []))
            (begun core w.m1 w.m2 All)
        | Some steps ↦ Long steps
      ]
      | Some at ↦ Unread at
    ]

pub said-locked : (core : Core) (w : Pair) → is_locked core w.m1 w.i ≡ true →
    said_of core w 1 0 (way_of core w.m2 w.j) (way_of core w.m1 w.i) ≡ mark_by_calls core w
said-locked core w e = sym (ap (said_in_order core w) e)

pub said-unlocked : (core : Core) (w : Pair) → is_locked core w.m1 w.i ≡ false →
    said_of core w 0 1 (way_of core w.m1 w.i) (way_of core w.m2 w.j) ≡ mark_by_calls core w
said-unlocked core w e = sym (ap (said_in_order core w) e)
