-- The witness of a confirmed warning is within the limits that the type of a witness file keeps.
use Rattle.std.proofs.Common.{◌≡◌, ◌≤◌, ◌<◌, ℕ, ◌+◌, ◌*◌, Bool, true, false, cond, List, [], ◌∷◌, Option, None}
use Rattle.std.proofs.Common.{Some, length, length-append, map, nat_lt, refl, sym, ap, subst, ◌∙◌, arith}
use Rattle.std.proofs.lemmas.Bool.{ltb-false}
use Rattle.std.proofs.lemmas.List.{length-map}
use Rattle.racer_base.specs.declared.ids.Place.{Place}
use Rattle.racer_base.specs.declared.limits.TheConstants.{MAX_WAY_STEPS}
use Rattle.access_domain.specs.declared.access.Access.{Access}
use Rattle.access_domain.specs.Records.{firsts}
use Rattle.access_domain.specs.OutcomeRecords.{record_at}
use Rattle.access_paths.specs.declared.path.Path.{Path}
use Rattle.access_paths.specs.Paths.{is_some_root}
use Rattle.core_code.specs.Core.{Core, Method}
use Rattle.core_semantics.specs.declared.object.Start.TheVariants.{All}
use Rattle.core_semantics.specs.declared.object.StartPath.{StartPath}
use Rattle.core_semantics.specs.Legs.{Leg, Ran, Came, Halted, runs}
use Rattle.core_semantics.specs.Objects.{same_start_path}
use Rattle.core_semantics.specs.Runs.{begun}
use Rattle.core_semantics.specs.State.{State}
use Rattle.core_ways.specs.Answers.{counted}
use Rattle.core_ways.specs.Marks.{Pair, Said, Unnamed, Unstable, Unread, Long, Confirmed, first_long, first_unread}
use Rattle.core_ways.specs.Marks.{is_locked, leg_along, legs_of, mark_by_calls, mark_by_length, mark_by_run, mark_of}
use Rattle.core_ways.specs.Marks.{objects_of, reads, reads_of_legs, ways_in_order}
use Rattle.core_ways.specs.Stable.{unstable_prefix}
use Rattle.core_ways.specs.Ways.{Trip, way_of}
use Rattle.core_ways.proofs.Gathering.{gathered-count, gathered-firsts}
use Rattle.race_pairs.specs.declared.warning.Warning.{Warning}
use Rattle.race_report_parts.specs.Marks.{start_text}
use Rattle.race_report_parts.specs.WitnessFiles.{file_named}
use Rattle.witness_build_laws.specs.Warned.{pair_of, warning_mark}
use Rattle.witness_build_laws.proofs.MarkParts.{IsConfirmedBy, mark-parts}
use Rattle.witness_build.proofs.FewTurns.{few-way}
use Rattle.witness_build_apart_laws.proofs.LegEnds.{leg-count, run-reads}
use Rattle.witness_text_files.proofs.ReadBack.{IsLeg, IsWithin}

-- ---- the parts of a confirmed mark

-- no way is too long; the legs go along the ways, and the objects are what they read
pub record IsShortRun (core : Core) (w : Pair) (objects : List StartPath) (legs : List Leg) : Type 0 where
  pub short : first_long (ways_in_order core w) ≡ None
  pub along : legs ≡ legs_of core w
  pub read : objects ≡ objects_of core (legs_of core w) (begun core w.m1 w.m2 All)

module _ (core : Core) (w : Pair) (objects : List StartPath) (legs : List Leg) where
  by-length : (o : Option ℕ) → (elim o as (λ _. Said) [
    | None ↦ mark_by_run core (legs_of core w) (begun core w.m1 w.m2 All)
    | Some steps ↦ Long steps
  ]) ≡ Confirmed objects legs → o ≡ None
  by-length None is = refl
  by-length (Some steps) is = absurd cc

  by-calls : (o : Option Place) → (elim o as (λ _. Said) [ None ↦ mark_by_length core w | Some at ↦ Unread at ]) ≡
      Confirmed objects legs → first_long (ways_in_order core w) ≡ None
  by-calls None is = by-length (first_long (ways_in_order core w)) is
  by-calls (Some at) is = absurd cc

  by-prefix : (o : Option Path) → (elim o as (λ _. Said) [ None ↦ mark_by_calls core w | Some q ↦ Unstable q ]) ≡
      Confirmed objects legs → first_long (ways_in_order core w) ≡ None
  by-prefix None is = by-calls (first_unread (ways_in_order core w)) is
  by-prefix (Some q) is = absurd cc

  by-root : (p : Path) (b : Bool) → cond b Unnamed (elim (unstable_prefix core w.m1 w.m2 p) as (λ _. Said) [
    | None ↦ mark_by_calls core w
    | Some q ↦ Unstable q
  ]) ≡ Confirmed objects legs → first_long (ways_in_order core w) ≡ None
  by-root p true is = absurd cc
  by-root p false is = by-prefix (unstable_prefix core w.m1 w.m2 p) is

  pub by-record : (o : Option Access) → (elim o as (λ _. Said) [ None ↦ Unnamed | Some r ↦ mark_of core w r.path ]) ≡
      Confirmed objects legs → IsShortRun core w objects legs
  by-record None is = absurd cc
  by-record (Some r) is =
      let parts : IsConfirmedBy core w r.path objects legs = mark-parts core w r.path legs objects is in
      record { short = by-root r.path (is_some_root r.path.root) is; along = parts.legs; read = parts.objects }

-- ---- legs

at-most : (trip : Trip) (trips : List Trip) → first_long (trip ∷ trips) ≡ None →
    (trip.steps ≤ MAX_WAY_STEPS) × (first_long trips ≡ None)
at-most trip trips none = by (nat_lt MAX_WAY_STEPS trip.steps) refl none
  where
    by : (b : Bool) → nat_lt MAX_WAY_STEPS trip.steps ≡ b →
        cond b (Some (counted trip.steps)) (first_long trips) ≡ None →
        (trip.steps ≤ MAX_WAY_STEPS) × (first_long trips ≡ None)
    by true e h = absurd cc
    by false e h = (ltb-false MAX_WAY_STEPS trip.steps e, h)

leg-within : (core : Core) (t : ℕ) (trip : Trip) → t < 2 → length trip.turns ≤ trip.steps →
    trip.steps ≤ MAX_WAY_STEPS → IsLeg (leg_along t trip)
leg-within core t trip thread few short =
    record { thread = thread; turns = omega (arith, few, short); steps = short }

-- two legs of a file
pub record AreLegs (a b : Leg) : Type 0 where
  pub first : IsLeg a
  pub second : IsLeg b
  pub threads : a.thread + b.thread ≡ 1

abbrev first-leg : List Leg → Leg → Leg
first-leg [] d = d
first-leg (a ∷ legs) d = a

abbrev last-legs : List Leg → List Leg
last-legs [] = []
last-legs (a ∷ legs) = legs

legs-along : (core : Core) (x y : Trip) (t u : ℕ) (a b : Leg) → t + u ≡ 1 → length x.turns ≤ x.steps →
    length y.turns ≤ y.steps → first_long (x ∷ y ∷ []) ≡ None → a ∷ b ∷ [] ≡ leg_along t x ∷ leg_along u y ∷ [] →
    AreLegs a b
legs-along core x y t u a b threads few_x few_y short is =
    let long_x = at-most x (y ∷ []) short in
    let long_y = at-most y [] long_x.1 in
    let first : leg_along t x ≡ a = sym (ap (λ ls. first-leg ls a) is) in
    let second : leg_along u y ≡ b = sym (ap (λ ls. first-leg (last-legs ls) b) is) in
    let one : t < 2 = omega (arith, threads) in
    let other : u < 2 = omega (arith, threads) in
    record {
      first = subst IsLeg first (leg-within core t x one few_x long_x.0);
      second = subst IsLeg second (leg-within core u y other few_y long_y.0);
      threads = (λ i. (sym first i).thread + (sym second i).thread) ∙ threads;
    }

pub confirmed-legs : (core : Core) (w : Pair) (objects : List StartPath) (a b : Leg) →
    IsShortRun core w objects (a ∷ b ∷ []) → AreLegs a b
confirmed-legs core w objects a b run =
    by (is_locked core w.m1 w.i) run.short run.along
  where
    one : Trip
    one = way_of core w.m1 w.i

    other : Trip
    other = way_of core w.m2 w.j

    by : (locked : Bool) → first_long (cond locked (other ∷ one ∷ []) (one ∷ other ∷ [])) ≡ None →
        a ∷ b ∷ [] ≡ cond locked (leg_along 1 other ∷ leg_along 0 one ∷ []) (leg_along 0 one ∷ leg_along 1 other ∷ []) →
        AreLegs a b
    by true short is =
        legs-along core other one 1 0 a b refl (few-way core w.m2 w.j) (few-way core w.m1 w.i) short is
    by false short is =
        legs-along core one other 0 1 a b refl (few-way core w.m1 w.i) (few-way core w.m2 w.j) short is

-- ---- objects

reads-few : (core : Core) (leg : Leg) (s : State) → length (reads core leg.thread leg.steps leg.turns s) ≤ leg.steps
reads-few core leg s =
    subst (λ (ps : List StartPath). length ps ≤ leg.steps) (sym (run-reads core leg.thread leg.steps leg.turns s))
    (leg-count core leg.thread leg.steps leg.turns s)

behind-few : (core : Core) (legs : List Leg) (n : ℕ) (r : Ran) →
    ((s : State) → length (reads_of_legs core legs s) ≤ n) →
    length (elim r as (λ _. List StartPath) [
      | Came to left ↦ reads_of_legs core legs to
      | Halted halt at steps ↦ []
    ]) ≤ n
behind-few core legs n (Came to left) few = few to
behind-few core legs n (Halted halt at steps) few = omega arith

one-few : (core : Core) (leg : Leg) (legs : List Leg) (n : ℕ) (s : State) →
    ((to : State) → length (reads_of_legs core legs to) ≤ n) →
    length (reads_of_legs core (leg ∷ legs) s) ≤ leg.steps + n
one-few core leg legs n s few =
    let first = reads-few core leg s in
    let rest = behind-few core legs n (runs core leg.thread leg.steps leg.turns s) few in
    let both = length-append (reads core leg.thread leg.steps leg.turns s)
    (elim (runs core leg.thread leg.steps leg.turns s) as (λ _. List StartPath) [
      | Came to left ↦ reads_of_legs core legs to
      | Halted halt at steps ↦ []
    ]) in
    omega (arith, first, rest, both)

firsts-few : (xs : List StartPath) → length (firsts same_start_path xs) ≤ length xs
firsts-few xs =
    let none : length (firsts same_start_path []) ≡ 0 = refl in
    let count = gathered-count (firsts same_start_path []) xs in
    let same = ap (λ (ps : List StartPath). length ps) (gathered-firsts [] xs) in
    omega (arith, none, count, same)

objects-few : (core : Core) (a b : Leg) (s : State) → AreLegs a b →
    length (objects_of core (a ∷ b ∷ []) s) ≤ MAX_WAY_STEPS * 2
objects-few core a b s are =
    let last = λ (to : State). one-few core b [] 0 to (λ end. omega arith) in
    let all = one-few core a (b ∷ []) (b.steps + 0) s last in
    let first = firsts-few (reads_of_legs core (a ∷ b ∷ []) s) in
    let short : a.steps ≤ MAX_WAY_STEPS = are.first.steps in
    let short_too : b.steps ≤ MAX_WAY_STEPS = are.second.steps in
    omega (arith, all, first, short, short_too)

-- the file of a witness of a confirmed warning
pub witness-within : (core : Core) (w : Warning) (f g : Method) (path : List ℕ) (objects : List StartPath)
    (a b : Leg) → warning_mark core w ≡ Confirmed objects (a ∷ b ∷ []) →
    IsWithin (file_named core f g path (map (start_text core) objects) a b)
witness-within core w f g path objects a b confirmed =
    let run = by-record core (pair_of w) objects (a ∷ b ∷ []) (record_at core w.entry w.access) confirmed in
    let legs = confirmed-legs core (pair_of w) objects a b run in
    let start = begun core w.entry w.partner All in
    let few : length objects ≤ MAX_WAY_STEPS * 2 =
    subst (λ (ps : List StartPath). length ps ≤ MAX_WAY_STEPS * 2)
    (sym (run.read ∙ ap (λ (ls : List Leg). objects_of core ls start) (sym run.along)))
    (objects-few core a b start legs) in
    record {
      first = legs.first;
      second = legs.second;
      threads = legs.threads;
      objects = subst (λ (n : ℕ). n ≤ MAX_WAY_STEPS * 2) (sym (length-map objects (start_text core))) few;
    }
