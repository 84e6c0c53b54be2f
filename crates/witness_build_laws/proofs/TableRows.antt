-- Which rows of the table of marks stand for which runs.
use Rattle.std.proofs.Common.{◌≡◌, ℕ, ◌≤◌, Bool, true, false, cond, ◌⊎◌, ⊎_elim, inl, inr, List, [], ◌∷◌, Option, None}
use Rattle.std.proofs.Common.{Some, is_some, nat_lt, refl, sym, ap, subst, ◌∙◌}
use Rattle.std.proofs.lemmas.Bool.{ltb-false}
use Rattle.std.specs.List.{Contains}
use Rattle.std.specs.Option.{option_and_then}
use Rattle.racer_base.specs.declared.ids.MethodId.{MethodId}
use Rattle.racer_base.specs.declared.ids.Place.{Place}
use Rattle.racer_base.specs.declared.limits.TheConstants.{MAX_WAY_STEPS}
use Rattle.racer_base.proofs.Tests.{and_second}
use Rattle.access_paths.specs.declared.path.Path.{Path}
use Rattle.access_paths.specs.Paths.{is_some_root}
use Rattle.access_domain.specs.declared.access.Access.{Access}
use Rattle.access_domain.specs.OutcomeRecords.{record_at}
use Rattle.core_code.specs.declared.program.Program.{Program}
use Rattle.core_code.specs.Core.{Core, Method}
use Rattle.core_code.specs.Program.{core as core_of}
use Rattle.core_semantics.specs.declared.answer.Turn.{Turn}
use Rattle.core_semantics.specs.declared.object.StartPath.{StartPath}
use Rattle.core_semantics.specs.Legs.{Halt, Leg, Ran, Came, Halted, run, runs, whole}
use Rattle.core_semantics.specs.Runs.{given_to}
use Rattle.core_semantics.specs.State.{State, Thread}
use Rattle.core_ways.specs.Marks.{IsWhole, Pair, Said, Unnamed, Unstable, Unread, Long, Blocked, Confirmed}
use Rattle.core_ways.specs.Marks.{first_halt, first_long, first_unread, is_locked, leg_along, legs_of}
use Rattle.core_ways.specs.Marks.{mark_by_calls, mark_by_length, mark_by_run, mark_of, objects_of, ways_in_order}
use Rattle.core_ways.specs.Answers.{counted}
use Rattle.core_ways.specs.Stable.{IsStable, unstable_prefix}
use Rattle.core_ways.specs.Ways.{Trip, way_of}
use Rattle.race_pairs.specs.declared.warning.Warning.{Warning}
use Rattle.race_pairs.specs.Pairs.{IsPair}
use Rattle.race_pairs.specs.Warnings.{warnings}
use Rattle.race_pairs.proofs.WarningPairs.{warning_is_pair}
use Rattle.core_ways_laws.specs.Ends.{EndsAtAccess, IsAtAccess}
use Rattle.core_ways_laws.proofs.WayEnds.{way-ends}
use Rattle.witness_build_laws.specs.Table.{IsBlocked, IsStopped}
use Rattle.witness_build_laws.specs.Warned.{pair_of, warning_mark}
use Rattle.witness_build_laws.proofs.ConfirmedRun.{Conflict, conflict-parts, first-entered, full, lasting, legs_by}
use Rattle.witness_build_laws.proofs.ConfirmedRun.{locked-is, mark_by, second-entered}
use Rattle.witness_build_laws.proofs.LegPairs.{unlocked-free}
use Rattle.witness_build_laws.proofs.MarkParts.{by_halt, halt_in, start}
use Rattle.witness_build_laws.proofs.StuckPlaces.{stuck-place}
use Rattle.witness_build_laws.proofs.WitnessRuns.{EndsFrom, two_legs}
use Rattle.witness_build_laws.proofs.WholeWarnings.{said-made}

-- ---- two legs, one after the other

abbrev pub halt : ℕ → Option Place → Option (ℕ × Option Place)
halt t o = Some (t, o)

-- these legs are run as far as they can be: all are made, or one is stuck
pub record AreMade (core : Core) (legs : List Leg) (s : State) : Type 0 where
  pub end : State
  pub runs : run core legs s ≡ Some end
  pub none : first_halt core legs s ≡ None

pub record DoStop (core : Core) (legs : List Leg) (s : State) : Type 0 where
  pub t : ℕ
  pub at : Place
  pub stopped : IsStopped core legs s t at
  pub halted : first_halt core legs s ≡ halt t (Some at)

abbrev pub Ends : Core → List Leg → State → Type 0
Ends core legs s = AreMade core legs s ⊎ DoStop core legs s

module _ (core : Core) (t u : ℕ) (m n : MethodId) (i j : ℕ) (a b : Access) (f g : Method) (s : State) where
  abbrev first : Leg
  first = leg_along t (way_of core m i)

  abbrev second : Leg
  second = leg_along u (way_of core n j)

  abbrev legs : List Leg
  legs = two_legs core t u m n i j

  first-breaks : (why_halt : Halt) (at : State) (steps : ℕ) →
      runs core t first.steps first.turns s ≡ Halted why_halt at steps →
      EndsAtAccess core m i a (given_to t f) s t (Halted why_halt at steps) → Ends core legs s
  first-breaks why_halt at steps is (why, same) =
      let breaks = is ∙ ap (λ (h : Halt). Halted h at steps) same in
      let placed = stuck-place core t first.steps first.turns s why at steps breaks in
      inr (record {
        t = t;
        at = placed.0;
        stopped = record {
          before = [];
          leg = first;
          behind = second ∷ [];
          are = refl;
          from = s;
          comes = refl;
          thread = refl;
          stuck = record { why = why; stop = at; steps = steps; breaks = breaks; place = placed.1 };
        };
        halted = ap (halt_in core t (second ∷ [])) is ∙ ap (halt t) placed.1;
      })

  module _ (to : State) (came : runs core t first.steps first.turns s ≡ Came to []) where
    comes : run core (first ∷ []) s ≡ Some to
    comes = ap (λ (r : Ran). option_and_then (run core []) (whole r)) came

    second-breaks : (why_halt : Halt) (at : State) (steps : ℕ) →
        runs core u second.steps second.turns to ≡ Halted why_halt at steps →
        EndsAtAccess core n j b (given_to u g) to u (Halted why_halt at steps) → Ends core legs s
    second-breaks why_halt at steps is (why, same) =
        let breaks = is ∙ ap (λ (h : Halt). Halted h at steps) same in
        let placed = stuck-place core u second.steps second.turns to why at steps breaks in
        inr (record {
          t = u;
          at = placed.0;
          stopped = record {
            before = first ∷ [];
            leg = second;
            behind = [];
            are = refl;
            from = to;
            comes = comes;
            thread = refl;
            stuck = record { why = why; stop = at; steps = steps; breaks = breaks; place = placed.1 };
          };
          halted =
              ap (halt_in core t (second ∷ [])) came ∙ ap (halt_in core u []) is ∙ ap (halt u) placed.1;
        })

    second-comes : (end : State) (left : List Turn) → runs core u second.steps second.turns to ≡ Came end left →
        left ≡ [] → Ends core legs s
    second-comes end left is none =
        let all : runs core u second.steps second.turns to ≡ Came end [] =
        is ∙ ap (λ (ts : List Turn). Came end ts) none in
        inl (record {
          end = end;
          runs =
              ap (λ (r : Ran). option_and_then (run core (second ∷ [])) (whole r)) came
              ∙ ap (λ (r : Ran). option_and_then (run core []) (whole r)) all;
          none = ap (halt_in core t (second ∷ [])) came ∙ ap (halt_in core u []) is;
        })

    second-ends : (r : Ran) → runs core u second.steps second.turns to ≡ r →
        EndsAtAccess core n j b (given_to u g) to u r → Ends core legs s
    second-ends (Came end left) is ends = second-comes end left is ends.0
    second-ends (Halted why_halt at steps) is ends = second-breaks why_halt at steps is ends

  both-end : EndsFrom core t m i a f s →
      ((to : State) → IsAtAccess core m i a (given_to t f) s t to → EndsFrom core u n j b g to) →
      (r : Ran) → runs core t first.steps first.turns s ≡ r → EndsAtAccess core m i a (given_to t f) s t r →
      Ends core legs s
  both-end one other (Halted why_halt at steps) is ends = first-breaks why_halt at steps is ends
  both-end one other (Came to left) is ends =
      second-ends to (is ∙ ap (λ (ts : List Turn). Came to ts) ends.0)
      (runs core u second.steps second.turns to) refl (other to ends.1)

-- ---- the legs of a warning, in running order

-- where they end, by whether the entry's record is locked
by-order : (p : Program) (w : Warning) (pair : IsPair (core_of p) w) (locked : Bool) → pair.first.locked ≡ locked →
    Ends (core_of p) (legs_by (core_of p) w locked) (full (core_of p) w)
by-order p w pair locked is =
    let core : Core = core_of p in
    let a : Access = pair.first in
    let b : Access = pair.partner in
    let f : Method = pair.of_entry.method in
    let g : Method = pair.of_partner.method in
    let of_a : record_at core w.entry w.access ≡ Some a = pair.of_entry.has in
    let of_b : record_at core w.partner w.partner_access ≡ Some b =
    pair.of_partner.has in
    let conflict : Conflict a b = conflict-parts a b pair.conflict in
    let s : State = full core w in
    let zero_in = first-entered core w f pair.of_entry.is in
    let one_in = second-entered core w g pair.of_partner.is in
    let zero_free = ap (λ (x : Thread). x.locks) zero_in in
    let one_free = ap (λ (x : Thread). x.locks) one_in in
    elim locked as (λ l. a.locked ≡ l → Ends core (legs_by core w l) s) [
      | true ↦ λ e.
          let ends : EndsFrom core 1 w.partner w.partner_access b g s =
          way-ends p w.partner g w.partner_access b (given_to 1 g) s 1 pair.of_partner.is of_b one_in zero_free in
          both-end core 1 0 w.partner w.entry w.partner_access w.access b a g f s ends
          (λ to at. way-ends p w.entry f w.access a (given_to 0 f) to 0 pair.of_entry.is of_a (at.other ∙ zero_in)
          (unlocked-free core w.partner w.partner_access b (given_to 1 g) s 1 to at
          (and_second a.locked b.locked e conflict.locks)))
          (runs core 1 (way_of core w.partner w.partner_access).steps (way_of core w.partner w.partner_access).turns s)
          refl ends
      | false ↦ λ e.
          let ends : EndsFrom core 0 w.entry w.access a f s =
          way-ends p w.entry f w.access a (given_to 0 f) s 0 pair.of_entry.is of_a zero_in one_free in
          both-end core 0 1 w.entry w.partner w.access w.partner_access a b f g s ends
          (λ to at. way-ends p w.partner g w.partner_access b (given_to 1 g) to 1 pair.of_partner.is of_b
          (at.other ∙ one_in) (unlocked-free core w.entry w.access a (given_to 0 f) s 0 to at e))
          (runs core 0 (way_of core w.entry w.access).steps (way_of core w.entry w.access).turns s) refl ends
    ] is

pub legs-end : (p : Program) (w : Warning) → IsPair (core_of p) w →
    Ends (core_of p) (legs_of (core_of p) (pair_of w)) (full (core_of p) w)
legs-end p w pair =
    by-order p w pair (is_locked (core_of p) w.entry w.access) (sym (locked-is (core_of p) w pair.first
    pair.of_entry.has))

-- ---- the rows before the last two

-- the rows that are said without a run, but for the first
abbrev is_early : Said → Bool
is_early Unnamed = false
is_early (Unstable before) = true
is_early (Unread at) = true
is_early (Long steps) = true
is_early (Blocked t at) = false
is_early (Confirmed objects given) = false

-- no row before the last two applies, so the run says the mark
pub record IsByRun (core : Core) (w : Pair) (p : Path) (said : Said) : Type 0 where
  pub stable : unstable_prefix core w.m1 w.m2 p ≡ None
  pub read : first_unread (ways_in_order core w) ≡ None
  pub short : first_long (ways_in_order core w) ≡ None
  pub is : mark_by_run core (legs_of core w) (start core w) ≡ said

is-not : (early said : Said) → is_early early ≡ true → is_early said ≡ false → early ≡ said → ⊥
is-not early said soon late is = let wrong : true ≡ false = sym soon ∙ ap is_early is ∙ late in absurd cc

module _ (core : Core) (w : Pair) (p : Path) (said : Said) (late : is_early said ≡ false) where
  by-length : unstable_prefix core w.m1 w.m2 p ≡ None → first_unread (ways_in_order core w) ≡ None →
      (o : Option ℕ) → first_long (ways_in_order core w) ≡ o →
      (elim o as (λ _. Said) [ None ↦ mark_by_run core (legs_of core w) (start core w) | Some steps ↦ Long steps ])
      ≡ said → IsByRun core w p said
  by-length stable read None short is = record { stable = stable; read = read; short = short; is = is }
  by-length stable read (Some steps) short is = absurd (is-not (Long steps) said refl late is)

  by-calls : unstable_prefix core w.m1 w.m2 p ≡ None → (o : Option Place) →
      first_unread (ways_in_order core w) ≡ o →
      (elim o as (λ _. Said) [ None ↦ mark_by_length core w | Some at ↦ Unread at ]) ≡ said → IsByRun core w p said
  by-calls stable None read is = by-length stable read (first_long (ways_in_order core w)) refl is
  by-calls stable (Some at) read is = absurd (is-not (Unread at) said refl late is)

  by-prefix : (o : Option Path) → unstable_prefix core w.m1 w.m2 p ≡ o →
      (elim o as (λ _. Said) [ None ↦ mark_by_calls core w | Some q ↦ Unstable q ]) ≡ said → IsByRun core w p said
  by-prefix None stable is = by-calls stable (first_unread (ways_in_order core w)) refl is
  by-prefix (Some q) stable is = absurd (is-not (Unstable q) said refl late is)

  -- the first row applies, or the run says the mark
  by-root : (b : Bool) → is_some_root p.root ≡ b →
      cond b Unnamed (elim (unstable_prefix core w.m1 w.m2 p) as (λ _. Said) [
        | None ↦ mark_by_calls core w
        | Some q ↦ Unstable q
      ]) ≡ said → ((is_some_root p.root ≡ true) × (Unnamed ≡ said))
      ⊎ ((is_some_root p.root ≡ false) × IsByRun core w p said)
  by-root true root is = inl (root, is)
  by-root false root is = inr (root, by-prefix (unstable_prefix core w.m1 w.m2 p) refl is)

-- ---- the rows of a run

pub said-stopped : (core : Core) (legs : List Leg) (s : State) (t : ℕ) (at : Place) →
    first_halt core legs s ≡ halt t (Some at) → mark_by_run core legs s ≡ Blocked t at
said-stopped core legs s t at is = ap (by_halt core legs s) is

-- a run that says that a thread is blocked is stopped there
blocked-run : (core : Core) (legs : List Leg) (s : State) (t : ℕ) (at : Place) → Ends core legs s →
    mark_by_run core legs s ≡ Blocked t at → IsStopped core legs s t at
blocked-run core legs s t at ends is =
    ⊎_elim
    (λ (made : AreMade core legs s).
    let wrong : Confirmed (objects_of core legs s) legs ≡ Blocked t at = sym (said-made core legs s made.none) ∙ is in
    absurd cc)
    (λ (stop : DoStop core legs s).
    let same : Blocked stop.t stop.at ≡ Blocked t at = sym (said-stopped core legs s stop.t stop.at stop.halted) ∙ is in
    let thread : stop.t ≡ t = cc in
    let place : stop.at ≡ at = cc in
    subst (λ (x : ℕ). IsStopped core legs s x at) thread
    (subst (λ (x : Place). IsStopped core legs s stop.t x) place stop.stopped))
    ends

unnamed-run : (core : Core) (legs : List Leg) (s : State) → Ends core legs s → mark_by_run core legs s ≡ Unnamed → ⊥
unnamed-run core legs s ends is =
    ⊎_elim
    (λ (made : AreMade core legs s).
    let wrong : Confirmed (objects_of core legs s) legs ≡ Unnamed = sym (said-made core legs s made.none) ∙ is in
    absurd cc)
    (λ (stop : DoStop core legs s).
    let wrong : Blocked stop.t stop.at ≡ Unnamed = sym (said-stopped core legs s stop.t stop.at stop.halted) ∙ is in
    absurd cc)
    ends

not-stopped : (t : ℕ) (at : Place) (objects : List StartPath) (given : List Leg) →
    Blocked t at ≡ Confirmed objects given → ⊥
not-stopped t at objects given is = absurd cc

confirmed-run : (core : Core) (legs given : List Leg) (s : State) (objects : List StartPath) → Ends core legs s →
    mark_by_run core legs s ≡ Confirmed objects given → is_some (run core legs s) ≡ true
confirmed-run core legs given s objects ends is =
    ⊎_elim
    (λ (made : AreMade core legs s). ap is_some made.runs)
    (λ (stop : DoStop core legs s).
    absurd {A = is_some (run core legs s) ≡ true} (not-stopped stop.t stop.at objects given
    (sym (said-stopped core legs s stop.t stop.at stop.halted) ∙ is)))
    ends

-- ---- ways that are whole

no-call : (unread : List Place) (rest : Option Place) →
    (elim unread as (λ _. Option Place) [ [] ↦ rest | ◌∷◌ at others ↦ Some at ]) ≡ None →
    (unread ≡ []) × (rest ≡ None)
no-call [] rest is = (refl, is)
no-call (at ∷ others) rest is = absurd cc

no-calls : (a b : Trip) → first_unread (a ∷ b ∷ []) ≡ None → (a.unread ≡ []) × (b.unread ≡ [])
no-calls a b is =
    let one = no-call a.unread (first_unread (b ∷ [])) is in
    (one.0, (no-call b.unread None one.1).0)

not-long : (trip : Trip) (rest : Option ℕ) (b : Bool) → nat_lt MAX_WAY_STEPS trip.steps ≡ b →
    cond b (Some (counted trip.steps)) rest ≡ None → (trip.steps ≤ MAX_WAY_STEPS) × (rest ≡ None)
not-long trip rest true long is = absurd cc
not-long trip rest false long is = (ltb-false MAX_WAY_STEPS trip.steps long, is)

none-long : (a b : Trip) → first_long (a ∷ b ∷ []) ≡ None →
    (a.steps ≤ MAX_WAY_STEPS) × (b.steps ≤ MAX_WAY_STEPS)
none-long a b is =
    let one = not-long a (first_long (b ∷ [])) (nat_lt MAX_WAY_STEPS a.steps) refl is in
    (one.0, (not-long b None (nat_lt MAX_WAY_STEPS b.steps) refl one.1).0)

-- what holds of both ways in running order holds of them in either
in-order : (P : Trip → Type 0) (locked : Bool) (a b : Trip) (Q : List Trip → Type 0) →
    ((x y : Trip) → Q (x ∷ y ∷ []) → P x × P y) → Q (cond locked (b ∷ a ∷ []) (a ∷ b ∷ [])) → P a × P b
in-order P true a b Q both is = let pair = both b a is in (pair.1, pair.0)
in-order P false a b Q both is = both a b is

pub whole-ways : (core : Core) (w : Pair) (p : Path) (said : Said) → IsByRun core w p said →
    is_some (run core (legs_of core w) (start core w)) ≡ true → IsWhole core w
whole-ways core w p said by runs_whole =
    let a : Trip = way_of core w.m1 w.i in
    let b : Trip = way_of core w.m2 w.j in
    let locked : Bool = is_locked core w.m1 w.i in
    let read = in-order (λ (x : Trip). x.unread ≡ []) locked a b (λ (ts : List Trip). first_unread ts ≡ None) no-calls
    by.read in
    let short = in-order (λ (x : Trip). x.steps ≤ MAX_WAY_STEPS) locked a b
    (λ (ts : List Trip). first_long ts ≡ None) none-long by.short in
    record {
      read_first = read.0;
      read_second = read.1;
      short_first = short.0;
      short_second = short.1;
      runs = runs_whole;
    }

-- ---- warnings

-- the mark of a warning of the list is that of its first record's path
marked : (core : Core) (w : Warning) (pair : IsPair core w) (said : Said) → warning_mark core w ≡ said →
    mark_of core (pair_of w) pair.first.path ≡ said
marked core w pair said is =
    sym (ap (mark_by core w) pair.of_entry.has) ∙ is

pub blocked-stuck : (p : Program) (w : Warning) (t : ℕ) (at : Place) → Contains (warnings (core_of p)) w →
    warning_mark (core_of p) w ≡ Blocked t at → IsBlocked (core_of p) w t at
blocked-stuck p w t at listed is =
    let core : Core = core_of p in
    let pair : IsPair core w = warning_is_pair core w listed in
    let path : Path = pair.first.path in
    ⊎_elim
    (λ (early : (is_some_root path.root ≡ true) × (Unnamed ≡ Blocked t at)).
    let wrong : Unnamed ≡ Blocked t at = early.1 in absurd cc)
    (λ (by : (is_some_root path.root ≡ false) × IsByRun core (pair_of w) path (Blocked t at)).
    blocked-run core (legs_of core (pair_of w)) (full core w) t at (legs-end p w pair) by.1.is)
    (by-root core (pair_of w) path (Blocked t at) refl (is_some_root path.root) refl
    (marked core w pair (Blocked t at) is))

pub same-record : (core : Core) (w : Warning) (pair : IsPair core w) (r : Access) →
    record_at core w.entry w.access ≡ Some r → pair.first ≡ r
same-record core w pair r is =
    let both : Some pair.first ≡ Some r =
    sym pair.of_entry.has ∙ is in cc

pub unnamed-some : (p : Program) (w : Warning) (r : Access) → Contains (warnings (core_of p)) w →
    record_at (core_of p) w.entry w.access ≡ Some r → warning_mark (core_of p) w ≡ Unnamed →
    is_some_root r.path.root ≡ true
unnamed-some p w r listed at is =
    let core : Core = core_of p in
    let pair : IsPair core w = warning_is_pair core w listed in
    let path : Path = pair.first.path in
    subst (λ (x : Access). is_some_root x.path.root ≡ true) (same-record core w pair r at) (⊎_elim
    (λ (early : (is_some_root path.root ≡ true) × (Unnamed ≡ Unnamed)). early.0)
    (λ (by : (is_some_root path.root ≡ false) × IsByRun core (pair_of w) path Unnamed).
    absurd (unnamed-run core (legs_of core (pair_of w)) (full core w) (legs-end p w pair) by.1.is))
    (by-root core (pair_of w) path Unnamed refl (is_some_root path.root) refl (marked core w pair Unnamed is)))

pub confirmed-whole : (p : Program) (w : Warning) (r : Access) (objects : List StartPath) (legs : List Leg) →
    Contains (warnings (core_of p)) w → record_at (core_of p) w.entry w.access ≡ Some r →
    warning_mark (core_of p) w ≡ Confirmed objects legs →
    IsStable (core_of p) w.entry w.partner r.path × IsWhole (core_of p) (pair_of w)
confirmed-whole p w r objects legs listed at is =
    let core : Core = core_of p in
    let pair : IsPair core w = warning_is_pair core w listed in
    let path : Path = pair.first.path in
    let said : Said = Confirmed objects legs in
    let conflict : Conflict pair.first pair.partner = conflict-parts pair.first pair.partner pair.conflict in
    ⊎_elim
    (λ (early : (is_some_root path.root ≡ true) × (Unnamed ≡ Confirmed objects legs)).
    let wrong : Unnamed ≡ Confirmed objects legs = early.1 in absurd cc)
    (λ (by : (is_some_root path.root ≡ false) × IsByRun core (pair_of w) path (Confirmed objects legs)).
    let stable : IsStable core w.entry w.partner path =
    record { root = lasting path.root by.0 conflict.formal; prefixes = by.1.stable } in (
      subst (λ (x : Access). IsStable core w.entry w.partner x.path) (same-record core w pair r at) stable,
      whole-ways core (pair_of w) path (Confirmed objects legs) by.1
          (confirmed-run core (legs_of core (pair_of w)) legs (full core w) objects (legs-end p w pair) by.1.is),
    ))
    (by-root core (pair_of w) path (Confirmed objects legs) refl (is_some_root path.root) refl
    (marked core w pair (Confirmed objects legs) is))
