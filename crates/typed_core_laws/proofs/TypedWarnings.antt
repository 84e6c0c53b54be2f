-- The two legs of a warning of a typed class are made, so its mark is that of a run that is whole.
use Rattle.std.proofs.Common.{◌≡◌, ℕ, Bool, true, false, cond, List, [], ◌∷◌, None, Some, IsSome, is_some}
use Rattle.std.proofs.Common.{refl, sym, ap, subst, ◌∙◌}
use Rattle.std.specs.List.{Contains}
use Rattle.std.specs.Option.{option_and_then}
use Rattle.std.proofs.lemmas.Bool.{and_from, eq-eqb}
use Rattle.racer_base.specs.declared.ids.ClassId.{ClassId}
use Rattle.racer_base.specs.declared.ids.MethodId.{MethodId}
use Rattle.racer_base.specs.declared.ids.Place.{Place}
use Rattle.racer_base.proofs.Tests.{and_second}
use Rattle.access_paths.specs.declared.path.Path.{Path}
use Rattle.access_domain.specs.declared.access.Access.{Access}
use Rattle.access_domain.specs.OutcomeRecords.{record_at}
use Rattle.core_code.specs.declared.program.Program.{Program}
use Rattle.core_code.specs.Core.{Core, Method}
use Rattle.core_code.specs.Kinds.{same_class}
use Rattle.core_code.specs.Program.{core as core_of}
use Rattle.core_semantics.specs.declared.answer.Turn.{Turn}
use Rattle.core_semantics.specs.declared.answer.Why.{Why}
use Rattle.core_semantics.specs.declared.object.StartPath.{StartPath}
use Rattle.core_semantics.specs.declared.object.Value.{Value}
use Rattle.core_semantics.specs.Legs.{Halt, Leg, Ran, Came, Halted, run, runs, whole}
use Rattle.core_semantics.specs.Runs.{given_to}
use Rattle.core_semantics.specs.State.{State, Thread}
use Rattle.core_semantics_kinds.specs.Kinding.{IsState, RanTo}
use Rattle.core_semantics_kinds.specs.Reached.{Roots, roots_of}
use Rattle.core_semantics_kinds.proofs.KindedRuns.{run-kept}
use Rattle.core_ways.specs.Marks.{IsWhole, Said, Unnamed, Unstable, Unread, Long, Blocked, Confirmed, first_long}
use Rattle.core_ways.specs.Marks.{first_unread, is_locked, leg_along, legs_of, mark_by_run, ways_in_order}
use Rattle.core_ways.specs.Stable.{IsStable}
use Rattle.core_ways.specs.Ways.{Trip, way_of}
use Rattle.core_ways_laws.specs.ClearLegs.{IsUnthrown, is_thrown}
use Rattle.core_ways_laws.specs.Ends.{EndsAtAccess, IsAtAccess}
use Rattle.core_ways_laws.proofs.ClearLegs.{leg-unthrown}
use Rattle.core_ways_laws.proofs.WayEnds.{way-ends}
use Rattle.race_pairs.specs.declared.warning.Warning.{Warning}
use Rattle.race_pairs.specs.Pairs.{IsPair, IsRecord}
use Rattle.race_pairs.specs.Warnings.{warnings}
use Rattle.race_pairs.proofs.WarningPairs.{warning_is_pair}
use Rattle.typed_core.specs.Typings.{is_entry_of}
use Rattle.witness_build_laws.specs.Headline.{IsConfirmed}
use Rattle.witness_build_laws.specs.Table.{IsRow}
use Rattle.witness_build_laws.specs.Warned.{pair_of, warning_mark}
use Rattle.witness_build_laws.proofs.ConfirmedRun.{Conflict, conflict-parts, first-entered, full, legs_by, locked-is}
use Rattle.witness_build_laws.proofs.ConfirmedRun.{second-entered}
use Rattle.witness_build_laws.proofs.ConfirmedWarnings.{confirmed-warnings-race}
use Rattle.witness_build_laws.proofs.LegPairs.{unlocked-free}
use Rattle.witness_build_laws.proofs.RowsOfMarks.{mark-row}
use Rattle.witness_build_laws.proofs.TableRows.{whole-ways}
use Rattle.witness_build_laws.proofs.WholeWarnings.{none_unread, whole_confirmed}
use Rattle.witness_build_laws.proofs.WitnessRuns.{two_legs}
use Rattle.typed_core_laws.specs.Promise.{AreNeverBlocked, AreShort, IsEntry, IsTyped, IsUnblocked}
use Rattle.typed_core_laws.specs.TypedValues.{is_reached, typed_kinds}
use Rattle.typed_core_laws.proofs.ReadWays.{way-read}
use Rattle.typed_core_laws.proofs.TypedChains.{calls-return}
use Rattle.typed_core_laws.proofs.TypedReached.{entry-reached, ops-allowed}
use Rattle.typed_core_laws.proofs.TypedRuns.{entries-keep, entries-state}

-- ---- one leg

-- a leg comes to its access with all of its turns, in a state that goes with the kinds
pub record DoesCome (core : Core) (roots : Roots) (class : ClassId) (m : MethodId) (i : ℕ) (r : Access)
    (values : List Value) (s : State) (t : ℕ) (ran : Ran) : Type 0 where
  pub to : State
  pub came : ran ≡ Came to []
  pub at : IsAtAccess core m i r values s t to
  pub kinds : IsState core (typed_kinds core roots class) to

module _ (core : Core) (roots : Roots) (class : ClassId) where
  leg-comes : (m : MethodId) (i : ℕ) (r : Access) (values : List Value) (s : State) (t : ℕ) (ran : Ran) →
      EndsAtAccess core m i r values s t ran → IsUnthrown ran → RanTo core (typed_kinds core roots class) ran →
      DoesCome core roots class m i r values s t ran
  leg-comes m i r values s t (Came to left) ends unthrown kept =
      record { to = to; came = ap (λ (ts : List Turn). Came to ts) ends.0; at = ends.1; kinds = kept }
  leg-comes m i r values s t (Halted halt at steps) ends unthrown kept =
      let why : Why = ends.0 in
      let stuck = subst (λ (h : Halt). IsUnthrown (Halted h at steps)) ends.1 unthrown in
      let thrown = (subst (λ (h : Halt). RanTo core (typed_kinds core roots class) (Halted h at steps)) ends.1 kept).0 in
      absurd (let wrong : true ≡ false = ap is_thrown (sym thrown) ∙ stuck in cc)

  -- ---- two legs, one after the other

  abbrev Leads : ℕ → MethodId → ℕ → Access → Method → State → Type 0
  Leads t m i r method s =
      DoesCome core roots class m i r (given_to t method) s t
      (runs core t (way_of core m i).steps (way_of core m i).turns s)

  both-come : (t u : ℕ) (m n : MethodId) (i j : ℕ) (a b : Access) (f g : Method) (s : State) →
      Leads t m i a f s →
      ((to : State) → IsAtAccess core m i a (given_to t f) s t to → IsState core (typed_kinds core roots class) to →
      Leads u n j b g to) → IsSome (run core (two_legs core t u m n i j) s)
  both-come t u m n i j a b f g s one goes =
      let two : Leads u n j b g one.to = goes one.to one.at one.kinds in
      ap is_some
      (ap (λ (r : Ran). option_and_then (run core (leg_along u (way_of core n j) ∷ [])) (whole r)) one.came
      ∙ ap (λ (r : Ran). option_and_then (run core []) (whole r)) two.came)

-- ---- a warning

module _ (p : Program) (w : Warning) (pair : IsPair (core_of p) w) (typed : IsTyped (core_of p) w.class) where
  abbrev core : Core
  core = core_of p

  entry_is : (method : Method) → method.entry ≡ true → method.class ≡ w.class → is_entry_of w.class method ≡ true
  entry_is method entry same =
      and_from method.entry (same_class method.class w.class) entry
      (eq-eqb method.class.0 w.class.0 (ap (λ (c : ClassId). c.0) same))

  abbrev entry_of : (m : MethodId) (i : ℕ) (r : Access) → IsRecord core w.class m i r → IsEntry core w.class m
  entry_of m i r has =
      record {
        method = has.method;
        is = has.is;
        entry = entry_is has.method has.entry has.class;
      }

  abbrev one : IsEntry core w.class w.entry
  one = entry_of w.entry w.access pair.first pair.of_entry

  abbrev other : IsEntry core w.class w.partner
  other = entry_of w.partner w.partner_access pair.partner pair.of_partner

  abbrev roots : Roots
  roots = roots_of pair.of_entry.method pair.of_partner.method

  abbrev IsTypedState : State → Type 0
  IsTypedState s = IsState core (typed_kinds core roots w.class) s

  reached : (m : MethodId) (i : ℕ) (r : Access) → IsRecord core w.class m i r → is_reached core w.class m ≡ true
  reached m i r has =
      let e : IsEntry core w.class m = entry_of m i r has in entry-reached p w.class m e.method e.is e.entry

  -- a leg of one of the two, beside a thread that holds no monitor
  leads : (m : MethodId) (i : ℕ) (r : Access) (has : IsRecord core w.class m i r) (t : ℕ) (s : State) →
      IsTypedState s → EndsAtAccess core m i r (given_to t has.method) s t
      (runs core t (way_of core m i).steps (way_of core m i).turns s) →
      IsUnthrown (runs core t (way_of core m i).steps (way_of core m i).turns s) →
      Leads core roots w.class t m i r has.method s
  leads m i r has t s is ends unthrown =
      leg-comes core roots w.class m i r (given_to t has.method) s t
      (runs core t (way_of core m i).steps (way_of core m i).turns s) ends unthrown
      (run-kept (entries-keep p w.class w.entry w.partner typed one other) t (way_of core m i).steps
      (way_of core m i).turns s is)

  by-order : (locked : Bool) → pair.first.locked ≡ locked → IsSome (run core (legs_by core w locked) (full core w))
  by-order locked is =
      let a : Access = pair.first in
      let b : Access = pair.partner in
      let f : Method = pair.of_entry.method in
      let g : Method = pair.of_partner.method in
      let conflict : Conflict a b = conflict-parts a b pair.conflict in
      let s : State = full core w in
      let zero_in = first-entered core w f pair.of_entry.is in
      let one_in = second-entered core w g pair.of_partner.is in
      let zero_free = ap (λ (x : Thread). x.locks) zero_in in
      let one_free = ap (λ (x : Thread). x.locks) one_in in
      let begins : IsTypedState s = entries-state p w.class w.entry w.partner typed one other in
      let returns_first = calls-return p w.class (ops-allowed p w.class typed roots) w.entry
      (reached w.entry w.access a pair.of_entry) in
      let returns_second = calls-return p w.class (ops-allowed p w.class typed roots) w.partner
      (reached w.partner w.partner_access b pair.of_partner) in
      elim locked as (λ l. a.locked ≡ l → IsSome (run core (legs_by core w l) s)) [
        | true ↦ λ e.
            both-come core roots w.class 1 0 w.partner w.entry w.partner_access w.access b a g f s
            (leads w.partner w.partner_access b pair.of_partner 1 s begins
            (way-ends p w.partner g w.partner_access b (given_to 1 g) s 1 pair.of_partner.is pair.of_partner.has one_in
            zero_free)
            (leg-unthrown p w.partner g w.partner_access b (given_to 1 g) s 1 returns_second pair.of_partner.is
            pair.of_partner.has one_in zero_free))
            (λ to at kinds.
            let free = unlocked-free core w.partner w.partner_access b (given_to 1 g) s 1 to at
            (and_second a.locked b.locked e conflict.locks) in
            leads w.entry w.access a pair.of_entry 0 to kinds
            (way-ends p w.entry f w.access a (given_to 0 f) to 0 pair.of_entry.is pair.of_entry.has (at.other ∙ zero_in)
            free)
            (leg-unthrown p w.entry f w.access a (given_to 0 f) to 0 returns_first pair.of_entry.is pair.of_entry.has
            (at.other ∙ zero_in) free))
        | false ↦ λ e.
            both-come core roots w.class 0 1 w.entry w.partner w.access w.partner_access a b f g s
            (leads w.entry w.access a pair.of_entry 0 s begins
            (way-ends p w.entry f w.access a (given_to 0 f) s 0 pair.of_entry.is pair.of_entry.has zero_in one_free)
            (leg-unthrown p w.entry f w.access a (given_to 0 f) s 0 returns_first pair.of_entry.is pair.of_entry.has
            zero_in one_free))
            (λ to at kinds.
            let free = unlocked-free core w.entry w.access a (given_to 0 f) s 0 to at e in
            leads w.partner w.partner_access b pair.of_partner 1 to kinds
            (way-ends p w.partner g w.partner_access b (given_to 1 g) to 1 pair.of_partner.is pair.of_partner.has
            (at.other ∙ one_in) free)
            (leg-unthrown p w.partner g w.partner_access b (given_to 1 g) to 1 returns_second pair.of_partner.is
            pair.of_partner.has (at.other ∙ one_in) free))
      ] is

  both-made : IsSome (run core (legs_of core (pair_of w)) (full core w))
  both-made =
      by-order (is_locked core w.entry w.access) (sym (locked-is core w pair.first pair.of_entry.has))

  first-read : (way_of core w.entry w.access).unread ≡ []
  first-read =
      way-read core w.class (ops-allowed p w.class typed roots) w.entry
      (reached w.entry w.access pair.first pair.of_entry) w.access

  second-read : (way_of core w.partner w.partner_access).unread ≡ []
  second-read =
      way-read core w.class (ops-allowed p w.class typed roots) w.partner
      (reached w.partner w.partner_access pair.partner pair.of_partner) w.partner_access

  pub is-whole : AreShort core (pair_of w) → IsWhole core (pair_of w)
  is-whole short =
      record {
        read_first = first-read;
        read_second = second-read;
        short_first = short.first;
        short_second = short.second;
        runs = both-made;
      }

  -- ---- its mark

  abbrev path : Path
  path = pair.first.path

  none-unread : first_unread (ways_in_order core (pair_of w)) ≡ None
  none-unread =
      let a : Trip = way_of core w.entry w.access in
      let b : Trip = way_of core w.partner w.partner_access in
      elim (is_locked core w.entry w.access) as (λ l. first_unread (cond l (b ∷ a ∷ []) (a ∷ b ∷ [])) ≡ None) [
        | true ↦ none_unread b a second-read first-read
        | false ↦ none_unread a b first-read second-read
      ]

  -- where neither way is too long, both are whole
  whole-by-length : IsStable core w.entry w.partner path → first_long (ways_in_order core (pair_of w)) ≡ None →
      IsWhole core (pair_of w)
  whole-by-length stable short =
      let said : Said = mark_by_run core (legs_of core (pair_of w)) (full core w) in
      whole-ways core (pair_of w) path said
      (record { stable = stable.prefixes; read = none-unread; short = short; is = refl }) both-made

  not-blocked : (t : ℕ) (at : Place) (objects : List StartPath) (legs : List Leg) →
      Blocked t at ≡ Confirmed objects legs → ⊥
  not-blocked t at objects legs is = absurd cc

  by-row : (said : Said) → warning_mark core w ≡ said → IsRow core w path said → IsUnblocked said
  by-row Unnamed is row = tt
  by-row (Unstable before) is row = tt
  by-row (Unread at) is row = let wrong : None ≡ Some at = sym none-unread ∙ row.1 in absurd cc
  by-row (Long steps) is row = tt
  by-row (Blocked t at) is row =
      let marked = whole_confirmed core w pair.first pair.of_entry.has row.0 (whole-by-length row.0 row.2) in
      not-blocked t at _ _ (sym is ∙ marked)
  by-row (Confirmed objects legs) is row = tt

-- ---- warnings of the list

pub not-blocked-warning : (p : Program) (w : Warning) → Contains (warnings (core_of p)) w →
    IsTyped (core_of p) w.class → IsUnblocked (warning_mark (core_of p) w)
not-blocked-warning p w listed typed =
    let pair : IsPair (core_of p) w = warning_is_pair (core_of p) w listed in
    by-row p w pair typed (warning_mark (core_of p) w) refl (mark-row p w pair.first listed pair.of_entry.has)

pub short-confirmed : (p : Program) (w : Warning) (r : Access) → Contains (warnings (core_of p)) w →
    IsTyped (core_of p) w.class → record_at (core_of p) w.entry w.access ≡ Some r →
    IsStable (core_of p) w.entry w.partner r.path → AreShort (core_of p) (pair_of w) → IsConfirmed (core_of p) w r
short-confirmed p w r listed typed at stable short =
    let marked = whole_confirmed (core_of p) w r at stable
    (is-whole p w (warning_is_pair (core_of p) w listed) typed short) in
    record { marked = marked; races = confirmed-warnings-race p w _ _ r listed marked at }

pub never-blocked : (p : Program) → AreNeverBlocked (core_of p)
never-blocked p = λ w listed typed.
    record {
      unblocked = not-blocked-warning p w listed typed;
      confirmed = λ r at stable short. short-confirmed p w r listed typed at stable short;
    }
