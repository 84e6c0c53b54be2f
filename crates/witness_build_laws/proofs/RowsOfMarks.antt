-- Each mark is of its row, and a row gives its mark.
use Rattle.std.proofs.Common.{◌≡◌, ℕ, true, false, cond, ⊎_elim, List, [], ◌∷◌, ◌++◌, Option, None, Some, refl, sym}
use Rattle.std.proofs.Common.{ap, is_some, subst, ◌∙◌}
use Rattle.std.specs.List.{Contains}
use Rattle.std.specs.Option.{option_and_then}
use Rattle.racer_base.specs.declared.ids.Place.{Place}
use Rattle.access_paths.specs.declared.path.Path.{Path}
use Rattle.access_paths.specs.Paths.{is_some_root}
use Rattle.access_domain.specs.declared.access.Access.{Access}
use Rattle.access_domain.specs.OutcomeRecords.{record_at}
use Rattle.core_code.specs.declared.program.Program.{Program}
use Rattle.core_code.specs.Core.{Core}
use Rattle.core_code.specs.Program.{core as core_of}
use Rattle.core_semantics.specs.Legs.{Halt, Leg, Ran, Came, Halted, StuckFor, run, runs, whole}
use Rattle.core_semantics.specs.Runs.{place}
use Rattle.core_semantics.specs.State.{State}
use Rattle.core_ways.specs.Marks.{Said, Unnamed, Unstable, Unread, Long, Blocked, Confirmed, first_halt}
use Rattle.core_ways.specs.Marks.{first_long, first_unread, legs_of, mark_by_calls, mark_by_length, mark_by_run}
use Rattle.core_ways.specs.Marks.{mark_of, objects_of, ways_in_order}
use Rattle.core_ways.specs.Stable.{IsStable, unstable_prefix}
use Rattle.race_pairs.specs.declared.warning.Warning.{Warning}
use Rattle.race_pairs.specs.Pairs.{IsPair}
use Rattle.race_pairs.specs.Warnings.{warnings}
use Rattle.race_pairs.proofs.WarningPairs.{warning_is_pair}
use Rattle.witness_build_laws.specs.Table.{IsRow, IsStopped, IsStuckAt}
use Rattle.witness_build_laws.specs.Warned.{pair_of, warning_mark}
use Rattle.witness_build_laws.proofs.ConfirmedRun.{conflict-parts, full, lasting, mark_by}
use Rattle.witness_build_laws.proofs.MarkParts.{halt_in}
use Rattle.witness_build_laws.proofs.TableRows.{AreMade, DoStop, Ends, IsByRun, halt, legs-end, said-stopped}
use Rattle.witness_build_laws.proofs.WholeWarnings.{said-made}
use Rattle.witness_build_laws.proofs.TableRows.{same-record, whole-ways}
use Rattle.witness_build_laws.proofs.WholeWarnings.{confirmed}
use Rattle.core_ways_laws.proofs.StableMeets.{lasting-known}

-- ---- the row of a mark

module _ (core : Core) (w : Warning) (p : Path) (ends : Ends core (legs_of core (pair_of w)) (full core w)) where
  abbrev both : List Leg
  both = legs_of core (pair_of w)

  abbrev by_run : Said
  by_run = mark_by_run core both (full core w)

  made-row : IsStable core w.entry w.partner p → first_unread (ways_in_order core (pair_of w)) ≡ None →
      first_long (ways_in_order core (pair_of w)) ≡ None → AreMade core both (full core w) →
      IsRow core w p (Confirmed (objects_of core both (full core w)) both)
  made-row stable read short made =
      let by : IsByRun core (pair_of w) p by_run =
      record { stable = stable.prefixes; read = read; short = short; is = refl } in
      (stable, whole-ways core (pair_of w) p by_run by (ap is_some made.runs), refl, refl)

  run-row : IsStable core w.entry w.partner p → first_unread (ways_in_order core (pair_of w)) ≡ None →
      first_long (ways_in_order core (pair_of w)) ≡ None → IsRow core w p by_run
  run-row stable read short =
      ⊎_elim
      (λ (made : AreMade core both (full core w)).
      subst (IsRow core w p) (sym (said-made core both (full core w) made.none)) (made-row stable read short made))
      (λ (stop : DoStop core both (full core w)).
      subst (IsRow core w p) (sym (said-stopped core both (full core w) stop.t stop.at stop.halted))
      (stable, read, short, stop.stopped)) ends

  length-row : IsStable core w.entry w.partner p → first_unread (ways_in_order core (pair_of w)) ≡ None →
      (o : Option ℕ) → first_long (ways_in_order core (pair_of w)) ≡ o →
      IsRow core w p (elim o as (λ _. Said) [ None ↦ by_run | Some steps ↦ Long steps ])
  length-row stable read None is = run-row stable read is
  length-row stable read (Some steps) is = (stable, read, is)

  calls-row : IsStable core w.entry w.partner p → (o : Option Place) →
      first_unread (ways_in_order core (pair_of w)) ≡ o →
      IsRow core w p (elim o as (λ _. Said) [ None ↦ mark_by_length core (pair_of w) | Some at ↦ Unread at ])
  calls-row stable None is = length-row stable is (first_long (ways_in_order core (pair_of w))) refl
  calls-row stable (Some at) is = (stable, is)

  prefix-row : is_some_root p.root ≡ false → (unstable_prefix core w.entry w.partner p ≡ None →
      IsStable core w.entry w.partner p) → (o : Option Path) → unstable_prefix core w.entry w.partner p ≡ o →
      IsRow core w p (elim o as (λ _. Said) [ None ↦ mark_by_calls core (pair_of w) | Some q ↦ Unstable q ])
  prefix-row known stable None is = calls-row (stable is) (first_unread (ways_in_order core (pair_of w))) refl
  prefix-row known stable (Some q) is = (known, is)

  path-row : (is_some_root p.root ≡ false → unstable_prefix core w.entry w.partner p ≡ None →
      IsStable core w.entry w.partner p) → IsRow core w p (mark_of core (pair_of w) p)
  path-row stable =
      elim (is_some_root p.root) as (λ b. is_some_root p.root ≡ b → IsRow core w p (cond b Unnamed
      (elim (unstable_prefix core w.entry w.partner p) as (λ _. Said) [
        | None ↦ mark_by_calls core (pair_of w)
        | Some q ↦ Unstable q
      ]))) [
        | true ↦ λ is. is
        | false ↦ λ is. prefix-row is (stable is) (unstable_prefix core w.entry w.partner p) refl
      ] refl

pub mark-row : (p : Program) (w : Warning) (r : Access) → Contains (warnings (core_of p)) w →
    record_at (core_of p) w.entry w.access ≡ Some r → IsRow (core_of p) w r.path (warning_mark (core_of p) w)
mark-row p w r listed at =
    let core : Core = core_of p in
    let pair : IsPair core w = warning_is_pair core w listed in
    let path : Path = pair.first.path in
    let conflict = conflict-parts pair.first pair.partner pair.conflict in
    let row : IsRow core w path (mark_of core (pair_of w) path) =
    path-row core w path (legs-end p w pair)
    (λ known none. record { root = lasting path.root known conflict.formal; prefixes = none }) in
    let mark : mark_of core (pair_of w) path ≡ warning_mark core w =
    sym (ap (mark_by core w) pair.of_entry.has) in
    subst (λ (x : Access). IsRow core w x.path (warning_mark core w)) (same-record core w pair r at)
    (subst (IsRow core w path) mark row)

-- ---- the mark of a row

-- where the first leg is made, the first halt is that of the others
after-first : (core : Core) (one : Leg) (before rest : List Leg) (start from : State) (o : Option (ℕ × Option Place)) →
    ((to : State) → run core before to ≡ Some from → first_halt core rest to ≡ o) → (r : Ran) →
    runs core one.thread one.steps one.turns start ≡ r → option_and_then (run core before) (whole r) ≡ Some from →
    first_halt core (one ∷ rest) start ≡ o
after-first core one before rest start from o next (Came to []) is comes =
    ap (halt_in core one.thread rest) is ∙ next to comes
after-first core one before rest start from o next (Came to (turn ∷ turns)) is comes = absurd cc
after-first core one before rest start from o next (Halted other at n) is comes = absurd cc

-- a leg that is stuck behind legs that are made is where the first halt is
halts : (core : Core) (leg : Leg) (behind : List Leg) (from stop : State) (why_halt : Halt) (steps : ℕ) →
    runs core leg.thread leg.steps leg.turns from ≡ Halted why_halt stop steps → (before : List Leg) (start : State) →
    run core before start ≡ Some from →
    first_halt core (before ++ leg ∷ behind) start ≡ halt leg.thread (place stop leg.thread)
halts core leg behind from stop why_halt steps breaks [] start comes =
    let same : start ≡ from = cc in
    ap (λ (s : State). first_halt core (leg ∷ behind) s) same ∙ ap (halt_in core leg.thread behind) breaks
halts core leg behind from stop why_halt steps breaks (one ∷ before) start comes =
    after-first core one before (before ++ leg ∷ behind) start from (halt leg.thread (place stop leg.thread))
    (λ to rest. halts core leg behind from stop why_halt steps breaks before to rest)
    (runs core one.thread one.steps one.turns start) refl comes

stopped-halts : (core : Core) (legs : List Leg) (start : State) (t : ℕ) (at : Place) →
    IsStopped core legs start t at → first_halt core legs start ≡ halt t (Some at)
stopped-halts core legs start t at stopped =
    let stuck : IsStuckAt core stopped.leg stopped.from at = stopped.stuck in
    ap (λ (ls : List Leg). first_halt core ls start) stopped.are
    ∙ halts core stopped.leg stopped.behind stopped.from stuck.stop (StuckFor stuck.why) stuck.steps stuck.breaks
    stopped.before start
    stopped.comes
    ∙ ap (halt stopped.leg.thread) stuck.place
    ∙ ap (λ (u : ℕ). halt u (Some at)) stopped.thread

module _ (core : Core) (w : Warning) (p : Path) where
  abbrev by_prefix : Option Path → Said
  by_prefix o = elim o [ None ↦ mark_by_calls core (pair_of w) | Some q ↦ Unstable q ]

  abbrev by_call : Option Place → Said
  by_call o = elim o [ None ↦ mark_by_length core (pair_of w) | Some at ↦ Unread at ]

  abbrev by_steps : Option ℕ → Said
  by_steps o =
      elim o [ None ↦ mark_by_run core (legs_of core (pair_of w)) (full core w) | Some steps ↦ Long steps ]

  known-mark : is_some_root p.root ≡ false →
      mark_of core (pair_of w) p ≡ by_prefix (unstable_prefix core w.entry w.partner p)
  known-mark known = ap (λ b. cond b Unnamed (by_prefix (unstable_prefix core w.entry w.partner p))) known

  stable-mark : IsStable core w.entry w.partner p → mark_of core (pair_of w) p ≡ mark_by_calls core (pair_of w)
  stable-mark stable = known-mark (lasting-known p.root stable.root) ∙ ap by_prefix stable.prefixes

  path-mark : (said : Said) → IsRow core w p said → mark_of core (pair_of w) p ≡ said
  path-mark Unnamed row = ap (λ b. cond b Unnamed (by_prefix (unstable_prefix core w.entry w.partner p))) row
  path-mark (Unstable before) row = known-mark row.0 ∙ ap by_prefix row.1
  path-mark (Unread at) row = stable-mark row.0 ∙ ap by_call row.1
  path-mark (Long steps) row = stable-mark row.0 ∙ ap by_call row.1 ∙ ap by_steps row.2
  path-mark (Blocked t at) row =
      stable-mark row.0 ∙ ap by_call row.1 ∙ ap by_steps row.2
      ∙ said-stopped core (legs_of core (pair_of w)) (full core w) t at
      (stopped-halts core (legs_of core (pair_of w)) (full core w) t at row.3)
  path-mark (Confirmed objects legs) row =
      confirmed core (pair_of w) p row.0 row.1 ∙ (λ i. Confirmed (sym row.3 i) (sym row.2 i))

pub row-mark : (core : Core) (w : Warning) (r : Access) (said : Said) → record_at core w.entry w.access ≡ Some r →
    IsRow core w r.path said → warning_mark core w ≡ said
row-mark core w r said at row = ap (mark_by core w) at ∙ path-mark core w r.path said row
