-- What is said where both legs are run.
use Rattle.std.proofs.Common.{◌≡◌, ℕ, ◌*◌, ◌≤◌, List, [], ◌∷◌, ◌++◌, sym, ap, ◌∙◌}
use Rattle.std.proofs.Common.{Option, None, Some, length, arith}
use Rattle.racer_base.specs.declared.limits.TheConstants.{MAX_WAY_STEPS}
use Rattle.std.proofs.lemmas.List.{append-nil}
use Rattle.racer_base.specs.declared.ids.Place.{Place}
use Rattle.access_domain.specs.Records.{firsts}
use Rattle.core_code.specs.Core.{Core}
use Rattle.core_semantics.specs.declared.answer.Turn.{Turn}
use Rattle.core_semantics.specs.declared.object.StartPath.{StartPath}
use Rattle.core_semantics.specs.Legs.{Leg, Ran, Came, Halted, runs}
use Rattle.core_semantics.specs.Objects.{same_start_path}
use Rattle.core_semantics.specs.Runs.{place}
use Rattle.core_semantics.specs.State.{State}
use Rattle.core_ways.specs.Marks.{Said, Confirmed, blocked_at, first_halt, mark_by_run, objects_of, reads_of_legs}
use Rattle.core_ways.specs.declared.driving.LegEnd.{LegEnd}
use Rattle.core_ways.specs.declared.driving.LegEnd.TheVariants as code
use Rattle.core_ways.specs.Ends.{Ended, Past, Stopped, ended, leg_end, leg_reads, run_end}
use Rattle.core_ways.specs.Gathered.{gathered}
use Rattle.core_ways.proofs.Gathering.{gathered-append, gathered-count, gathered-firsts}
use Rattle.witness_build_apart_laws.proofs.LegEnds.{leg-count, run-ends, run-reads}

abbrev end_of : Core → Leg → State → Ended
end_of core leg s = leg_end core leg.thread leg.steps leg.turns s

abbrev reads_of : Core → Leg → State → List StartPath
reads_of core leg s = leg_reads core leg.thread leg.steps leg.turns s

abbrev halt_in : Core → ℕ → List Leg → Ran → Option (ℕ × Option Place)
halt_in core t legs r = elim r [ Came to left ↦ first_halt core legs to | Halted halt at steps ↦ Some (t, place at t) ]

halt-stopped : (core : Core) (t : ℕ) (legs : List Leg) (at : State) (r : Ran) → ended r ≡ Stopped at →
    halt_in core t legs r ≡ Some (t, place at t)
halt-stopped core t legs at (Came to left) e = absurd cc
halt-stopped core t legs at (Halted halt s steps) e =
    let same : s ≡ at = cc in ap (λ (x : State). let o : Option (ℕ × Option Place) = Some (t, place x t) in o) same

halt-past : (core : Core) (t : ℕ) (legs : List Leg) (to : State) (r : Ran) → ended r ≡ Past to →
    halt_in core t legs r ≡ first_halt core legs to
halt-past core t legs to (Came s left) e = let same : s ≡ to = cc in ap (first_halt core legs) same
halt-past core t legs to (Halted halt s steps) e = absurd cc

first-stopped : (core : Core) (leg : Leg) (legs : List Leg) (s at : State) → end_of core leg s ≡ Stopped at →
    first_halt core (leg ∷ legs) s ≡ Some (leg.thread, place at leg.thread)
first-stopped core leg legs s at e =
    halt-stopped core leg.thread legs at (runs core leg.thread leg.steps leg.turns s)
    (run-ends core leg.thread leg.steps leg.turns s ∙ e)

first-past : (core : Core) (leg : Leg) (legs : List Leg) (s to : State) → end_of core leg s ≡ Past to →
    first_halt core (leg ∷ legs) s ≡ first_halt core legs to
first-past core leg legs s to e =
    halt-past core leg.thread legs to (runs core leg.thread leg.steps leg.turns s)
    (run-ends core leg.thread leg.steps leg.turns s ∙ e)

abbrev reads_in : Core → List Leg → Ran → List StartPath
reads_in core legs r = elim r [ Came to left ↦ reads_of_legs core legs to | Halted halt at steps ↦ [] ]

reads-in-past : (core : Core) (legs : List Leg) (to : State) (r : Ran) → ended r ≡ Past to →
    reads_in core legs r ≡ reads_of_legs core legs to
reads-in-past core legs to (Came s left) e = let same : s ≡ to = cc in ap (reads_of_legs core legs) same
reads-in-past core legs to (Halted halt s steps) e = absurd cc

reads-past : (core : Core) (leg : Leg) (legs : List Leg) (s to : State) → end_of core leg s ≡ Past to →
    reads_of_legs core (leg ∷ legs) s ≡ reads_of core leg s ++ reads_of_legs core legs to
reads-past core leg legs s to e =
    ap (λ xs. xs ++ reads_in core legs (runs core leg.thread leg.steps leg.turns s))
    (run-reads core leg.thread leg.steps leg.turns s)
    ∙ ap (λ ys. reads_of core leg s ++ ys)
    (reads-in-past core legs to (runs core leg.thread leg.steps leg.turns s)
    (run-ends core leg.thread leg.steps leg.turns s ∙ e))

abbrev said_where : Core → List Leg → State → Option (ℕ × Option Place) → Said
said_where core legs s o =
    elim o [
      | None ↦ Confirmed (objects_of core legs s) legs
      | Some halted ↦ blocked_at halted.0 halted.1
    ]

-- the first leg cannot be made
pub said-first : (core : Core) (f g : Leg) (s at : State) → end_of core f s ≡ Stopped at →
    blocked_at f.thread (place at f.thread) ≡ mark_by_run core (f ∷ g ∷ []) s
said-first core f g s at e =
    sym (ap (said_where core (f ∷ g ∷ []) s) (first-stopped core f (g ∷ []) s at e))

-- the second leg cannot be made
pub said-second : (core : Core) (f g : Leg) (s to at : State) → end_of core f s ≡ Past to →
    end_of core g to ≡ Stopped at →
    blocked_at g.thread (place at g.thread) ≡ mark_by_run core (f ∷ g ∷ []) s
said-second core f g s to at p e =
    sym (ap (said_where core (f ∷ g ∷ []) s)
    (first-past core f (g ∷ []) s to p ∙ first-stopped core g [] to at e))

objects-both : (core : Core) (f g : Leg) (s to end : State) → end_of core f s ≡ Past to → end_of core g to ≡ Past end →
    gathered (gathered [] (reads_of core f s)) (reads_of core g to) ≡ objects_of core (f ∷ g ∷ []) s
objects-both core f g s to end p q =
    sym (gathered-append [] (reads_of core f s) (reads_of core g to))
    ∙ gathered-firsts [] (reads_of core f s ++ reads_of core g to)
    ∙ ap (firsts same_start_path)
    (sym (reads-past core f (g ∷ []) s to p
    ∙ ap (λ ys. reads_of core f s ++ ys) (reads-past core g [] to end q ∙ append-nil (reads_of core g to))))

-- both legs are made
pub said-both : (core : Core) (f g : Leg) (s to end : State) → end_of core f s ≡ Past to → end_of core g to ≡ Past end →
    Confirmed (gathered (gathered [] (reads_of core f s)) (reads_of core g to)) (f ∷ g ∷ [])
    ≡ mark_by_run core (f ∷ g ∷ []) s
said-both core f g s to end p q =
    ap (λ (paths : List StartPath). Confirmed paths (f ∷ g ∷ [])) (objects-both core f g s to end p q)
    ∙ sym (ap (said_where core (f ∷ g ∷ []) s) (first-past core f (g ∷ []) s to p ∙ first-past core g [] to end q))

-- ---- as a run of a leg answers

-- not all steps were made
ran-stopped : (r : Ran) (new : State) (end : LegEnd) (k : ℕ) → run_end r ≡ (end, new) → end ≡ code.Halted k →
    ended r ≡ Stopped new
ran-stopped (Came to left) new end k e is =
    let came : code.Came (length left) ≡ end = ap (λ (x : LegEnd × State). x.0) e in absurd cc
ran-stopped (Halted halt at steps) new end k e is = ap (λ (x : LegEnd × State). Stopped x.1) e

pub leg-stopped : (core : Core) (t n : ℕ) (turns : List Turn) (s new : State) (end : LegEnd) (k : ℕ) →
    run_end (runs core t n turns s) ≡ (end, new) → end ≡ code.Halted k → leg_end core t n turns s ≡ Stopped new
leg-stopped core t n turns s new end k e is =
    sym (run-ends core t n turns s) ∙ ran-stopped (runs core t n turns s) new end k e is

-- all were
ran-past : (r : Ran) (new : State) (end : LegEnd) (k : ℕ) → run_end r ≡ (end, new) → end ≡ code.Came k →
    ended r ≡ Past new
ran-past (Came to left) new end k e is = ap (λ (x : LegEnd × State). Past x.1) e
ran-past (Halted halt at steps) new end k e is =
    let halted : code.Halted steps ≡ end = ap (λ (x : LegEnd × State). x.0) e in absurd cc

pub leg-past : (core : Core) (t n : ℕ) (turns : List Turn) (s new : State) (end : LegEnd) (k : ℕ) →
    run_end (runs core t n turns s) ≡ (end, new) → end ≡ code.Came k → leg_end core t n turns s ≡ Past new
leg-past core t n turns s new end k e is =
    sym (run-ends core t n turns s) ∙ ran-past (runs core t n turns s) new end k e is

-- what both legs gather
pub both-gathered : (core : Core) (t u n m : ℕ) (turns others : List Turn) (s to : State)
    (start objects all : List StartPath) → start ≡ [] →
    objects ≡ gathered start (leg_reads core t n turns s) → all ≡ gathered objects (leg_reads core u m others to) →
    all ≡ gathered (gathered [] (leg_reads core t n turns s)) (leg_reads core u m others to)
both-gathered core t u n m turns others s to start objects all none one two =
    two
    ∙ (λ i. gathered (one i) (leg_reads core u m others to))
    ∙ (λ i. gathered (gathered (none i) (leg_reads core t n turns s)) (leg_reads core u m others to))

-- they are no more than the steps
pub few-gathered : (core : Core) (t u n m : ℕ) (ts os : List Turn) (s to : State) (all : List StartPath) →
    all ≡ gathered (gathered [] (leg_reads core t n ts s)) (leg_reads core u m os to) → n ≤ MAX_WAY_STEPS →
    m ≤ MAX_WAY_STEPS → length all ≤ 2 * MAX_WAY_STEPS
few-gathered core t u n m ts os s to all is x y =
    let one = leg-count core t n ts s in
    let two = leg-count core u m os to in
    let first = gathered-count [] (leg_reads core t n ts s) in
    let both = gathered-count (gathered [] (leg_reads core t n ts s)) (leg_reads core u m os to) in
    let same : length all ≡ length (gathered (gathered [] (leg_reads core t n ts s)) (leg_reads core u m os to)) =
    ap length is in
    omega (arith, one, two, first, both, same, x, y)
