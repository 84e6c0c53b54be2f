-- Legs that end in a race have that verdict.
use Rattle.std.proofs.Common.{◌≡◌, ℕ, suc, Bool, true, cond, List, [], ◌∷◌, Option, None, Some, refl, ap, ◌∙◌}
use Rattle.std.proofs.Common.{map}
use Rattle.std.specs.Option.{option_and_then}
use Rattle.core_code.specs.Core.{Core, Method}
use Rattle.core_semantics.specs.declared.object.StartPath.{StartPath}
use Rattle.core_semantics.specs.Legs.{Leg, Ran, Came, Halted, run, runs, whole}
use Rattle.core_semantics.specs.Runs.{races}
use Rattle.core_semantics.specs.State.{State}
use Rattle.race_report_parts.specs.Marks.{start_text}
use Rattle.witness_text.specs.declared.verdict.Verdict.{Verdict}
use Rattle.witness_text.specs.declared.verdict.Verdict.TheVariants.{NoConflict, OtherCell, Races, StopsAt}
use Rattle.witness_text_names.specs.Objects.{before, object_named, objects_named}
use Rattle.witness_text_names.specs.declared.cells.Cell.{Cell}
use Rattle.witness_text_names.specs.declared.objects.Named.{Named}
use Rattle.witness_text_names.specs.declared.objects.Named.TheVariants.{All, NoneAt}
use Rattle.witness_text.specs.Replays.{IsReplayed, replayed}
use Rattle.witness_text.specs.Verdicts.{are_at, legs_verdict, race_verdict}

abbrev pub behind_ran : Core → (State → Verdict) → ℕ → Leg → List Leg → Ran → Verdict
behind_ran core ends i leg legs r =
    elim r [
      | Came to left ↦ elim left [
        | [] ↦ legs_verdict core ends (suc i) legs to
        | ◌∷◌ turn turns ↦ StopsAt i leg.steps
      ]
      | Halted halt at steps ↦ StopsAt i steps
    ]

came : (core : Core) (ends : State → Verdict) (i : ℕ) (leg : Leg) (legs : List Leg) (end : State) (v : Verdict)
    (r : Ran) →
    option_and_then (run core legs) (whole r) ≡ Some end →
    ((to : State) → run core legs to ≡ Some end → legs_verdict core ends (suc i) legs to ≡ v) →
    behind_ran core ends i leg legs r ≡ v
came core ends i leg legs end v (Came to []) e later = later to e
came core ends i leg legs end v (Came to (turn ∷ turns)) e later = absurd cc
came core ends i leg legs end v (Halted halt at steps) e later = absurd cc

-- the verdict of legs that can all be run is that of the state behind them
pub legs-end : (core : Core) (ends : State → Verdict) (i : ℕ) (legs : List Leg) (s end : State) →
    run core legs s ≡ Some end → legs_verdict core ends i legs s ≡ ends end
legs-end core ends i [] s end e = let same : s ≡ end = cc in ap ends same
legs-end core ends i (leg ∷ legs) s end e =
    came core ends i leg legs end (ends end) (runs core leg.thread leg.steps leg.turns s) e
    (λ to f. legs-end core ends (suc i) legs to end f)

-- a leg that is made whole
pub through : (core : Core) (ends : State → Verdict) (i : ℕ) (leg : Leg) (legs : List Leg) (r : Ran) (to : State) →
    IsReplayed (replayed leg.steps r) None to →
    behind_ran core ends i leg legs r ≡ legs_verdict core ends (suc i) legs to
through core ends i leg legs (Came end []) to is = ap (legs_verdict core ends (suc i) legs) is
through core ends i leg legs (Came end (turn ∷ turns)) to is = absurd is
through core ends i leg legs (Halted halt at steps) to is = absurd is

pub race-is : (cell : Option Cell) (end : State) → races end ≡ true → are_at cell end ≡ true →
    race_verdict cell end ≡ Races
race-is cell end e at =
    ap (λ (b : Bool). cond b (cond (are_at cell end) Races OtherCell) NoConflict) e
    ∙ ap (λ (b : Bool). cond b Races OtherCell) at

-- texts that are each named so are named all
abbrev pub AreNamed : Core → Method → Method → List StartPath → Type 0
AreNamed core f g [] = Unit {0}
AreNamed core f g (p ∷ ps) = (object_named core f g (start_text core p) ≡ Some p) × AreNamed core f g ps

abbrev first_named : Core → Method → Method → List (List ℕ) → Option StartPath → Named
first_named core f g texts o = elim o [ None ↦ NoneAt 0 | Some p ↦ before p (objects_named core f g texts) ]

pub all-named : (core : Core) (f g : Method) (ps : List StartPath) → AreNamed core f g ps →
    objects_named core f g (map (start_text core) ps) ≡ All ps
all-named core f g [] h = refl
all-named core f g (p ∷ ps) h =
    ap (first_named core f g (map (start_text core) ps)) h.0 ∙ ap (before p) (all-named core f g ps h.1)
