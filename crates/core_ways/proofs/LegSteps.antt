-- One more step of a leg.
use Rattle.std.proofs.Common.{◌≡◌, ℕ, suc, ◌+◌, Bool, true, false, List, [], ◌∷◌, ◌++◌, Option, None, Some, length}
use Rattle.std.proofs.Common.{refl, sym, ap, subst, ◌∙◌, arith, if◌then◌else◌}
use Rattle.std.proofs.lemmas.List.{append-nil}
use Rattle.std.specs.Borrow.{Bor}
use Rattle.core_code.specs.Core.{Core}
use Rattle.core_semantics.specs.declared.answer.Turn.{Turn}
use Rattle.core_semantics.specs.declared.answer.Turn.TheVariants.{Right}
use Rattle.core_semantics.specs.declared.object.StartPath.{StartPath}
use Rattle.core_semantics.specs.Advances.{Going, IsAdvance, made_of, one_step, turned, with_turns}
use Rattle.core_semantics.specs.Legs.{Ran, Came, Halted, NoTurn, one_step_more, runs, went}
use Rattle.core_semantics.specs.Runs.{wants_turn}
use Rattle.core_semantics.specs.State.{State}
use Rattle.core_semantics.specs.Steps.{Next, Goes, Sticks, Waits, Ends, step}
use Rattle.core_ways.specs.declared.driving.LegEnd.{LegEnd}
use Rattle.core_ways.specs.declared.driving.LegEnd.TheVariants as code
use Rattle.core_ways.specs.Ends.{leg_reads, reads_behind, run_end, step_reads}
use Rattle.core_ways.specs.Gathered.{gathered}
use Rattle.core_ways.proofs.Gathering.{gathered-append}

-- a step that was made
pub made-of : (next : Option Going) (old new : State) (o : Option (Bor (List Turn))) (rest : Bor (List Turn)) →
    IsAdvance next old new o → o ≡ Some rest → next ≡ Some (new, rest.now)
made-of next old new o rest is some = subst (IsAdvance next old new) some is

-- one that was not
not-made : (next : Option Going) (old new : State) (o : Option (Bor (List Turn))) → IsAdvance next old new o →
    o ≡ None → (next ≡ None) × (new ≡ old)
not-made next old new o is none = subst (IsAdvance next old new) none is

-- how far it is run where so many steps were made before
abbrev halted : ℕ → State → LegEnd × State
halted n s = (code.Halted n, s)

abbrev pub came : ℕ → State → LegEnd × State
came n s = (code.Came n, s)

abbrev pub end_from : ℕ → Ran → LegEnd × State
end_from made (Came to left) = came (length left) to
end_from made (Halted halt at steps) = halted (made + steps) at

pub from-none : (r : Ran) → end_from 0 r ≡ run_end r
from-none (Came to left) = refl
from-none (Halted halt at steps) = let same : 0 + steps ≡ steps = omega arith in ap (λ (n : ℕ). halted n at) same

later : (made : ℕ) (r : Ran) → end_from made (one_step_more r) ≡ end_from (suc made) r
later made (Came to left) = refl
later made (Halted halt at n) =
    let same : made + suc n ≡ suc made + n = omega arith in ap (λ (k : ℕ). halted k at) same

stops-here : (made : ℕ) (s : State) → halted (made + 0) s ≡ halted made s
stops-here made s = let same : made + 0 ≡ made = omega arith in ap (λ (k : ℕ). halted k s) same

abbrev behind : Core → ℕ → ℕ → ℕ → State → Option Going → LegEnd × State
behind core t n made s None = halted made s
behind core t n made s (Some (next, turns)) = end_from (suc made) (runs core t n turns next)

went-behind : (core : Core) (t n made : ℕ) (turns : List Turn) (s : State) (next : Next State) →
    end_from made (went (runs core t n turns) s next) ≡ behind core t n made s (with_turns turns (made_of next))
went-behind core t n made turns s (Goes next) = later made (runs core t n turns next)
went-behind core t n made turns s (Sticks why) = stops-here made s
went-behind core t n made turns s (Waits monitor) = stops-here made s
went-behind core t n made turns s Ends = stops-here made s

turned-behind : (core : Core) (t n made : ℕ) (turns : List Turn) (s : State) →
    end_from made
    (elim turns [ [] ↦ Halted NoTurn s 0 | ◌∷◌ turn rest ↦ went (runs core t n rest) s (step core s t turn) ])
    ≡ behind core t n made s (turned core t turns s)
turned-behind core t n made [] s = stops-here made s
turned-behind core t n made (turn ∷ rest) s = went-behind core t n made rest s (step core s t turn)

either : (made : ℕ) (b : Bool) (x y : Ran) (rest : Option Going → LegEnd × State) (u v : Option Going) →
    end_from made x ≡ rest u → end_from made y ≡ rest v →
    end_from made (if b then x else y) ≡ rest (if b then u else v)
either made true x y rest u v l r = l
either made false x y rest u v l r = r

runs-behind : (core : Core) (t n made : ℕ) (turns : List Turn) (s : State) →
    end_from made (runs core t (suc n) turns s) ≡ behind core t n made s (one_step core t turns s)
runs-behind core t n made turns s =
    either made (wants_turn s t) _ _ (behind core t n made s) _ _ (turned-behind core t n made turns s)
    (went-behind core t n made turns s (step core s t Right))

pub end-on : (core : Core) (t m n made : ℕ) (turns : List Turn) (s new : State) (o : Option (Bor (List Turn)))
    (rest : Bor (List Turn)) → m ≡ suc n → IsAdvance (one_step core t turns s) s new o → o ≡ Some rest →
    end_from (made + 1) (runs core t n rest.now new) ≡ end_from made (runs core t m turns s)
end-on core t m n made turns s new o rest count is some =
    let next : made + 1 ≡ suc made = omega arith in
    ap (λ (k : ℕ). end_from k (runs core t n rest.now new)) next
    ∙ sym (ap (λ (k : ℕ). end_from made (runs core t k turns s)) count
    ∙ runs-behind core t n made turns s
    ∙ ap (behind core t n made s) (made-of (one_step core t turns s) s new o rest is some))

pub end-here : (core : Core) (t m n made : ℕ) (turns : List Turn) (s new : State) (o : Option (Bor (List Turn))) →
    m ≡ suc n → IsAdvance (one_step core t turns s) s new o → o ≡ None →
    end_from made (runs core t m turns s) ≡ (code.Halted made, new)
end-here core t m n made turns s new o count is none =
    let stops = not-made (one_step core t turns s) s new o is none in
    ap (λ (k : ℕ). end_from made (runs core t k turns s)) count
    ∙ runs-behind core t n made turns s
    ∙ ap (behind core t n made s) stops.0
    ∙ ap (halted made) (sym stops.1)

pub end-none : (core : Core) (t m made : ℕ) (turns : List Turn) (s : State) → m ≡ 0 →
    end_from made (runs core t m turns s) ≡ (code.Came (length turns), s)
end-none core t m made turns s none = ap (λ (k : ℕ). end_from made (runs core t k turns s)) none

pub reads-on : (core : Core) (t m n : ℕ) (turns : List Turn) (s new : State) (o : Option (Bor (List Turn)))
    (rest : Bor (List Turn)) (old objects : List StartPath) → m ≡ suc n → IsAdvance (one_step core t turns s) s new o →
    o ≡ Some rest → objects ≡ gathered old (step_reads core s t) →
    gathered objects (leg_reads core t n rest.now new) ≡ gathered old (leg_reads core t m turns s)
reads-on core t m n turns s new o rest old objects count is some grown =
    ap (λ xs. gathered xs (leg_reads core t n rest.now new)) grown
    ∙ sym (gathered-append old (step_reads core s t) (leg_reads core t n rest.now new))
    ∙ ap (λ xs. gathered old (step_reads core s t ++ xs))
    (sym (ap (reads_behind (leg_reads core t n)) (made-of (one_step core t turns s) s new o rest is some)))
    ∙ ap (λ k. gathered old (leg_reads core t k turns s)) (sym count)

pub reads-here : (core : Core) (t m n : ℕ) (turns : List Turn) (s new : State) (o : Option (Bor (List Turn)))
    (old objects : List StartPath) → m ≡ suc n → IsAdvance (one_step core t turns s) s new o → o ≡ None →
    objects ≡ gathered old (step_reads core s t) → objects ≡ gathered old (leg_reads core t m turns s)
reads-here core t m n turns s new o old objects count is none grown =
    grown
    ∙ ap (gathered old) (sym (append-nil (step_reads core s t)))
    ∙ ap (λ xs. gathered old (step_reads core s t ++ xs))
    (sym (ap (reads_behind (leg_reads core t n)) (not-made (one_step core t turns s) s new o is none).0))
    ∙ ap (λ k. gathered old (leg_reads core t k turns s)) (sym count)

pub reads-none : (core : Core) (t m : ℕ) (turns : List Turn) (s : State) (objects : List StartPath) → m ≡ 0 →
    objects ≡ gathered objects (leg_reads core t m turns s)
reads-none core t m turns s objects none = ap (λ k. gathered objects (leg_reads core t k turns s)) (sym none)
