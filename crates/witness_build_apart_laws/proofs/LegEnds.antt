-- Where a leg ends, and what it reads, step by step.
use Rattle.std.proofs.Common.{◌≡◌, ℕ, zero, suc, ◌≤◌, true, false, cond, List, [], ◌∷◌, ◌++◌, length, refl, ap, ◌∙◌}
use Rattle.std.proofs.Common.{Option, None, Some, arith, length-append}
use Rattle.core_code.specs.Core.{Core}
use Rattle.core_semantics.specs.declared.answer.Turn.{Turn}
use Rattle.core_semantics.specs.declared.answer.Turn.TheVariants.{Right}
use Rattle.core_semantics.specs.declared.object.StartPath.{StartPath}
use Rattle.core_semantics.specs.Legs.{Ran, Came, Halted, NoTurn, one_step_more, runs, went}
use Rattle.core_semantics.specs.Runs.{Access as Touching, next_touch, wants_turn}
use Rattle.core_semantics.specs.State.{State}
use Rattle.core_semantics.specs.Steps.{Next, Goes, Sticks, Waits, Ends, step}
use Rattle.core_semantics.specs.declared.object.Value.{Value}
use Rattle.core_semantics.specs.declared.object.Value.TheVariants.{Plain, Opaque, Null, Object as Ref}
use Rattle.core_semantics.specs.declared.object.Object.TheVariants.{Start as StartOf, Fresh}
use Rattle.racer_base.specs.declared.ids.Touch.TheVariants.{Read, Write}
use Rattle.core_semantics.specs.Steps.{read}
use Rattle.core_ways.specs.Marks.{given_by, next_read, paths_in, reads, reads_on}
use Rattle.racer_base.specs.declared.ids.FieldId.{FieldId}
use Rattle.core_semantics.specs.Advances.{Going, made_of}
use Rattle.core_ways.specs.Ends.{end_behind, ended, leg_end, leg_reads}
use Rattle.core_semantics.specs.Advances.{one_step, straight, turned, with_turns}
use Rattle.core_ways.specs.Ends.{reads_behind, step_reads}

ended-later : (r : Ran) → ended (one_step_more r) ≡ ended r
ended-later (Came to left) = refl
ended-later (Halted halt at steps) = refl

went-ends : (core : Core) (t n : ℕ) (rest : List Turn) (s : State) (next : Next State) →
    ((x : State) → ended (runs core t n rest x) ≡ leg_end core t n rest x) →
    ended (went (runs core t n rest) s next) ≡ end_behind s (leg_end core t n) (with_turns rest (made_of next))
went-ends core t n rest s (Goes x) ih = ended-later (runs core t n rest x) ∙ ih x
went-ends core t n rest s (Sticks why) ih = refl
went-ends core t n rest s (Waits monitor) ih = refl
went-ends core t n rest s Ends ih = refl

pub run-ends : (core : Core) (t n : ℕ) (turns : List Turn) (s : State) →
    ended (runs core t n turns s) ≡ leg_end core t n turns s
run-ends core t zero turns s = refl
run-ends core t (suc n) turns s =
    elim (wants_turn s t) as (λ b. ended (cond b
    (elim turns as (λ _. Ran) [
      | [] ↦ Halted NoTurn s 0
      | ◌∷◌ turn rest ↦ went (runs core t n rest) s (step core s t turn)
    ])
    (went (runs core t n turns) s (step core s t Right))) ≡
    end_behind s (leg_end core t n) (cond b (turned core t turns s) (straight core t turns s))) [
      | true ↦ elim turns as (λ ts. ended
          (elim ts as (λ _. Ran) [
            | [] ↦ Halted NoTurn s 0
            | ◌∷◌ turn rest ↦ went (runs core t n rest) s (step core s t turn)
          ]) ≡ end_behind s (leg_end core t n) (turned core t ts s)) [
            | [] ↦ refl
            | ◌∷◌ turn rest ↦ went-ends core t n rest s (step core s t turn) (run-ends core t n rest)
          ]
      | false ↦ went-ends core t n turns s (step core s t Right) (run-ends core t n turns)
    ]

reads-same : (core : Core) (t n : ℕ) (rest : List Turn) (next : Next State) →
    ((x : State) → reads core t n rest x ≡ leg_reads core t n rest x) →
    reads_on (reads core t n rest) next ≡ reads_behind (leg_reads core t n) (with_turns rest (made_of next))
reads-same core t n rest (Goes x) ih = ih x
reads-same core t n rest (Sticks why) ih = refl
reads-same core t n rest (Waits monitor) ih = refl
reads-same core t n rest Ends ih = refl

pub run-reads : (core : Core) (t n : ℕ) (turns : List Turn) (s : State) →
    reads core t n turns s ≡ leg_reads core t n turns s
run-reads core t zero turns s = refl
run-reads core t (suc n) turns s =
    elim (wants_turn s t) as (λ b. cond b
    (elim turns as (λ _. List StartPath) [
      | [] ↦ []
      | ◌∷◌ turn rest ↦ reads_on (reads core t n rest) (step core s t turn)
    ])
    (next_read core s t ++ reads_on (reads core t n turns) (step core s t Right)) ≡
    cond b [] (next_read core s t)
    ++ reads_behind (leg_reads core t n) (cond b (turned core t turns s) (straight core t turns s))) [
      | true ↦ elim turns as (λ ts.
          (elim ts as (λ _. List StartPath) [
            | [] ↦ []
            | ◌∷◌ turn rest ↦ reads_on (reads core t n rest) (step core s t turn)
          ]) ≡ reads_behind (leg_reads core t n) (turned core t ts s)) [
            | [] ↦ refl
            | ◌∷◌ turn rest ↦ reads-same core t n rest (step core s t turn) (run-reads core t n rest)
          ]
      | false ↦ ap (λ xs. next_read core s t ++ xs)
          (reads-same core t n turns (step core s t Right) (run-reads core t n turns))
    ]

-- ---- a step reads one path at most

one_path : (v : Value) → length (paths_in v) ≤ 1
one_path Plain = omega arith
one_path Opaque = omega arith
one_path Null = omega arith
one_path (Ref (Fresh n)) = omega arith
one_path (Ref (StartOf p)) = one_of p p.fields
  where
    one_of : (p : StartPath) (fields : List FieldId) →
        length (elim fields as (λ _. List StartPath) [ [] ↦ [] | ◌∷◌ f fs ↦ p ∷ [] ]) ≤ 1
    one_of p [] = omega arith
    one_of p (f ∷ fs) = omega arith

given-count : (core : Core) (s : State) (a : Option Touching) →
    length (elim a as (λ _. List StartPath) [ None ↦ [] | Some touching ↦ given_by core s touching ]) ≤ 1
given-count core s None = omega arith
given-count core s (Some (o, f, Read)) = one_path (read core s.store o f)
given-count core s (Some (o, f, Write)) = omega arith

step-count : (core : Core) (s : State) (t : ℕ) → length (step_reads core s t) ≤ 1
step-count core s t =
    elim (wants_turn s t) as (λ b. length (cond b [] (next_read core s t)) ≤ 1) [
      | true ↦ omega arith
      | false ↦ given-count core s (next_touch s t)
    ]

behind-count : (core : Core) (t n : ℕ) (next : Option Going) →
    ((turns : List Turn) (s : State) → length (leg_reads core t n turns s) ≤ n) →
    length (reads_behind (leg_reads core t n) next) ≤ n
behind-count core t n None ih = omega arith
behind-count core t n (Some (s, turns)) ih = ih turns s

pub leg-count : (core : Core) (t n : ℕ) (turns : List Turn) (s : State) → length (leg_reads core t n turns s) ≤ n
leg-count core t zero turns s = omega arith
leg-count core t (suc n) turns s =
    let one = step-count core s t in
    let more = behind-count core t n (one_step core t turns s) (leg-count core t n) in
    let both = length-append (step_reads core s t) (reads_behind (leg_reads core t n) (one_step core t turns s)) in
    omega (arith, one, more, both)
