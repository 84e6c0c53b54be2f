-- Legs, one behind another.
use Rattle.std.proofs.Common.{◌≡◌, ℕ, zero, suc, ◌+◌, true, false, cond, List, [], ◌∷◌, ◌++◌, Option, None, Some}
use Rattle.std.proofs.Common.{refl, sym, ap, ◌∙◌, append_assoc, arith}
use Rattle.core_code.specs.Core.{Core}
use Rattle.core_semantics.specs.declared.answer.Turn.{Turn}
use Rattle.core_semantics.specs.declared.answer.Turn.TheVariants.{Right}
use Rattle.core_semantics.specs.declared.object.StartPath.{StartPath}
use Rattle.core_semantics.specs.Runs.{wants_turn}
use Rattle.core_semantics.specs.State.{State}
use Rattle.core_semantics.specs.Steps.{step}
use Rattle.core_semantics.specs.Advances.{Going, made_of, one_step}
use Rattle.core_ways.specs.Ends.{end_behind, leg_end, leg_reads, reads_behind}
use Rattle.core_semantics.specs.Advances.{straight, turned, with_turns}
use Rattle.core_ways.specs.Ends.{step_reads}
use Rattle.core_semantics.specs.Changes.{Change, Quiet, Stores, Loud, Spot, step_change, step_looks}
use Rattle.witness_build_apart_laws.specs.Goes.{goes_behind, leg_goes}
use Rattle.witness_build_apart_laws.specs.Looks.{leg_looks, looks_behind}
use Rattle.witness_build_apart_laws.specs.Stores.{leg_stores, noted, stored_both, stores_behind}

-- with more turns behind
abbrev longer : List Turn → Option Going → Option Going
longer more None = None
longer more (Some (s, turns)) = Some (s, turns ++ more)

-- equal places have equal parts
pub both : (s to : State) (ts us : List Turn) → ◌≡◌ {A = Option Going} (Some (s, ts)) (Some (to, us)) → (s ≡ to)
    × (ts ≡ us)
both s to ts us e =
    let pair : ◌≡◌ {A = Going} (s, ts) (to, us) = cc in
    (ap (λ (g : Going). g.0) pair, ap (λ (g : Going). g.1) pair)

some-longer : (more : List Turn) (turns : List Turn) (o : Option State) (s : State) (left : List Turn) →
    with_turns turns o ≡ Some (s, left) → with_turns (turns ++ more) o ≡ Some (s, left ++ more)
some-longer more turns None s left e = absurd cc
some-longer more turns (Some x) s left e =
    let pair = both x s turns left e in
    let state = pair.0 in
    let same = pair.1 in
    (λ i. let g : Option Going = Some (state i, same i ++ more) in g)

-- a step that is made is made with more turns behind
step-longer : (core : Core) (t : ℕ) (turns more : List Turn) (s next : State) (left : List Turn) →
    one_step core t turns s ≡ Some (next, left) → one_step core t (turns ++ more) s ≡ Some (next, left ++ more)
step-longer core t turns more s next left =
    elim (wants_turn s t) as (λ w. cond w (turned core t turns s) (straight core t turns s) ≡ Some (next, left) →
    cond w (turned core t (turns ++ more) s) (straight core t (turns ++ more) s) ≡ Some (next, left ++ more)) [
      | true ↦ elim turns as (λ ts. turned core t ts s ≡ Some (next, left) →
          turned core t (ts ++ more) s ≡ Some (next, left ++ more)) [
            | [] ↦ λ e. absurd cc
            | ◌∷◌ turn rest ↦ λ e. some-longer more rest (made_of (step core s t turn)) next left e
          ]
      | false ↦ λ e. some-longer more turns (made_of (step core s t Right)) next left e
    ]

-- the first step of steps that are all made
pub record First (core : Core) (t n : ℕ) (turns : List Turn) (s to : State) (left : List Turn) : Type 0 where
  pub next : State
  pub rest : List Turn
  pub made : one_step core t turns s ≡ Some (next, rest)
  pub goes : leg_goes core t n rest next ≡ Some (to, left)

pub first-of : (core : Core) (t n : ℕ) (turns : List Turn) (s to : State) (left : List Turn) (o : Option Going) →
    one_step core t turns s ≡ o → goes_behind (leg_goes core t n) o ≡ Some (to, left) →
    First core t n turns s to left
first-of core t n turns s to left None is e = absurd cc
first-of core t n turns s to left (Some (next, rest)) is e = record { next = next; rest = rest; made = is; goes = e }

one-more : (m n : ℕ) → suc m + n ≡ suc (m + n)
one-more m n = omega arith

pub goes-on : (core : Core) (t m n : ℕ) (first rest : List Turn) (s to : State) (left : List Turn) →
    leg_goes core t m first s ≡ Some (to, left) →
    leg_goes core t (m + n) (first ++ rest) s ≡ leg_goes core t n (left ++ rest) to
goes-on core t zero n first rest s to left e =
    let pair = both s to first left e in
    let state = pair.0 in
    let same = pair.1 in
    let none : 0 + n ≡ n = omega arith in
    (λ i. leg_goes core t (none i) (same i ++ rest) (state i))
goes-on core t (suc m) n first rest s to left e =
    let f = first-of core t m first s to left (one_step core t first s) refl e in
    ap (λ (k : ℕ). leg_goes core t k (first ++ rest) s) (one-more m n)
    ∙ ap (goes_behind (leg_goes core t (m + n))) (step-longer core t first rest s f.next f.rest f.made)
    ∙ goes-on core t m n f.rest rest f.next to left f.goes

pub ends-on : (core : Core) (t m n : ℕ) (first rest : List Turn) (s to : State) (left : List Turn) →
    leg_goes core t m first s ≡ Some (to, left) →
    leg_end core t (m + n) (first ++ rest) s ≡ leg_end core t n (left ++ rest) to
ends-on core t zero n first rest s to left e =
    let pair = both s to first left e in
    let state = pair.0 in
    let same = pair.1 in
    let none : 0 + n ≡ n = omega arith in
    (λ i. leg_end core t (none i) (same i ++ rest) (state i))
ends-on core t (suc m) n first rest s to left e =
    let f = first-of core t m first s to left (one_step core t first s) refl e in
    ap (λ (k : ℕ). leg_end core t k (first ++ rest) s) (one-more m n)
    ∙ ap (end_behind s (leg_end core t (m + n))) (step-longer core t first rest s f.next f.rest f.made)
    ∙ ends-on core t m n f.rest rest f.next to left f.goes

pub reads-go-on : (core : Core) (t m n : ℕ) (first rest : List Turn) (s to : State) (left : List Turn) →
    leg_goes core t m first s ≡ Some (to, left) →
    leg_reads core t (m + n) (first ++ rest) s ≡ leg_reads core t m first s ++ leg_reads core t n (left ++ rest) to
reads-go-on core t zero n first rest s to left e =
    let pair = both s to first left e in
    let state = pair.0 in
    let same = pair.1 in
    let none : 0 + n ≡ n = omega arith in
    (λ i. leg_reads core t (none i) (same i ++ rest) (state i))
reads-go-on core t (suc m) n first rest s to left e =
    let f = first-of core t m first s to left (one_step core t first s) refl e in
    ap (λ (k : ℕ). leg_reads core t k (first ++ rest) s) (one-more m n)
    ∙ ap (λ (o : Option Going). step_reads core s t ++ reads_behind (leg_reads core t (m + n)) o)
    (step-longer core t first rest s f.next f.rest f.made)
    ∙ ap (λ (xs : List StartPath). step_reads core s t ++ xs) (reads-go-on core t m n f.rest rest f.next to left f.goes)
    ∙ sym (append_assoc (step_reads core s t) (leg_reads core t m f.rest f.next) (leg_reads core t n (left ++ rest) to))
    ∙ ap (λ (o : Option Going). (step_reads core s t ++ reads_behind (leg_reads core t m) o)
    ++ leg_reads core t n (left ++ rest) to) (sym f.made)

pub looks-go-on : (core : Core) (t m n : ℕ) (first rest : List Turn) (s to : State) (left : List Turn) →
    leg_goes core t m first s ≡ Some (to, left) →
    leg_looks core t (m + n) (first ++ rest) s ≡ leg_looks core t m first s ++ leg_looks core t n (left ++ rest) to
looks-go-on core t zero n first rest s to left e =
    let pair = both s to first left e in
    let state = pair.0 in
    let same = pair.1 in
    let none : 0 + n ≡ n = omega arith in
    (λ i. leg_looks core t (none i) (same i ++ rest) (state i))
looks-go-on core t (suc m) n first rest s to left e =
    let f = first-of core t m first s to left (one_step core t first s) refl e in
    ap (λ (k : ℕ). leg_looks core t k (first ++ rest) s) (one-more m n)
    ∙ ap (λ (o : Option Going). step_looks core s t ++ looks_behind (leg_looks core t (m + n)) o)
    (step-longer core t first rest s f.next f.rest f.made)
    ∙ ap (λ (xs : List Spot). step_looks core s t ++ xs) (looks-go-on core t m n f.rest rest f.next to left f.goes)
    ∙ sym (append_assoc (step_looks core s t) (leg_looks core t m f.rest f.next) (leg_looks core t n (left ++ rest) to))
    ∙ ap (λ (o : Option Going). (step_looks core s t ++ looks_behind (leg_looks core t m) o)
    ++ leg_looks core t n (left ++ rest) to) (sym f.made)

noted-both : (c : Change) (a b : Option (List Spot)) → noted c (stored_both a b) ≡ stored_both (noted c a) b
noted-both Quiet a b = refl
noted-both (Stores o f) None b = refl
noted-both (Stores o f) (Some xs) None = refl
noted-both (Stores o f) (Some xs) (Some ys) = refl
noted-both Loud a b = refl

none-first : (b : Option (List Spot)) → b ≡ stored_both (Some []) b
none-first None = refl
none-first (Some ys) = refl

pub stores-go-on : (core : Core) (t m n : ℕ) (first rest : List Turn) (s to : State) (left : List Turn) →
    leg_goes core t m first s ≡ Some (to, left) →
    leg_stores core t (m + n) (first ++ rest) s
    ≡ stored_both (leg_stores core t m first s) (leg_stores core t n (left ++ rest) to)
stores-go-on core t zero n first rest s to left e =
    let pair = both s to first left e in
    let state = pair.0 in
    let same = pair.1 in
    let none : 0 + n ≡ n = omega arith in
    (λ i. leg_stores core t (none i) (same i ++ rest) (state i)) ∙ none-first (leg_stores core t n (left ++ rest) to)
stores-go-on core t (suc m) n first rest s to left e =
    let f = first-of core t m first s to left (one_step core t first s) refl e in
    ap (λ (k : ℕ). leg_stores core t k (first ++ rest) s) (one-more m n)
    ∙ ap (λ (o : Option Going). noted (step_change core s t) (stores_behind (leg_stores core t (m + n)) o))
    (step-longer core t first rest s f.next f.rest f.made)
    ∙ ap (noted (step_change core s t)) (stores-go-on core t m n f.rest rest f.next to left f.goes)
    ∙ noted-both (step_change core s t) (leg_stores core t m f.rest f.next) (leg_stores core t n (left ++ rest) to)
    ∙ ap (λ (o : Option Going). stored_both (noted (step_change core s t) (stores_behind (leg_stores core t m) o))
    (leg_stores core t n (left ++ rest) to)) (sym f.made)
