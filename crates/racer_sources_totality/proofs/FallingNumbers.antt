-- Where no method is on a cycle, how many methods each one leads to falls along calls.
use Rattle.std.proofs.Common.{◌≡◌, ℕ, zero, suc, ◌+◌, ◌<◌, ◌≤◌, Bool, true, false, cond, ⊎_elim, List, map}
use Rattle.std.proofs.Common.{length, refl, sym, subst, arith}
use Rattle.std.specs.List.{range_with_len}
use Rattle.std.proofs.lemmas.Bool.{cases_lt}
use Rattle.std.proofs.lemmas.List.FromFn.{get_or-map-range_with_len, length-map-range_with_len}
use Rattle.racer_base.specs.declared.ids.MethodId.{MethodId}
use Rattle.core_code.specs.Falling.{number_of, DoFall}
use Rattle.core_code.proofs.ChainLemmas.{caller_in_range}
use Rattle.racer_sources_totality.specs.Totality.{AreInRange, AreAcyclic, FallBelow, HaveNumbers}
use Rattle.racer_sources_totality.proofs.ToldCycles.{numbered, reaches, reaches-is, called, by}

-- ---- counting

-- how many of the numbers below n pass a test
abbrev count : (ℕ → Bool) → ℕ → ℕ
count test zero = 0
count test (suc n) = cond (test n) 1 0 + count test n

abbrev Within : (p q : ℕ → Bool) → Type 0
Within p q = (i : ℕ) → p i ≡ true → q i ≡ true

one-within : (a b : Bool) → (a ≡ true → b ≡ true) → cond {A = ℕ} a 1 0 ≤ cond b 1 0
one-within true b h = subst (λ c. 1 ≤ cond {A = ℕ} c 1 0) (sym (h refl)) (omega arith)
one-within false b h = omega arith

within : (p q : ℕ → Bool) (n : ℕ) → Within p q → count p n ≤ count q n
within p q zero h = omega arith
within p q (suc n) h = omega (arith, within p q n h, one-within (p n) (q n) (h n))

one-more : (a b : Bool) → a ≡ false → b ≡ true → cond {A = ℕ} a 1 0 < cond b 1 0
one-more true b e f = absurd cc
one-more false true e f = omega arith
one-more false false e f = absurd cc

more : (p q : ℕ → Bool) (n k : ℕ) → k < n → Within p q → p k ≡ false → q k ≡ true → count p n < count q n
more p q zero k low h e f = absurd (omega (arith, low))
more p q (suc n) k low h e f =
    ⊎_elim
    (λ (less : k < n). omega (arith, more p q n k less h e f, one-within (p n) (q n) (h n)))
    (λ (high : n ≤ k).
    let same : k ≡ n = omega (arith, low, high) in
    omega (
      arith,
      within p q n h,
      one-more (p n) (q n) (subst (λ i. p i ≡ false) same e) (subst (λ i. q i ≡ true) same f),
    ))
    (cases_lt k n)

all-count : (n : ℕ) → count (λ _. true) n ≡ n
all-count zero = refl
all-count (suc n) = omega (arith, all-count n)

few : (p : ℕ → Bool) (n k : ℕ) → k < n → p k ≡ false → count p n < n
few p n k low e =
    subst (λ m. count p n < m) (all-count n) (more p (λ _. true) n k low (λ i h. refl) e refl)

-- ---- numbers

module _ (rows : List (List MethodId)) (range : AreInRange rows) (acyclic : AreAcyclic rows) where
  abbrev leads : MethodId → ℕ → Bool
  leads m i = reaches rows (length rows) m (numbered i)

  abbrev amount : ℕ → ℕ
  amount k = count (leads (numbered k)) (length rows)

  abbrev numbers : List ℕ
  numbers = map amount (range_with_len 0 (length rows))

  number-is : (m : MethodId) → m.0 < length rows → number_of numbers m ≡ amount m.0
  number-is m low = get_or-map-range_with_len amount 0 (length rows) m.0 m.0 0 low (omega arith)

  not-itself : (m : MethodId) (b : Bool) → leads m m.0 ≡ b → b ≡ false
  not-itself m true e = absurd (acyclic m (reaches-is rows (length rows) m m e))
  not-itself m false e = refl

  falls : DoFall rows numbers
  falls m n call =
      let first : m.0 < length rows = caller_in_range rows m n call in
      let second : n.0 < length rows = range m n call in
      let fewer : amount n.0 < amount m.0 =
      more (leads n) (leads m) (length rows) n.0 second
      (λ i h. by rows (length rows) m n (numbered i) second (called rows (length rows) m n call) h)
      (not-itself n (leads n n.0) refl) (called rows (length rows) m n call) in
      omega (arith, fewer, number-is m first, number-is n second)

  below : FallBelow rows numbers
  below m low =
      let fewer : amount m.0 < length rows =
      few (leads m) (length rows) m.0 low (not-itself m (leads m m.0) refl) in
      omega (arith, fewer, number-is m low)

  have-numbers : HaveNumbers rows
  have-numbers = (
    numbers,
    record {
      as_many = length-map-range_with_len amount 0 (length rows);
      fall = falls;
      below = below;
    },
  )

pub numbers-fall : (rows : List (List MethodId)) → AreInRange rows → AreAcyclic rows → HaveNumbers rows
numbers-fall rows range acyclic = have-numbers rows range acyclic
