-- It can be told whether a chain leads from a method to another: first by chains without methods between the two, then
-- by those that go through the methods of smaller numbers, one number more at a time.
use Rattle.std.proofs.Common.{◌≡◌, ℕ, zero, suc, ◌<◌, Bool, true, false, ◌||◌, ◌&&◌, ◌≤◌, ◌⊎◌, ⊎_elim}
use Rattle.std.proofs.Common.{List, [], ◌∷◌}
use Rattle.std.proofs.Common.{◌++◌, length, map, refl, sym, ap, ◌∙◌, subst, arith}
use Rattle.std.specs.Prelude.{nat_eq}
use Rattle.std.specs.List.{list_any, range_with_len}
use Rattle.std.proofs.lemmas.List.FromFn.{get_or-map-range_with_len, length-map-range_with_len}
use Rattle.std.proofs.lemmas.Bool.{cases_lt, eq-eqb, eqb-true, and_from, and_parts, or_cases, or_left, or_right}
use Rattle.std.proofs.lemmas.List.{get_or_past}
use Rattle.racer_base.specs.declared.ids.MethodId.{MethodId}
use Rattle.core_code.specs.Chains.{row_of, Calls, IsChain, flag_of, TellCycles}
use Rattle.core_code.specs.Recursion.{all_rows}
use Rattle.racer_sources_totality.specs.Totality.{IsTotalOnCycles, IsTotalRecursion}
use Rattle.core_code.proofs.ChainLemmas.{chain-append, caller_in_range}
use Rattle.core_code.proofs.Members.{passing, passes}

abbrev pub numbered : ℕ → MethodId
numbered k = record { 0 = k }

abbrev is_same : MethodId → MethodId → Bool
is_same n m = nat_eq m.0 n.0

same-is : (n m : MethodId) → is_same n m ≡ true → m ≡ n
same-is n m h = ap numbered (eqb-true m.0 n.0 h)

is-same : (n : MethodId) → is_same n n ≡ true
is-same n = eq-eqb n.0 n.0 refl

module _ (rows : List (List MethodId)) where
  -- whether one calls the other
  abbrev calls : MethodId → MethodId → Bool
  calls m n = list_any (is_same n) (row_of rows m)

  -- whether a chain leads from one to the other by methods of numbers below this one
  abbrev pub reaches : ℕ → MethodId → MethodId → Bool
  reaches zero m n = calls m n
  reaches (suc k) m n = reaches k m n || (reaches k m (numbered k) && reaches k (numbered k) n)

  abbrev through : ℕ → MethodId → MethodId → Bool
  through k m n = reaches k m (numbered k) && reaches k (numbered k) n

  calls-is : (m n : MethodId) → calls m n ≡ true → Calls rows m n
  calls-is m n h =
      let found = passing (is_same n) (row_of rows m) h in
      subst (λ x. Calls rows m x) (same-is n found.0 found.2) found.1

  calls-told : (m n : MethodId) → Calls rows m n → calls m n ≡ true
  calls-told m n h = passes (is_same n) (row_of rows m) n h (is-same n)

  -- ---- what is told is so

  pub reaches-is : (k : ℕ) (m n : MethodId) → reaches k m n ≡ true
      → (between : List MethodId) × IsChain rows m between n
  reaches-is zero m n h = ([], calls-is m n h)
  reaches-is (suc k) m n h =
      ⊎_elim
      (λ (direct : reaches k m n ≡ true). reaches-is k m n direct)
      (λ (there : through k m n ≡ true).
      let first = reaches-is k m (numbered k) (and_parts (reaches k m (numbered k)) _ there).0 in
      let rest = reaches-is k (numbered k) n (and_parts (reaches k m (numbered k)) _ there).1 in
      (first.0 ++ numbered k ∷ rest.0, chain-append rows m first.0 (numbered k) rest.0 n first.1 rest.1))
      (or_cases (reaches k m n) (through k m n) h)

  -- ---- what is so is told

  kept : (k : ℕ) (m n : MethodId) → reaches k m n ≡ true → reaches (suc k) m n ≡ true
  kept k m n h = or_left (reaches k m n) (through k m n) h

  passed : (k : ℕ) (m n : MethodId) → reaches k m (numbered k) ≡ true → reaches k (numbered k) n ≡ true
      → reaches (suc k) m n ≡ true
  passed k m n first rest =
      or_right (reaches k m n) (through k m n)
      (and_from (reaches k m (numbered k)) (reaches k (numbered k) n) first rest)

  pub called : (k : ℕ) (m n : MethodId) → Calls rows m n → reaches k m n ≡ true
  called zero m n h = calls-told m n h
  called (suc k) m n h = kept k m n (called k m n h)

  -- to a method by itself
  to-itself : (k : ℕ) (m : MethodId) → reaches (suc k) m (numbered k) ≡ true → reaches k m (numbered k) ≡ true
  to-itself k m h =
      ⊎_elim (λ e. e) (λ there. (and_parts (reaches k m (numbered k)) _ there).0)
      (or_cases (reaches k m (numbered k)) (through k m (numbered k)) h)

  from-itself : (k : ℕ) (n : MethodId) → reaches (suc k) (numbered k) n ≡ true → reaches k (numbered k) n ≡ true
  from-itself k n h =
      ⊎_elim (λ e. e) (λ there. (and_parts (reaches k (numbered k) (numbered k)) _ there).1)
      (or_cases (reaches k (numbered k) n) (through k (numbered k) n) h)

  -- by a method of a number below this one
  pub by : (k : ℕ) (a b c : MethodId) → b.0 < k → reaches k a b ≡ true → reaches k b c ≡ true → reaches k a c ≡ true
  by zero a b c low first rest = absurd (omega (arith, low))
  by (suc k) a b c low first rest =
      ⊎_elim
      (λ (below : b.0 < k).
      ⊎_elim
      (λ (one : reaches k a b ≡ true).
      ⊎_elim
      (λ (two : reaches k b c ≡ true). kept k a c (by k a b c below one two))
      (λ (two : through k b c ≡ true).
      passed k a c (by k a b (numbered k) below one (and_parts (reaches k b (numbered k)) _ two).0)
      (and_parts (reaches k b (numbered k)) _ two).1)
      (or_cases (reaches k b c) (through k b c) rest))
      (λ (one : through k a b ≡ true).
      passed k a c (and_parts (reaches k a (numbered k)) _ one).0
      (⊎_elim
      (λ (two : reaches k b c ≡ true). by k (numbered k) b c below (and_parts (reaches k a (numbered k)) _ one).1 two)
      (λ (two : through k b c ≡ true). (and_parts (reaches k b (numbered k)) _ two).1)
      (or_cases (reaches k b c) (through k b c) rest)))
      (or_cases (reaches k a b) (through k a b) first))
      (λ (high : k ≤ b.0).
      let same : b.0 ≡ k = omega (arith, low, high) in
      let is : b ≡ numbered k = ap numbered same in
      passed k a c (to-itself k a (subst (λ x. reaches (suc k) a x ≡ true) is first))
      (from-itself k c (subst (λ x. reaches (suc k) x c ≡ true) is rest)))
      (cases_lt b.0 k)

  -- the first method of a chain has a row
  first-in-range : (m : MethodId) (between : List MethodId) (n : MethodId) → IsChain rows m between n
      → m.0 < length rows
  first-in-range m [] n call = caller_in_range rows m n call
  first-in-range m (next ∷ between) n (call, others) = caller_in_range rows m next call

  pub chain-told : (m : MethodId) (between : List MethodId) (n : MethodId) → IsChain rows m between n
      → reaches (length rows) m n ≡ true
  chain-told m [] n call = called (length rows) m n call
  chain-told m (next ∷ between) n (call, others) =
      by (length rows) m next n (first-in-range next between n others) (called (length rows) m next call)
      (chain-told next between n others)

  -- ---- the flags

  abbrev pub on-cycle : ℕ → Bool
  on-cycle k = reaches (length rows) (numbered k) (numbered k)

  abbrev pub cycle_flags : List Bool
  cycle_flags = map on-cycle (range_with_len 0 (length rows))

  flag-is : (m : MethodId) → m.0 < length rows → flag_of cycle_flags m ≡ reaches (length rows) m m
  flag-is m low = get_or-map-range_with_len on-cycle 0 (length rows) m.0 m.0 false low (omega arith)

  flag-past : (m : MethodId) → length rows ≤ m.0 → flag_of cycle_flags m ≡ false
  flag-past m high =
      get_or_past cycle_flags m.0 false
      (subst (λ n. n ≤ m.0) (sym (length-map-range_with_len on-cycle 0 (length rows))) high)

  pub are-told : TellCycles rows cycle_flags
  are-told m = (
    λ h.
        ⊎_elim
        (λ (low : m.0 < length rows). reaches-is (length rows) m m (sym (flag-is m low) ∙ h))
        (λ (high : length rows ≤ m.0).
        absurd (let wrong : false ≡ true = sym (flag-past m high) ∙ h in cc))
        (cases_lt m.0 (length rows)),
    λ h. flag-is m (first-in-range m h.0 m h.1) ∙ chain-told m h.0 m h.1,
  )

pub cycles-told : IsTotalOnCycles
cycles-told rows = (cycle_flags rows, are-told rows)

pub recursion-told : IsTotalRecursion
recursion-told core = cycles-told (all_rows core)
