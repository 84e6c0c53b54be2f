-- Columns of numbers: what one more number changes, how often each stands there, and how many fit.
use Rattle.std.proofs.Common.{◌≡◌, ℕ, zero, suc, ◌+◌, ◌≤◌, ◌<◌, inl, inr, List, [], ◌∷◌, ◌++◌, length, nat_eq}
use Rattle.std.proofs.Common.{slice_index, slice_set, replicate, refl, ap, ◌∙◌, arith}
use Rattle.std.proofs.lemmas.Bool.{cases_eq}
use Rattle.std.proofs.lemmas.List.{length-append, get_or-set_same, get_or-set_other}
use Rattle.row_links.specs.Lists.{one_if, times}
use Rattle.row_links.proofs.Counting.{same_once, other_never, times-append}
use Rattle.row_links.proofs.Joining.{parted}

pub set_here : (xs : List ℕ) (i v : ℕ) → i < length xs → slice_index (slice_set xs i v) i ≡ v
set_here xs i v low = get_or-set_same xs i v 0 low

pub set_other : (xs : List ℕ) (i j v : ℕ) → (j ≡ i → ⊥) → slice_index (slice_set xs i v) j ≡ slice_index xs j
set_other xs i j v other = get_or-set_other xs i j v 0 other

pub times-set_column : (c i v : ℕ) (xs : List ℕ) → i < length xs →
    times c (slice_set xs i v) + one_if (nat_eq c (slice_index xs i)) ≡ times c xs + one_if (nat_eq c v)
times-set_column c i v [] low = absurd (let h : i < 0 = low in omega arith)
times-set_column c zero v (x ∷ xs) low = omega arith
times-set_column c (suc i) v (x ∷ xs) low = let long : length (x ∷ xs) ≡ suc (length xs) = refl in
    let rest = times-set_column c i v xs (omega arith) in omega arith

pub there : (i : ℕ) (xs : List ℕ) → i < length xs → 0 < times (slice_index xs i) xs
there i [] low = absurd (let h : i < 0 = low in omega arith)
there zero (x ∷ xs) low = let one = same_once x x refl in omega arith
there (suc i) (x ∷ xs) low = let long : length (x ∷ xs) ≡ suc (length xs) = refl in
    let rest = there i xs (omega arith) in omega arith

pub times-most : (c : ℕ) (xs : List ℕ) → times c xs ≤ length xs
times-most c [] = omega arith
times-most c (x ∷ xs) = let rest = times-most c xs in let long : length (x ∷ xs) ≡ suc (length xs) = refl in
    elim (cases_eq c x) [
      | inl e ↦ let one = same_once c x e in omega arith
      | inr e ↦ let never = other_never c x e in omega arith
    ]

pub times-replicate_same : (x n : ℕ) → times x (replicate n x) ≡ n
times-replicate_same x zero = refl
times-replicate_same x (suc n) = let one = same_once x x refl in let rest = times-replicate_same x n in omega arith

pub times-replicate_other : (c x n : ℕ) → (c ≡ x → ⊥) → times c (replicate n x) ≡ 0
times-replicate_other c x zero other = refl
times-replicate_other c x (suc n) other = let never = other_never c x other in
    let rest = times-replicate_other c x n other in omega arith

pub index-replicate : (i x n : ℕ) → i < n → slice_index (replicate n x) i ≡ x
index-replicate i x zero low = absurd (omega arith)
index-replicate zero x (suc n) low = refl
index-replicate (suc i) x (suc n) low = index-replicate i x n (omega arith)

-- a column that has all numbers below one is at least as long
pub all_fit : (m : ℕ) (xs : List ℕ) → ((c : ℕ) → c < m → 0 < times c xs) → m ≤ length xs
all_fit zero xs all = omega arith
all_fit (suc m) xs all = let parts = parted m xs (all m (omega arith)) in
    let long = ap length parts.2 ∙ length-append parts.0 (m ∷ parts.1) in
    let last : length (m ∷ parts.1) ≡ suc (length parts.1) = refl in
    let shorter = length-append parts.0 parts.1 in
    let rest : m ≤ length (parts.0 ++ parts.1) = all_fit m (parts.0 ++ parts.1)
    (λ c low. let some = all c (omega arith) in let whole = ap (times c) parts.2
    ∙ times-append c parts.0 (m ∷ parts.1) in
    let both = times-append c parts.0 parts.1 in let never = other_never c m (λ e. omega arith) in omega arith) in
    omega arith

-- and longer, where one of them stands twice
pub one_twice : (m x : ℕ) (xs ys : List ℕ) → ((c : ℕ) → c < m → 0 < times c xs + times c ys) → 0 < times x xs →
    0 < times x ys → m < length xs + length ys
one_twice m x xs ys all in_xs in_ys = let parts = parted x ys in_ys in
    let long = ap length parts.2 ∙ length-append parts.0 (x ∷ parts.1) in
    let last : length (x ∷ parts.1) ≡ suc (length parts.1) = refl in
    let shorter = length-append parts.0 parts.1 in let together = length-append xs (parts.0 ++ parts.1) in
    let rest : m ≤ length (xs ++ (parts.0 ++ parts.1)) = all_fit m (xs ++ (parts.0 ++ parts.1))
    (λ c low. let some = all c low in let whole = ap (times c) parts.2 ∙ times-append c parts.0 (x ∷ parts.1) in
    let both = times-append c parts.0 parts.1 in let joined = times-append c xs (parts.0 ++ parts.1) in
    elim (cases_eq c x) [
      | inl e ↦ let same = ap (λ z. times z xs) e in omega arith
      | inr e ↦ let never = other_never c x e in omega arith
    ]) in omega arith
