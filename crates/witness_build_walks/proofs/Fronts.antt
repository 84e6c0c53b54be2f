-- A list that begins with another.
use Rattle.std.proofs.Common.{◌≡◌, ℕ, suc, ◌+◌, ◌<◌, ◌≤◌, List, [], ◌∷◌, ◌++◌, drop, length, slice_get}
use Rattle.std.proofs.Common.{Option, Some, None, refl, sym, arith, inl, inr, subst}
use Rattle.std.proofs.lemmas.Bool.{cases_lt}
use Rattle.core_semantics.specs.declared.answer.Turn.{Turn}
use Rattle.witness_build_walks.specs.Walks.{IsFront}

-- so many elements are the same in both
abbrev pub AreSame : ℕ → List Turn → List Turn → Type 0
AreSame n front turns = (k : ℕ) → k < n → slice_get turns k ≡ slice_get front k

pub none-same : (front turns : List Turn) → AreSame 0 front turns
none-same front turns = λ k less. absurd (omega (arith, less))

pub more-same : (front turns : List Turn) (n : ℕ) → AreSame n front turns → slice_get turns n ≡ slice_get front n →
    AreSame (n + 1) front turns
more-same front turns n same at = λ k less.
    elim (cases_lt k n) [
      | inl before ↦ same k before
      | inr behind ↦
          let here : n ≡ k = omega (arith, less, behind) in
          subst (λ (j : ℕ). slice_get turns j ≡ slice_get front j) here at
    ]

first-same : (x y : Turn) → ◌≡◌ {A = Option Turn} (Some y) (Some x) → x ≡ y
first-same x y e = let same : y ≡ x = cc in sym same

pub is-front : (front turns : List Turn) → AreSame (length front) front turns → IsFront front turns
is-front [] turns same = refl
is-front (x ∷ xs) [] same =
    absurd (let e : ◌≡◌ {A = Option Turn} None (Some x) = same 0 (omega arith) in cc)
is-front (x ∷ xs) (y ∷ ys) same =
    let first : x ≡ y = first-same x y (same 0 (omega arith)) in
    let rest : xs ++ drop (length xs) ys ≡ ys = is-front xs ys (λ k less. same (suc k) (omega (arith, less))) in
    (λ i. first i ∷ rest i)

pub is-front-of : (front turns : List Turn) (n : ℕ) → AreSame n front turns → length front ≤ n → IsFront front turns
is-front-of front turns n same past = is-front front turns (λ k less. same k (omega (arith, less, past)))
