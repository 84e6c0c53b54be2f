-- A list and the same from its end.
use Rattle.std.proofs.Common.{◌≡◌, ℕ, suc, ◌+◌, ◌-◌, ◌<◌, ◌≤◌, List, [], ◌∷◌, ◌++◌, length, drop, take, reverse, set}
use Rattle.std.proofs.Common.{sym, ap, ◌∙◌, arith, inl, inr, add-one, slice_get, None, Some, zero}
use Rattle.std.proofs.lemmas.Bool.{cases_lt}
use Rattle.std.proofs.lemmas.Option.{get_or_from_slice_get, slice_get_within}
use Rattle.std.proofs.lemmas.List.{take-append-drop, reverse-append, length-reverse, length-drop, set-append_left}
use Rattle.std.proofs.Math.Seq.{drop-cons, drop-append_seam, take-append_seam, take-suc-set, take-length}
use Rattle.std.proofs.Math.ListN.{drop_of_length-le, length-set}

-- the end of a list stands first in its reverse
reversed : {A : Type 0} (k : ℕ) (xs : List A) → reverse xs ≡ reverse (drop k xs) ++ reverse (take k xs)
reversed k xs = ap reverse (sym (take-append-drop k xs)) ∙ reverse-append (take k xs) (drop k xs)

dropped_within : {A : Type 0} (n : ℕ) (xs : List A) → n ≤ length xs →
    drop n (reverse xs) ≡ reverse (take (length xs - n) xs)
dropped_within {A} n xs within =
    let k : ℕ = length xs - n in
    let back : List A = reverse (drop k xs) in
    let counted : length back ≡ n =
    length-reverse (drop k xs) ∙ length-drop k xs ∙ (let e : length xs - (length xs - n) ≡ n = omega arith in e) in
    ap (drop n) (reversed k xs)
    ∙ ap (λ m. drop m (back ++ reverse (take k xs))) (sym counted)
    ∙ drop-append_seam back (reverse (take k xs))

-- so many from the top of a stack
pub drop_reversed : {A : Type 0} (n : ℕ) (xs : List A) → drop n (reverse xs) ≡ reverse (take (length xs - n) xs)
drop_reversed n xs =
    elim (cases_lt (length xs) n) [
      | inl past ↦
          let none : length xs - n ≡ 0 = omega arith in
          drop_of_length-le (reverse xs) (let e : length (reverse xs) ≤ n = simp length-reverse (omega arith) in e)
          ∙ ap (λ m. reverse (take m xs)) (sym none)
      | inr within ↦ dropped_within n xs within
    ]

-- one put on what is left of a stack
pub put_reversed : {A : Type 0} (n k : ℕ) (xs : List A) (x : A) → k ≡ length xs - n → k < length xs →
    reverse (take (k + 1) (set xs k x)) ≡ x ∷ drop n (reverse xs)
put_reversed n k xs x is_left within =
    ap (λ m. reverse (take m (set xs k x))) (add-one k)
    ∙ ap reverse (take-suc-set xs k x within)
    ∙ reverse-append (take k xs) (x ∷ [])
    ∙ ap (λ ys. x ∷ ys) (ap (λ m. reverse (take m xs)) is_left ∙ sym (drop_reversed n xs))

-- one put on a stack of which nothing is taken
pub pushed_reversed : {A : Type 0} (n : ℕ) (xs : List A) (x : A) → length xs ≡ length xs - n →
    reverse (xs ++ x ∷ []) ≡ x ∷ drop n (reverse xs)
pushed_reversed n xs x none =
    reverse-append xs (x ∷ [])
    ∙ ap (λ ys. x ∷ ys)
    (ap reverse (sym (take-length xs)) ∙ ap (λ m. reverse (take m xs)) none ∙ sym (drop_reversed n xs))

-- two put in the place of the top
pub two_reversed : {A : Type 0} (k : ℕ) (xs : List A) (a b : A) → k + 1 ≡ length xs →
    reverse (set (xs ++ a ∷ []) k b) ≡ a ∷ b ∷ drop 1 (reverse xs)
two_reversed k xs a b is_last =
    let within : k < length xs = omega arith in
    let all : length (set xs k b) ≡ k + 1 = length-set xs k b ∙ sym is_last in
    let put : reverse (set xs k b) ≡ b ∷ drop 1 (reverse xs) =
    ap reverse (sym (take-length (set xs k b)) ∙ ap (λ m. take m (set xs k b)) all)
    ∙ put_reversed 1 k xs b (omega arith) within in
    ap reverse (set-append_left xs (a ∷ []) k b within)
    ∙ reverse-append (set xs k b) (a ∷ [])
    ∙ ap (λ ys. a ∷ ys) put

-- the one under the top taken away
pub pulled_reversed : {A : Type 0} (k : ℕ) (xs : List A) → k + 2 ≡ length xs →
    reverse (take k xs ++ drop (suc k) xs) ≡ take 1 (reverse xs) ++ drop 2 (reverse xs)
pulled_reversed {A} k xs is_under =
    let back : List A = reverse (drop (suc k) xs) in
    let one : length back ≡ 1 =
    length-reverse (drop (suc k) xs) ∙ length-drop (suc k) xs ∙ (let e : length xs - suc k ≡ 1 = omega arith in e) in
    let left : length xs - 2 ≡ k = omega arith in
    let top : take 1 (reverse xs) ≡ back =
    ap (take 1) (reversed (suc k) xs)
    ∙ ap (λ m. take m (back ++ reverse (take (suc k) xs))) (sym one)
    ∙ take-append_seam back (reverse (take (suc k) xs)) in
    let below : drop 2 (reverse xs) ≡ reverse (take k xs) = drop_reversed 2 xs ∙ ap (λ m. reverse (take m xs)) left in
    reverse-append (take k xs) (drop (suc k) xs) ∙ (λ i. sym top i ++ sym below i)

-- the rest of a stack from an element on
pub rest_at : {A : Type 0} (xs : List A) (n : ℕ) (x : A) → slice_get xs n ≡ Some x → drop n xs ≡ x ∷ drop (n + 1) xs
rest_at xs n x found =
    drop-cons xs n x (slice_get_within xs n x found)
    ∙ (λ i. get_or_from_slice_get xs n x x found i ∷ drop (sym (add-one n) i) xs)

pub rest_past : {A : Type 0} (xs : List A) (n : ℕ) → slice_get xs n ≡ None → drop n xs ≡ []
rest_past [] n none = drop_of_length-le [] (omega arith)
rest_past (x ∷ xs) zero none = cc
rest_past (x ∷ xs) (suc n) none = rest_past xs n none

pub rest_past_one : {A : Type 0} (xs : List A) (n : ℕ) → slice_get xs n ≡ None → drop (n + 1) xs ≡ []
rest_past_one [] n none = drop_of_length-le [] (omega arith)
rest_past_one (x ∷ xs) zero none = cc
rest_past_one (x ∷ xs) (suc n) none = ap (λ m. drop m (x ∷ xs)) (add-one (suc n))
    ∙ ap (λ m. drop m xs) (sym (add-one n)) ∙ rest_past_one xs n none
