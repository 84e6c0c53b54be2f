-- The stack and the variables of a frame.
use Rattle.std.proofs.Common.{◌≡◌, ℕ, suc, ◌-◌, ◌<◌, ◌≤◌, List, [], ◌∷◌, ◌++◌, None, length, drop, take, reverse}
use Rattle.std.proofs.Common.{sym, ap, ◌∙◌, arith, inl, inr, append_assoc, get_or, replicate, slice_get, unwrap_or}
use Rattle.std.proofs.lemmas.Bool.{cases_lt}
use Rattle.std.proofs.lemmas.List.{length-append, length-reverse, take_all, take_rest}
use Rattle.std.proofs.Math.Seq.{take-length}
use Rattle.std.proofs.lemmas.Option.{unwrap_or-slice_get}
use Rattle.core_semantics.proofs.Stacks.{drop_reversed}

-- where nothing is, there is the default
pub none_at : {A : Type 0} (xs : List A) (n : ℕ) (d : A) → slice_get xs n ≡ None → get_or xs n d ≡ d
none_at xs n d none = sym (unwrap_or-slice_get xs n d) ∙ ap (λ o. unwrap_or o d) none

take_all_but : {A : Type 0} (n : ℕ) (xs : List A) → take (length xs - (length xs - n)) xs ≡ take n xs
take_all_but n xs =
    elim (cases_lt (length xs) n) [
      | inl past ↦
          let all : length xs - (length xs - n) ≡ length xs = omega arith in
          ap (λ m. take m xs) all ∙ take-length xs ∙ sym (take_all n xs (let e : length xs ≤ n = omega arith in e))
      | inr within ↦ let some : length xs - (length xs - n) ≡ n = omega arith in ap (λ m. take m xs) some
    ]

-- so many from the top of a stack, the top last
pub top_of_stack : {A : Type 0} (n k : ℕ) (xs all : List A) → all ≡ reverse xs → k ≡ length all - n →
    take (length all - k) (drop k all) ≡ reverse (take n xs)
top_of_stack n k xs all same is_rest =
    let rest : k ≡ length xs - n =
    is_rest ∙ ap (λ ys. length ys - n) same ∙ ap (λ m. m - n) (length-reverse xs) in
    take_rest all k
    ∙ ap (drop k) same
    ∙ drop_reversed k xs
    ∙ ap (λ m. reverse (take (length xs - m) xs)) rest
    ∙ ap reverse (take_all_but n xs)

-- one more of what fills up
pub one_more : {A : Type 0} (xs : List A) (x : A) (n : ℕ) → length xs < n →
    (xs ++ x ∷ []) ++ replicate (n - length (xs ++ x ∷ [])) x ≡ xs ++ replicate (n - length xs) x
one_more xs x n less =
    let longer = length-append xs (x ∷ []) in
    let counts : n - length xs ≡ suc (n - length (xs ++ x ∷ [])) = omega (arith, longer) in
    append_assoc xs (x ∷ []) (replicate (n - length (xs ++ x ∷ [])) x)
    ∙ ap (λ m. xs ++ replicate m x) (sym counts)
