-- A stack whose top stands last, seen with its top first.
use Rattle.std.proofs.Common.{[], ◌∷◌, ◌+◌, ◌<◌, suc, replicate, append_assoc}
use Rattle.std.proofs.Common.{◌≡◌, ℕ, ◌-◌, true, false, List, ◌++◌, length, take, drop, reverse, nat_lt}
use Rattle.std.proofs.Common.{sym, ap, ◌∙◌, refl, arith}
use Rattle.std.proofs.Math.Seq.{drop-append_seam, take-append_seam}
use Rattle.std.proofs.lemmas.Bool.{ltb-true, ltb-false}
use Rattle.std.proofs.lemmas.List.{drop_all, take_all, length-reverse, length-drop}
use Rattle.std.proofs.lemmas.List.{take-append-drop, reverse-append, reverse-reverse}
use Rattle.owner_domain.specs.declared.numbered.NumberedValue.{NumberedValue}
use Rattle.owner_domain.specs.declared.numbered.NumberedState.{NumberedState}

-- so many taken from the top
pub drop-reverse : {X : Type 0} (xs : List X) (n : ℕ) → drop n (reverse xs) ≡ reverse (take (length xs - n) xs)
drop-reverse xs n =
    elim (nat_lt (length xs) n) as (λ b. nat_lt (length xs) n ≡ b →
    drop n (reverse xs) ≡ reverse (take (length xs - n) xs)) [
      | true ↦ λ e.
          let more = ltb-true (length xs) n e in
          let none : length xs - n ≡ 0 = omega arith in
          drop_all n (reverse xs) (omega (arith, length-reverse xs))
          ∙ sym (ap (λ (k : ℕ). reverse (take k xs)) none)
      | false ↦ λ e.
          let few = ltb-false (length xs) n e in
          let k : ℕ = length xs - n in
          let split : reverse xs ≡ reverse (drop k xs) ++ reverse (take k xs) =
          ap reverse (sym (take-append-drop k xs)) ∙ reverse-append (take k xs) (drop k xs) in
          let long : n ≡ length (reverse (drop k xs)) =
          omega (arith, length-reverse (drop k xs), length-drop k xs) in
          ap (drop n) split
          ∙ ap (λ (m : ℕ). drop m (reverse (drop k xs) ++ reverse (take k xs))) long
          ∙ drop-append_seam (reverse (drop k xs)) (reverse (take k xs))
    ] refl

pub take-reverse : {X : Type 0} (xs : List X) (n : ℕ) → take n (reverse xs) ≡ reverse (drop (length xs - n) xs)
take-reverse xs n =
    elim (nat_lt (length xs) n) as (λ b. nat_lt (length xs) n ≡ b →
    take n (reverse xs) ≡ reverse (drop (length xs - n) xs)) [
      | true ↦ λ e.
          let more = ltb-true (length xs) n e in
          let none : length xs - n ≡ 0 = omega arith in
          take_all n (reverse xs) (omega (arith, length-reverse xs))
          ∙ sym (ap (λ (k : ℕ). reverse (drop k xs)) none)
      | false ↦ λ e.
          let few = ltb-false (length xs) n e in
          let k : ℕ = length xs - n in
          let split : reverse xs ≡ reverse (drop k xs) ++ reverse (take k xs) =
          ap reverse (sym (take-append-drop k xs)) ∙ reverse-append (take k xs) (drop k xs) in
          let long : n ≡ length (reverse (drop k xs)) =
          omega (arith, length-reverse (drop k xs), length-drop k xs) in
          ap (take n) split
          ∙ ap (λ (m : ℕ). take m (reverse (drop k xs) ++ reverse (take k xs))) long
          ∙ take-append_seam (reverse (drop k xs)) (reverse (take k xs))
    ] refl

-- the values that are taken stand in the order in which they were pushed
pub taken-values : {X : Type 0} (xs : List X) (n kept : ℕ) → kept ≡ length xs - n →
    drop kept xs ≡ reverse (take n (reverse xs))
taken-values xs n kept e =
    ap (λ (k : ℕ). drop k xs) e
    ∙ sym (ap reverse (take-reverse xs n) ∙ reverse-reverse (drop (length xs - n) xs))

pub taken-rest : {X : Type 0} (xs : List X) (n kept : ℕ) → kept ≡ length xs - n →
    reverse (take kept xs) ≡ drop n (reverse xs)
taken-rest xs n kept e = ap (λ (k : ℕ). reverse (take k xs)) e ∙ sym (drop-reverse xs n)

abbrev pub stack_of : List NumberedValue → List NumberedValue → NumberedState
stack_of vars stack = record { vars = vars; stack = stack }

-- one more value behind the same that are left
pub replicate-turn : {X : Type 0} (before : List X) (n i : ℕ) (x : X) → i < n →
    (before ++ x ∷ []) ++ replicate (n - (i + 1)) x ≡ before ++ replicate (n - i) x
replicate-turn before n i x within =
    let one : suc (n - (i + 1)) ≡ n - i = omega arith in
    append_assoc before (x ∷ []) (replicate (n - (i + 1)) x) ∙ ap (λ (k : ℕ). before ++ replicate k x) one
