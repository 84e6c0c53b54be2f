-- How often a number stands in lists, and how long they are together.
use Rattle.std.proofs.Common.{◌≡◌, ℕ, zero, suc, ◌+◌, ◌≤◌, ◌<◌, inl, inr, cond, not, List, [], ◌∷◌, ◌++◌, length, map}
use Rattle.std.proofs.Common.{nat_eq, slice_set, refl, sym, ap, ◌∙◌, arith}
use Rattle.std.specs.List.{concat}
use Rattle.std.proofs.lemmas.Bool.{eq-eqb, cases_eq}
use Rattle.std.proofs.lemmas.List.{length-append}
use Rattle.row_links.specs.Lists.{list_at, without, one_if, times, node_count}
use Rattle.racer_base.proofs.Tests.{different}

pub same_once : (x y : ℕ) → x ≡ y → one_if (nat_eq x y) ≡ 1
same_once x y e = ap one_if (eq-eqb x y e)

pub other_never : (x y : ℕ) → (x ≡ y → ⊥) → one_if (nat_eq x y) ≡ 0
other_never x y e = ap one_if (different x y e)

pub times-append : (x : ℕ) (xs ys : List ℕ) → times x (xs ++ ys) ≡ times x xs + times x ys
times-append x [] ys = omega arith
times-append x (y ∷ xs) ys = let rest = times-append x xs ys in omega arith

-- ---- a list without a number

pub left_out : (x y : ℕ) (xs : List ℕ) → y ≡ x → without x (y ∷ xs) ≡ without x xs
left_out x y xs e = ap (λ b. cond (not b) (y ∷ without x xs) (without x xs)) (eq-eqb y x e)

pub left_in : (x y : ℕ) (xs : List ℕ) → (y ≡ x → ⊥) → without x (y ∷ xs) ≡ (y ∷ without x xs)
left_in x y xs e = ap (λ b. cond (not b) (y ∷ without x xs) (without x xs)) (different y x e)

pub times-without : (x : ℕ) (xs : List ℕ) → times x (without x xs) ≡ 0
times-without x [] = refl
times-without x (y ∷ xs) = elim (cases_eq y x) [
  | inl e ↦ ap (times x) (left_out x y xs e) ∙ times-without x xs
  | inr e ↦ let rest = times-without x xs in let none = other_never x y (λ s. e (sym s)) in
      ap (times x) (left_in x y xs e) ∙ omega arith
]

pub times-without_other : (x z : ℕ) (xs : List ℕ) → (z ≡ x → ⊥) → times z (without x xs) ≡ times z xs
times-without_other x z [] other = refl
times-without_other x z (y ∷ xs) other = elim (cases_eq y x) [
  | inl e ↦ let rest = times-without_other x z xs other in
      let none = other_never z y (λ s. other (s ∙ e)) in ap (times z) (left_out x y xs e) ∙ omega arith
  | inr e ↦ let rest = times-without_other x z xs other in ap (times z) (left_in x y xs e) ∙ omega arith
]

pub length-without : (x : ℕ) (xs : List ℕ) → length (without x xs) + times x xs ≡ length xs
length-without x [] = refl
length-without x (y ∷ xs) = elim (cases_eq y x) [
  | inl e ↦ let rest = length-without x xs in let once = same_once x y (sym e) in
      let out = ap length (left_out x y xs e) in omega arith
  | inr e ↦ let rest = length-without x xs in let none = other_never x y (λ s. e (sym s)) in
      let out = ap length (left_in x y xs e) in omega arith
]

pub without-append : (x : ℕ) (xs ys : List ℕ) → without x (xs ++ ys) ≡ without x xs ++ without x ys
without-append x [] ys = refl
without-append x (y ∷ xs) ys = elim (cases_eq y x) [
  | inl e ↦ left_out x y (xs ++ ys) e ∙ without-append x xs ys ∙ sym (ap (λ l. l ++ without x ys) (left_out x y xs e))
  | inr e ↦ left_in x y (xs ++ ys) e ∙ ap (λ l. y ∷ l) (without-append x xs ys)
      ∙ sym (ap (λ l. l ++ without x ys) (left_in x y xs e))
]

pub without-none : (x : ℕ) (xs : List ℕ) → times x xs ≡ 0 → without x xs ≡ xs
without-none x [] none = refl
without-none x (y ∷ xs) none = elim (cases_eq y x) [
  | inl e ↦ let once = same_once x y (sym e) in absurd (omega arith)
  | inr e ↦ left_in x y xs e ∙ ap (λ l. y ∷ l) (without-none x xs (omega arith))
]

pub without-concat : (x : ℕ) (lists : List (List ℕ)) → concat (map (without x) lists) ≡ without x (concat lists)
without-concat x [] = refl
without-concat x (xs ∷ lists) =
    ap (λ l. without x xs ++ l) (without-concat x lists) ∙ sym (without-append x xs (concat lists))

-- ---- a list of the lists is another one

pub times-set : (x l : ℕ) (ys : List ℕ) (lists : List (List ℕ)) → l < length lists →
    times x (concat (slice_set lists l ys)) + times x (list_at lists l) ≡ times x (concat lists) + times x ys
times-set x l ys [] low = absurd (let h : l < 0 = low in omega arith)
times-set x zero ys (xs ∷ lists) low = let old = times-append x xs (concat lists) in
    let new = times-append x ys (concat lists) in omega arith
times-set x (suc l) ys (xs ∷ lists) low = let long : length (xs ∷ lists) ≡ suc (length lists) = refl in
    let old = times-append x xs (concat lists) in
    let new = times-append x xs (concat (slice_set lists l ys)) in
    let rest = times-set x l ys lists (omega arith) in omega arith

pub count-set : (l : ℕ) (ys : List ℕ) (lists : List (List ℕ)) → l < length lists →
    node_count (slice_set lists l ys) + length (list_at lists l) ≡ node_count lists + length ys
count-set l ys [] low = absurd (let h : l < 0 = low in omega arith)
count-set zero ys (xs ∷ lists) low = let old = length-append xs (concat lists) in
    let new = length-append ys (concat lists) in omega arith
count-set (suc l) ys (xs ∷ lists) low = let long : length (xs ∷ lists) ≡ suc (length lists) = refl in
    let old = length-append xs (concat lists) in
    let new = length-append xs (concat (slice_set lists l ys)) in
    let rest = count-set l ys lists (omega arith) in omega arith

-- ---- which list

pub times-in_lists : (x l : ℕ) (lists : List (List ℕ)) → times x (list_at lists l) ≤ times x (concat lists)
times-in_lists x l [] = omega arith
times-in_lists x zero (xs ∷ lists) = let both = times-append x xs (concat lists) in omega arith
times-in_lists x (suc l) (xs ∷ lists) = let both = times-append x xs (concat lists) in
    let rest = times-in_lists x l lists in omega arith

pub times-in_two : (x l m : ℕ) (lists : List (List ℕ)) → (l ≡ m → ⊥) →
    times x (list_at lists l) + times x (list_at lists m) ≤ times x (concat lists)
times-in_two x l m [] other = omega arith
times-in_two x zero zero (xs ∷ lists) other = absurd (other refl)
times-in_two x zero (suc m) (xs ∷ lists) other = let both = times-append x xs (concat lists) in
    let rest = times-in_lists x m lists in omega arith
times-in_two x (suc l) zero (xs ∷ lists) other = let both = times-append x xs (concat lists) in
    let rest = times-in_lists x l lists in omega arith
times-in_two x (suc l) (suc m) (xs ∷ lists) other = let both = times-append x xs (concat lists) in
    let rest = times-in_two x l m lists (λ e. other (ap (λ n. suc n) e)) in omega arith

pub one_list : (x l m : ℕ) (lists : List (List ℕ)) → times x (concat lists) ≤ 1 → 0 < times x (list_at lists l) →
    0 < times x (list_at lists m) → l ≡ m
one_list x l m lists once in_l in_m = elim (cases_eq l m) [
  | inl e ↦ e
  | inr e ↦ let two = times-in_two x l m lists e in absurd (omega arith)
]

pub some_list : (x : ℕ) (lists : List (List ℕ)) → 0 < times x (concat lists) →
    (l : ℕ) × (l < length lists) × (0 < times x (list_at lists l))
some_list x [] there = absurd (let h : 0 < 0 = there in omega arith)
some_list x (xs ∷ lists) there = elim (cases_eq (times x xs) 0) [
  | inl e ↦ let both = times-append x xs (concat lists) in let rest = some_list x lists (omega arith) in
      (suc rest.0, omega arith, rest.2)
  | inr e ↦ (0, omega arith, omega arith)
]

pub in_length : (x l : ℕ) (lists : List (List ℕ)) → 0 < times x (list_at lists l) → l < length lists
in_length x l [] there = absurd (let h : 0 < 0 = there in omega arith)
in_length x zero (xs ∷ lists) there = omega arith
in_length x (suc l) (xs ∷ lists) there = let rest = in_length x l lists there in omega arith
