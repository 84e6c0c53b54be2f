-- Lists of values that meet others, slot by slot.
use Rattle.std.proofs.Common.{◌≡◌, ℕ, zero, suc, ◌+◌, ◌<◌, ◌≤◌, Bool, true, false, not, ◌||◌, ◌&&◌, List, [], ◌∷◌, ◌++◌}
use Rattle.std.proofs.Common.{length, get_or, take, drop, cond, refl, sym, ap, ◌∙◌, arith}
use Rattle.std.proofs.lemmas.List.{at_drop_more, append_assoc, append-nil, drop_all, take_all, take_more_set}
use Rattle.std.proofs.lemmas.List.{drop-set-lt}
use Rattle.std.proofs.lemmas.List.{reverse-append, reverse-reverse, length-reverse, get_or-reverse}
use Rattle.std.proofs.Common.{reverse, ◌-◌}
use Rattle.std.specs.Cmp.{both_ways}
use Rattle.std.specs.Cmp.Lexicographic.{pointwise}
use Rattle.std.specs.Prelude.{slice_set}
use Rattle.std.proofs.lemmas.Bool.{and_parts}
use Rattle.owner_domain.specs.declared.numbered.NumberedValue.{NumberedValue}
use Rattle.owner_domain.specs.declared.numbered.NumberedValue.TheVariants.{Unnamed}
use Rattle.owner_domain.specs.Numbered.{joined_number, joined_numbers, lost_number, lost_numbers, same_number}
use Rattle.owner_domain.specs.Numbered.{numbers_of}
use Rattle.owner_domain.specs.SameNumber.{same_number-itself, equal_of_same_number}
use Rattle.owner_domain.specs.declared.numbered.NumberedState.{NumberedState}
use Rattle.owner_domain.specs.Slots.{same_numbers, same_numbered, met_numbers, lost_by}

-- whether a value is another one where it meets this one
abbrev pub changed_value : NumberedValue → NumberedValue → Bool
changed_value x y = not (same_number (joined_number x y) x)

-- whether a list is another one, by its slots
abbrev pub changed_slots : List NumberedValue → List NumberedValue → Bool
changed_slots [] ys = false
changed_slots (x ∷ xs) [] = true
changed_slots (x ∷ xs) (y ∷ ys) = changed_value x y || changed_slots xs ys

pub not_both : (a b : Bool) → (not a || not b) ≡ not (a && b)
not_both true b = refl
not_both false b = refl

pub changed-is : (xs ys : List NumberedValue) → changed_slots xs ys ≡ not (same_numbers (joined_numbers xs ys) xs)
changed-is [] ys = refl
changed-is (x ∷ xs) [] = refl
changed-is (x ∷ xs) (y ∷ ys) =
    ap (λ b. changed_value x y || b) (changed-is xs ys)
    ∙ not_both (same_number (joined_number x y) x) (same_numbers (joined_numbers xs ys) xs)

-- ---- what has no partner falls away

pub cut-joined : (xs ys : List NumberedValue) → joined_numbers (take (length ys) xs) ys ≡ joined_numbers xs ys
cut-joined [] [] = refl
cut-joined [] (y ∷ ys) = refl
cut-joined (x ∷ xs) [] = refl
cut-joined (x ∷ xs) (y ∷ ys) = ap (λ zs. joined_number x y ∷ zs) (cut-joined xs ys)

swapped : (a b c : Bool) → (a || (b || c)) ≡ (b || (a || c))
swapped true true c = refl
swapped true false c = refl
swapped false true c = refl
swapped false false c = refl

pub cut-changed : (xs ys : List NumberedValue) (longer : Bool) → (longer ≡ true → length ys < length xs) →
    (longer ≡ false → length xs ≤ length ys) →
    (longer || changed_slots (take (length ys) xs) ys) ≡ changed_slots xs ys
cut-changed [] ys true f g = absurd (let l : length ys < 0 = f refl in omega arith)
cut-changed [] [] false f g = refl
cut-changed [] (y ∷ ys) false f g = refl
cut-changed (x ∷ xs) [] true f g = refl
cut-changed (x ∷ xs) [] false f g = absurd (let l : suc (length xs) ≤ 0 = g refl in omega arith)
cut-changed (x ∷ xs) (y ∷ ys) longer f g =
    swapped longer (changed_value x y) (changed_slots (take (length ys) xs) ys)
    ∙ ap (λ b. changed_value x y || b)
    (cut-changed xs ys longer
    (λ e. let l : suc (length ys) < suc (length xs) = f e in omega arith)
    (λ e. let l : suc (length xs) ≤ suc (length ys) = g e in omega arith))

pub cut-long : {X : Type 0} (xs : List X) (n : ℕ) → length (take n xs) ≤ n
cut-long [] zero = omega arith
cut-long [] (suc n) = omega arith
cut-long (x ∷ xs) zero = omega arith
cut-long (x ∷ xs) (suc n) = let l : length (take n xs) ≤ n = cut-long xs n in omega arith

-- ---- one slot

-- what is made so far, and the join of what is left
abbrev pub made_of : ℕ → List NumberedValue → List NumberedValue → List NumberedValue
made_of i xs ys = take i xs ++ joined_numbers (drop i xs) (drop i ys)

pub made-all : (xs ys : List NumberedValue) (n : ℕ) → length xs ≤ n → made_of n xs ys ≡ xs
made-all xs ys n l =
    (λ i. take_all n xs l i ++ joined_numbers (drop_all n xs l i) (drop n ys)) ∙ append-nil xs

pub grouped : (a b c : Bool) → ((a || b) || c) ≡ (a || (b || c))
grouped true b c = refl
grouped false b c = refl

module _ (xs ys : List NumberedValue) (i : ℕ) (x y : NumberedValue) (in_x : i < length xs) (in_y : i < length ys) where
  -- a slot that gets the join
  pub slot-joined : (v : NumberedValue) → v ≡ joined_number (get_or xs i x) (get_or ys i y) →
      made_of (i + 1) (slice_set xs i v) ys ≡ made_of i xs ys
  slot-joined v is =
      let rest = joined_numbers (drop (i + 1) xs) (drop (i + 1) ys) in
      let low : i < i + 1 = omega arith in
      (λ j. take_more_set xs i v in_x j ++ joined_numbers (drop-set-lt (i + 1) xs i v low j) (drop (i + 1) ys))
      ∙ append_assoc (take i xs) (v ∷ []) rest
      ∙ ap (λ w. take i xs ++ w ∷ rest) is
      ∙ sym (at_drop_more (λ vs. take i xs ++ joined_numbers vs (drop i ys)) xs i x in_x
      ∙ at_drop_more (λ vs. take i xs ++ joined_numbers (get_or xs i x ∷ drop (i + 1) xs) vs) ys i y in_y)

  slots-turn : changed_slots (drop i xs) (drop i ys) ≡
      (changed_value (get_or xs i x) (get_or ys i y) || changed_slots (drop (i + 1) xs) (drop (i + 1) ys))
  slots-turn = at_drop_more (λ vs. changed_slots vs (drop i ys)) xs i x in_x
      ∙ at_drop_more (λ vs. changed_slots (get_or xs i x ∷ drop (i + 1) xs) vs) ys i y in_y

  pub slot-changed : (before one : Bool) → one ≡ changed_value (get_or xs i x) (get_or ys i y) →
      ((before || one) || changed_slots (drop (i + 1) xs) (drop (i + 1) ys)) ≡
      (before || changed_slots (drop i xs) (drop i ys))
  slot-changed before one is =
      ap (λ b. (before || b) || changed_slots (drop (i + 1) xs) (drop (i + 1) ys)) is
      ∙ grouped before (changed_value (get_or xs i x) (get_or ys i y))
      (changed_slots (drop (i + 1) xs) (drop (i + 1) ys))
      ∙ sym (ap (λ b. before || b) slots-turn)

  -- the numbers that are lost in a slot
  pub slot-lost : (made more all : List ℕ) → more ≡ made ++ lost_number (get_or xs i x) (get_or ys i y) →
      made ++ lost_numbers (drop i xs) (drop i ys) ≡ all →
      more ++ lost_numbers (drop (i + 1) xs) (drop (i + 1) ys) ≡ all
  slot-lost made more all gives whole =
      let rest = lost_numbers (drop (i + 1) xs) (drop (i + 1) ys) in
      ap (λ ps. ps ++ rest) gives
      ∙ append_assoc made (lost_number (get_or xs i x) (get_or ys i y)) rest
      ∙ sym (at_drop_more (λ vs. made ++ lost_numbers vs (drop i ys)) xs i x in_x
      ∙ at_drop_more (λ vs. made ++ lost_numbers (get_or xs i x ∷ drop (i + 1) xs) vs) ys i y in_y)
      ∙ whole

-- ---- stacks whose tops stand last

-- the numbers that are lost in a slot, from the top
pub top-lost : (mine others : List NumberedValue) (i : ℕ) (x y : NumberedValue) → i < length mine →
    i < length others → (made more all : List ℕ) →
    more ≡ made
    ++ lost_number (get_or mine (length mine - 1 - i) x) (get_or others (length others - 1 - i) y) →
    made ++ lost_numbers (drop i (reverse mine)) (drop i (reverse others)) ≡ all →
    more ++ lost_numbers (drop (i + 1) (reverse mine)) (drop (i + 1) (reverse others)) ≡ all
top-lost mine others i x y in_mine in_others made more all gives whole =
    slot-lost (reverse mine) (reverse others) i x y (omega (arith, length-reverse mine))
    (omega (arith, length-reverse others)) made more all
    (gives ∙ sym (λ j. made
    ++ lost_number (get_or-reverse mine i x in_mine j) (get_or-reverse others i y in_others j))) whole

joined-append : (xs ys : List NumberedValue) (x y : NumberedValue) → length xs ≡ length ys →
    joined_numbers (xs ++ x ∷ []) (ys ++ y ∷ []) ≡ joined_numbers xs ys ++ joined_number x y ∷ []
joined-append [] [] x y e = refl
joined-append [] (b ∷ ys) x y e = absurd (let l : 0 ≡ suc (length ys) = e in omega arith)
joined-append (a ∷ xs) [] x y e = absurd (let l : suc (length xs) ≡ 0 = e in omega arith)
joined-append (a ∷ xs) (b ∷ ys) x y e =
    let l : suc (length xs) ≡ suc (length ys) = e in
    ap (λ zs. joined_number a b ∷ zs) (joined-append xs ys x y (omega arith))

pub joined-reverse : (xs ys : List NumberedValue) → length xs ≡ length ys →
    reverse (joined_numbers xs ys) ≡ joined_numbers (reverse xs) (reverse ys)
joined-reverse [] [] e = refl
joined-reverse [] (y ∷ ys) e = absurd (let l : 0 ≡ suc (length ys) = e in omega arith)
joined-reverse (x ∷ xs) [] e = absurd (let l : suc (length xs) ≡ 0 = e in omega arith)
joined-reverse (x ∷ xs) (y ∷ ys) e =
    let l : suc (length xs) ≡ suc (length ys) = e in
    let long : length xs ≡ length ys = omega arith in
    reverse-append (joined_number x y ∷ []) (joined_numbers xs ys)
    ∙ ap (λ zs. zs ++ joined_number x y ∷ []) (joined-reverse xs ys long)
    ∙ sym (joined-append (reverse xs) (reverse ys) x y (length-reverse xs ∙ long ∙ sym (length-reverse ys)))
    ∙ sym (λ i. joined_numbers (reverse-append (x ∷ []) xs i) (reverse-append (y ∷ []) ys i))

-- ---- the same values

pub same_numbers-itself : (xs : List NumberedValue) → same_numbers xs xs ≡ true
same_numbers-itself [] = refl
same_numbers-itself (x ∷ xs) = (λ i. same_number-itself x i && same_numbers-itself xs i)

pub equal_of_same_numbers : (xs ys : List NumberedValue) → same_numbers xs ys ≡ true → xs ≡ ys
equal_of_same_numbers [] [] e = refl
equal_of_same_numbers [] (y ∷ ys) e = cc
equal_of_same_numbers (x ∷ xs) [] e = cc
equal_of_same_numbers (x ∷ xs) (y ∷ ys) e =
    let same = and_parts (same_number x y) (same_numbers xs ys) e in
    (λ i. equal_of_same_number x y same.0 i ∷ equal_of_same_numbers xs ys same.1 i)

pub same_of_equal_numbers : (xs ys : List NumberedValue) → xs ≡ ys → same_numbers xs ys ≡ true
same_of_equal_numbers xs ys e = ap (same_numbers xs) (sym e) ∙ same_numbers-itself xs

pub same-reverse : (xs ys : List NumberedValue) → same_numbers xs ys ≡ same_numbers (reverse xs) (reverse ys)
same-reverse xs ys =
    both_ways (same_numbers xs ys) (same_numbers (reverse xs) (reverse ys))
    (λ e. same_of_equal_numbers (reverse xs) (reverse ys) (ap reverse (equal_of_same_numbers xs ys e)))
    (λ e. same_of_equal_numbers xs ys
    (sym (reverse-reverse xs) ∙ ap reverse (equal_of_same_numbers (reverse xs) (reverse ys) e) ∙ reverse-reverse ys))

-- where nothing is found to have changed the states are equal
pub kept-numbered : (changed : Bool) (new old : NumberedState) → changed ≡ not (same_numbered new old) →
    changed ≡ false → new ≡ old
kept-numbered changed new old test same =
    let equal = and_parts (same_numbers new.vars old.vars) (same_numbers new.stack old.stack)
    (by_not changed (same_numbered new old) test same) in
    (λ i. record {
      vars = equal_of_same_numbers new.vars old.vars equal.0 i;
      stack = equal_of_same_numbers new.stack old.stack equal.1 i;
    })
  where
    by_not : (a b : Bool) → a ≡ not b → a ≡ false → b ≡ true
    by_not a true e same = refl
    by_not a false e same = cc

-- ---- a state that meets itself

pub equal-numbers : (xs ys : List NumberedValue) → pointwise same_number xs ys ≡ true → ys ≡ xs
equal-numbers [] [] e = refl
equal-numbers [] (y ∷ ys) e = cc
equal-numbers (x ∷ xs) [] e = cc
equal-numbers (x ∷ xs) (y ∷ ys) e =
    let same = both_same (same_number x y) (pointwise same_number xs ys) e in
    (λ i. sym (equal_of_same_number x y same.0) i ∷ equal-numbers xs ys same.1 i)
  where
    both_same : (a b : Bool) → (a && b) ≡ true → (a ≡ true) × (b ≡ true)
    both_same true true e = (refl, refl)
    both_same true false e = cc
    both_same false b e = cc

joined-itself : (xs : List NumberedValue) → joined_numbers xs xs ≡ xs
joined-itself [] = refl
joined-itself (x ∷ xs) = (λ i. cond (same_number-itself x i) x Unnamed ∷ joined-itself xs i)

lost-itself : (xs : List NumberedValue) → lost_numbers xs xs ≡ []
lost-itself [] = refl
lost-itself (x ∷ xs) = (λ i. cond (same_number-itself x i) [] (numbers_of x ++ numbers_of x) ++ lost-itself xs i)

pub met-itself : (s t : NumberedState) → t ≡ s → s ≡ met_numbers s t
met-itself s t same =
    sym (ap (met_numbers s) same
    ∙ (λ i. record { vars = joined-itself s.vars i; stack = joined-itself s.stack i }))

pub unchanged-itself : (s : NumberedState) → false ≡ not (same_numbered s s)
unchanged-itself s = (λ i. not (sym (same_numbers-itself s.vars) i && sym (same_numbers-itself s.stack) i))

pub lost-by_itself : (s t : NumberedState) (lost : List ℕ) → t ≡ s → lost ≡ [] → lost ≡ lost_by s t
lost-by_itself s t lost same none =
    none ∙ sym (ap (lost_by s) same ∙ (λ i. lost-itself s.vars i ++ lost-itself s.stack i))
