-- Lists of kinds that meet others, place by place.
use Rattle.std.proofs.Common.{◌≡◌, ℕ, zero, suc, ◌+◌, ◌<◌, ◌≤◌, Bool, true, false, not, ◌||◌, ◌&&◌, List, [], ◌∷◌, ◌++◌}
use Rattle.std.proofs.Common.{length, get_or, take, drop, refl, sym, ap, ◌∙◌, arith, reverse}
use Rattle.std.proofs.lemmas.List.{at_drop_more, append_assoc, append-nil, drop_all, take_all, take_more_set}
use Rattle.std.proofs.lemmas.List.{drop-set-lt}
use Rattle.std.proofs.lemmas.List.{reverse-append, reverse-reverse, length-reverse}
use Rattle.std.specs.Cmp.{both_ways}
use Rattle.std.specs.Prelude.{slice_set}
use Rattle.typed_core.specs.declared.kinds.TypedKind.{TypedKind}
use Rattle.typed_core.specs.declared.states.KindState.{KindState}
use Rattle.typed_core.specs.Kinds.{joined_kind, same_kind}
use Rattle.typed_core.specs.States.{joined_kinds, same_kinds}
use Rattle.typed_core.proofs.Order.{same_kinds-itself, same_kinds-equal}

abbrev pub stack_of : List TypedKind → List TypedKind → KindState
stack_of vars stack = record { vars = vars; stack = stack }

-- whether a kind is another one where it meets this one
abbrev pub changed_kind : TypedKind → TypedKind → Bool
changed_kind x y = not (same_kind (joined_kind x y) x)

-- whether a list is another one, by its slots
abbrev pub changed_places : List TypedKind → List TypedKind → Bool
changed_places [] ys = false
changed_places (x ∷ xs) [] = true
changed_places (x ∷ xs) (y ∷ ys) = changed_kind x y || changed_places xs ys

pub not_both : (a b : Bool) → (not a || not b) ≡ not (a && b)
not_both true b = refl
not_both false b = refl

pub changed-is : (xs ys : List TypedKind) → changed_places xs ys ≡ not (same_kinds (joined_kinds xs ys) xs)
changed-is [] ys = refl
changed-is (x ∷ xs) [] = refl
changed-is (x ∷ xs) (y ∷ ys) =
    ap (λ b. changed_kind x y || b) (changed-is xs ys)
    ∙ not_both (same_kind (joined_kind x y) x) (same_kinds (joined_kinds xs ys) xs)

-- ---- what has no partner falls away

pub cut-joined : (xs ys : List TypedKind) → joined_kinds (take (length ys) xs) ys ≡ joined_kinds xs ys
cut-joined [] [] = refl
cut-joined [] (y ∷ ys) = refl
cut-joined (x ∷ xs) [] = refl
cut-joined (x ∷ xs) (y ∷ ys) = ap (λ zs. joined_kind x y ∷ zs) (cut-joined xs ys)

swapped : (a b c : Bool) → (a || (b || c)) ≡ (b || (a || c))
swapped true true c = refl
swapped true false c = refl
swapped false true c = refl
swapped false false c = refl

pub cut-changed : (xs ys : List TypedKind) (longer : Bool) → (longer ≡ true → length ys < length xs) →
    (longer ≡ false → length xs ≤ length ys) →
    (longer || changed_places (take (length ys) xs) ys) ≡ changed_places xs ys
cut-changed [] ys true f g = absurd (let l : length ys < 0 = f refl in omega arith)
cut-changed [] [] false f g = refl
cut-changed [] (y ∷ ys) false f g = refl
cut-changed (x ∷ xs) [] true f g = refl
cut-changed (x ∷ xs) [] false f g = absurd (let l : suc (length xs) ≤ 0 = g refl in omega arith)
cut-changed (x ∷ xs) (y ∷ ys) longer f g =
    swapped longer (changed_kind x y) (changed_places (take (length ys) xs) ys)
    ∙ ap (λ b. changed_kind x y || b)
    (cut-changed xs ys longer
    (λ e. let l : suc (length ys) < suc (length xs) = f e in omega arith)
    (λ e. let l : suc (length xs) ≤ suc (length ys) = g e in omega arith))

pub cut-long : {X : Type 0} (xs : List X) (n : ℕ) → length (take n xs) ≤ n
cut-long [] zero = omega arith
cut-long [] (suc n) = omega arith
cut-long (x ∷ xs) zero = omega arith
cut-long (x ∷ xs) (suc n) = let l : length (take n xs) ≤ n = cut-long xs n in omega arith

-- ---- one slot

-- what is made so far, and the join of what is left
abbrev pub made_of : ℕ → List TypedKind → List TypedKind → List TypedKind
made_of i xs ys = take i xs ++ joined_kinds (drop i xs) (drop i ys)

pub made-all : (xs ys : List TypedKind) (n : ℕ) → length xs ≤ n → made_of n xs ys ≡ xs
made-all xs ys n l =
    (λ i. take_all n xs l i ++ joined_kinds (drop_all n xs l i) (drop n ys)) ∙ append-nil xs

pub grouped : (a b c : Bool) → ((a || b) || c) ≡ (a || (b || c))
grouped true b c = refl
grouped false b c = refl

module _ (xs ys : List TypedKind) (i : ℕ) (x y : TypedKind) (in_x : i < length xs) (in_y : i < length ys) where
  -- a slot that gets the join
  pub place-joined : (v : TypedKind) → v ≡ joined_kind (get_or xs i x) (get_or ys i y) →
      made_of (i + 1) (slice_set xs i v) ys ≡ made_of i xs ys
  place-joined v is =
      let rest = joined_kinds (drop (i + 1) xs) (drop (i + 1) ys) in
      let low : i < i + 1 = omega arith in
      (λ j. take_more_set xs i v in_x j ++ joined_kinds (drop-set-lt (i + 1) xs i v low j) (drop (i + 1) ys))
      ∙ append_assoc (take i xs) (v ∷ []) rest
      ∙ ap (λ w. take i xs ++ w ∷ rest) is
      ∙ sym (at_drop_more (λ vs. take i xs ++ joined_kinds vs (drop i ys)) xs i x in_x
      ∙ at_drop_more (λ vs. take i xs ++ joined_kinds (get_or xs i x ∷ drop (i + 1) xs) vs) ys i y in_y)

  places-turn : changed_places (drop i xs) (drop i ys) ≡
      (changed_kind (get_or xs i x) (get_or ys i y) || changed_places (drop (i + 1) xs) (drop (i + 1) ys))
  places-turn = at_drop_more (λ vs. changed_places vs (drop i ys)) xs i x in_x
      ∙ at_drop_more (λ vs. changed_places (get_or xs i x ∷ drop (i + 1) xs) vs) ys i y in_y

  pub place-changed : (before one : Bool) → one ≡ changed_kind (get_or xs i x) (get_or ys i y) →
      ((before || one) || changed_places (drop (i + 1) xs) (drop (i + 1) ys)) ≡
      (before || changed_places (drop i xs) (drop i ys))
  place-changed before one is =
      ap (λ b. (before || b) || changed_places (drop (i + 1) xs) (drop (i + 1) ys)) is
      ∙ grouped before (changed_kind (get_or xs i x) (get_or ys i y))
      (changed_places (drop (i + 1) xs) (drop (i + 1) ys))
      ∙ sym (ap (λ b. before || b) places-turn)

-- ---- stacks whose tops stand last

joined-append : (xs ys : List TypedKind) (x y : TypedKind) → length xs ≡ length ys →
    joined_kinds (xs ++ x ∷ []) (ys ++ y ∷ []) ≡ joined_kinds xs ys ++ joined_kind x y ∷ []
joined-append [] [] x y e = refl
joined-append [] (b ∷ ys) x y e = absurd (let l : 0 ≡ suc (length ys) = e in omega arith)
joined-append (a ∷ xs) [] x y e = absurd (let l : suc (length xs) ≡ 0 = e in omega arith)
joined-append (a ∷ xs) (b ∷ ys) x y e =
    let l : suc (length xs) ≡ suc (length ys) = e in
    ap (λ zs. joined_kind a b ∷ zs) (joined-append xs ys x y (omega arith))

pub joined-reverse : (xs ys : List TypedKind) → length xs ≡ length ys →
    reverse (joined_kinds xs ys) ≡ joined_kinds (reverse xs) (reverse ys)
joined-reverse [] [] e = refl
joined-reverse [] (y ∷ ys) e = absurd (let l : 0 ≡ suc (length ys) = e in omega arith)
joined-reverse (x ∷ xs) [] e = absurd (let l : suc (length xs) ≡ 0 = e in omega arith)
joined-reverse (x ∷ xs) (y ∷ ys) e =
    let l : suc (length xs) ≡ suc (length ys) = e in
    let long : length xs ≡ length ys = omega arith in
    reverse-append (joined_kind x y ∷ []) (joined_kinds xs ys)
    ∙ ap (λ zs. zs ++ joined_kind x y ∷ []) (joined-reverse xs ys long)
    ∙ sym (joined-append (reverse xs) (reverse ys) x y (length-reverse xs ∙ long ∙ sym (length-reverse ys)))
    ∙ sym (λ i. joined_kinds (reverse-append (x ∷ []) xs i) (reverse-append (y ∷ []) ys i))

-- ---- the same values

pub same_of_equal_kinds : (xs ys : List TypedKind) → xs ≡ ys → same_kinds xs ys ≡ true
same_of_equal_kinds xs ys e = ap (same_kinds xs) (sym e) ∙ same_kinds-itself xs

pub same-reverse : (xs ys : List TypedKind) → same_kinds xs ys ≡ same_kinds (reverse xs) (reverse ys)
same-reverse xs ys =
    both_ways (same_kinds xs ys) (same_kinds (reverse xs) (reverse ys))
    (λ e. same_of_equal_kinds (reverse xs) (reverse ys) (ap reverse (same_kinds-equal xs ys e)))
    (λ e. same_of_equal_kinds xs ys
    (sym (reverse-reverse xs) ∙ ap reverse (same_kinds-equal (reverse xs) (reverse ys) e) ∙ reverse-reverse ys))
