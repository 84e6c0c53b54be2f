-- Lists, what may be there, and loops that gather.
use Rattle.std.proofs.Common.{◌≡◌, ℕ, suc, ◌+◌, ◌<◌, ◌≤◌, Bool, true, false, cond, List, [], ◌∷◌, ◌++◌, length}
use Rattle.std.proofs.Common.{get_or, drop, filter, is_some, Option, Some, None, Result, Ok, Err, OnOk}
use Rattle.std.proofs.Common.{slice_get, count_by, append-nil, refl, sym, ap, ◌∙◌, arith}
use Rattle.std.specs.Option.{option_or}
use Rattle.std.proofs.lemmas.List.{at_drop_more, at_drop_all, append_assoc}
use Rattle.std.proofs.lemmas.List.Sums.{sum_by-append}

-- ---- what may be there

pub given_some : {X : Type 0} (o : Option X) → is_some o ≡ true → (x : X) × (o ≡ Some x)
given_some None h = cc
given_some (Some x) h = (x, refl)

pub same_given : {X : Type 0} (a b : X) (o : Option X) → o ≡ Some a → o ≡ Some b → a ≡ b
same_given a b o e f = let both : Some a ≡ Some b = sym e ∙ f in cc

pub option_or-none : {X : Type 0} (o : Option X) → option_or o None ≡ o
option_or-none None = refl
option_or-none (Some x) = refl

pub option_or-assoc : {X : Type 0} (o p q : Option X) → option_or o (option_or p q) ≡ option_or (option_or o p) q
option_or-assoc None p q = refl
option_or-assoc (Some x) p q = refl

pub on_ok : {T E : Type 0} (result : Result T E) (P Q : Type 0) → (P → Q) → OnOk result P → OnOk result Q
on_ok (Ok x) P Q f h = f h
on_ok (Err e) P Q f h = h

-- ---- lengths

pub nothing_left : {X : Type 0} (xs : List X) (n : ℕ) → n ≡ length xs → n ≡ 0 → xs ≡ []
nothing_left [] n e z = refl
nothing_left (x ∷ xs) n e z = absurd (omega arith)

pub no_items : {X : Type 0} (xs : List X) → length xs ≡ 0 → xs ≡ []
no_items [] e = refl
no_items (x ∷ xs) e = absurd (omega arith)

-- a stack without a top is empty
pub no_first : {X : Type 0} (xs : List X) → slice_get xs 0 ≡ None → xs ≡ []
no_first [] e = refl
no_first (x ∷ xs) e = cc

pub count_append : {X : Type 0} (test : X → Bool) (xs ys : List X) →
    count_by test (xs ++ ys) ≡ count_by test xs + count_by test ys
count_append test xs ys = sum_by-append (λ x. cond (test x) 1 0) xs ys

pub fewer_kept : {X : Type 0} (test : X → Bool) (xs : List X) → length (filter test xs) ≤ length xs
fewer_kept test [] = omega arith
fewer_kept test (x ∷ xs) =
    let fewer : length (filter test xs) ≤ length xs = fewer_kept test xs in
    elim (test x) as (λ b. length (cond b (x ∷ filter test xs) (filter test xs)) ≤ suc (length xs)) [
      | true ↦ omega arith
      | false ↦ omega arith
    ]

-- ---- a function of what is the same

pub same_3 : {A B C R : Type 0} (f : A → B → C → R) {a x : A} {b y : B} {c z : C} → a ≡ x → b ≡ y → c ≡ z →
    f a b c ≡ f x y z
same_3 f {x = x} {b = b} {y = y} {c = c} p q r = ap (λ t. f t b c) p ∙ ap (λ t. f x t c) q ∙ ap (f x y) r

pub same_4 : {A B C D R : Type 0} (f : A → B → C → D → R) {a x : A} {b y : B} {c z : C} {d w : D} → a ≡ x → b ≡ y →
    c ≡ z → d ≡ w → f a b c d ≡ f x y z w
same_4 f {x = x} {b = b} {c = c} {d = d} p q r s = ap (λ t. f t b c d) p ∙ same_3 (f x) q r s

-- ---- one turn of a loop that gathers, and its end: F is what all elements give, and f what one gives

pub one_turn : {A B : Type 0} (F : List A → List B) (f : A → List B) (xs : List A) (i : ℕ) (x : A)
    (made more : List B) → ((y : A) (ys : List A) → F (y ∷ ys) ≡ f y ++ F ys) → i < length xs →
    x ≡ get_or xs i x → more ≡ made ++ f x →
    more ++ F (drop (i + 1) xs) ≡ made ++ F (drop i xs)
one_turn F f xs i x made more splits within is gives =
    let rest = drop (i + 1) xs in
    ap (λ ys. ys ++ F rest) gives
    ∙ append_assoc made (f x) (F rest)
    ∙ ap (λ ys. made ++ ys) (sym (splits x rest))
    ∙ ap (λ y. made ++ F (y ∷ rest)) is
    ∙ sym (at_drop_more (λ ys. made ++ F ys) xs i x within)

pub at_end : {A B : Type 0} (F : List A → List B) (xs : List A) (i : ℕ) (made : List B) → F [] ≡ [] →
    length xs ≤ i → made ≡ made ++ F (drop i xs)
at_end F xs i made none past =
    sym (append-nil made) ∙ ap (λ ys. made ++ ys) (sym (at_drop_all F xs i past ∙ none))

-- the same, where the whole is known
pub turn : {A B : Type 0} (F : List A → List B) (f : A → List B) (xs : List A) (i : ℕ) (x : A)
    (made new whole : List B) → ((y : A) (ys : List A) → F (y ∷ ys) ≡ f y ++ F ys) → i < length xs →
    x ≡ get_or xs i x → new ≡ made ++ f x → made ++ F (drop i xs) ≡ whole →
    new ++ F (drop (i + 1) xs) ≡ whole
turn F f xs i x made new whole splits within is e before = one_turn F f xs i x made new splits within is e ∙ before

pub ended : {A B : Type 0} (F : List A → List B) (xs : List A) (i : ℕ) (made whole : List B) → F [] ≡ [] →
    length xs ≤ i → made ++ F (drop i xs) ≡ whole → made ≡ whole
ended F xs i made whole none past before = at_end F xs i made none past ∙ before
