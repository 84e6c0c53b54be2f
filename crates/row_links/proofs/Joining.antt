-- Nodes linked both ways: what is walked, what other links leave, and what one more link joins.
use Rattle.std.proofs.Common.{◌≡◌, ℕ, zero, suc, ◌≤◌, ◌<◌, inl, inr, cond, not, List, [], ◌∷◌, ◌++◌, length}
use Rattle.std.proofs.Common.{slice_index, slice_set, refl, sym, ap, subst, ◌∙◌, arith}
use Rattle.std.proofs.lemmas.Bool.{eq-eqb, cases_eq}
use Rattle.std.proofs.lemmas.List.{get_or-set_same, get_or-set_other, append-nil}
use Rattle.row_links.specs.Lists.{without, times}
use Rattle.row_links.specs.Rings.{Joined, walk}
use Rattle.row_links.proofs.Counting.{same_once, other_never, times-append, without-append, without-none}
use Rattle.racer_base.proofs.Tests.{different}

abbrev pub first_or : List ℕ → ℕ → ℕ
first_or [] e = e
first_or (x ∷ xs) e = x

abbrev pub last_or : ℕ → List ℕ → ℕ
last_or a [] = a
last_or a (x ∷ xs) = last_or x xs

pub not_head : (p x : ℕ) (xs : List ℕ) → times p (x ∷ xs) ≡ 0 → p ≡ x → ⊥
not_head p x xs none e = let one = same_once p x e in omega arith

pub not_tail : (p x : ℕ) (xs : List ℕ) → times p (x ∷ xs) ≡ 0 → times p xs ≡ 0
not_tail p x xs none = omega arith

pub walked : (next before : List ℕ) (a e : ℕ) (xs : List ℕ) (most : ℕ) → Joined next before a xs e →
    times e xs ≡ 0 → length xs ≤ most → walk next most e (slice_index next a) ≡ xs
walked next before a e [] zero j out long = refl
walked next before a e [] (suc most) j out long =
    ap (λ b. cond b [] (slice_index next a ∷ walk next most e (slice_index next (slice_index next a))))
    (eq-eqb (slice_index next a) e j.0)
walked next before a e (x ∷ xs) zero j out long = absurd (let l : suc (length xs) ≤ 0 = long in omega arith)
walked next before a e (x ∷ xs) (suc most) j out long = let l : suc (length xs) ≤ suc most = long in
    let rest : walk next most e (slice_index next x) ≡ xs =
    walked next before x e xs most j.2 (not_tail e x xs out) (omega arith) in ap (λ n. walk next (suc most) e n) j.0
    ∙ ap (λ b. cond b [] (x ∷ walk next most e (slice_index next x)))
    (different x e (λ s. not_head e x xs out (sym s))) ∙ ap (λ ys. x ∷ ys) rest

pub framed : (next before : List ℕ) (a e p q v w : ℕ) (xs : List ℕ) → Joined next before a xs e → (p ≡ a → ⊥) →
    times p xs ≡ 0 → (q ≡ e → ⊥) → times q xs ≡ 0 → Joined (slice_set next p v) (slice_set before q w) a xs e
framed next before a e p q v w [] j pa px qe qx = (
  get_or-set_other next p a v 0 (λ s. pa (sym s)) ∙ j.0,
  get_or-set_other before q e w 0 (λ s. qe (sym s)) ∙ j.1,
)
framed next before a e p q v w (x ∷ xs) j pa px qe qx = (
  get_or-set_other next p a v 0 (λ s. pa (sym s)) ∙ j.0,
  get_or-set_other before q x w 0 (λ s. not_head q x xs qx (sym s)) ∙ j.1,
  framed next before x e p q v w xs j.2 (not_head p x xs px) (not_tail p x xs px) qe (not_tail q x xs qx),
)

pub split : (next before : List ℕ) (a e x : ℕ) (xs ys : List ℕ) → Joined next before a (xs ++ x ∷ ys) e →
    Joined next before a xs x × Joined next before x ys e
split next before a e x [] ys j = ((j.0, j.1), j.2)
split next before a e x (y ∷ xs) ys j = let r = split next before y e x xs ys j.2 in ((j.0, j.1, r.0), r.1)

pub glued : (next before : List ℕ) (a e x : ℕ) (xs ys : List ℕ) → Joined next before a xs x →
    Joined next before x ys e → Joined next before a (xs ++ x ∷ ys) e
glued next before a e x [] ys j k = (j.0, j.1, k)
glued next before a e x (y ∷ xs) ys j k = (j.0, j.1, glued next before y e x xs ys j.2 k)

pub ends : (next before : List ℕ) (a e : ℕ) (xs : List ℕ) → Joined next before a xs e →
    (slice_index next a ≡ first_or xs e) × (slice_index before e ≡ last_or a xs)
ends next before a e [] j = (j.0, j.1)
ends next before a e (x ∷ xs) j = (j.0, (ends next before x e xs j.2).1)

pub last_in : (a : ℕ) (xs : List ℕ) → 1 ≤ times (last_or a xs) (a ∷ xs)
last_in a [] = let one = same_once a a refl in omega arith
last_in a (x ∷ xs) = let rest = last_in x xs in omega arith

pub last_or-append : (a z : ℕ) (xs zs : List ℕ) → last_or a (xs ++ z ∷ zs) ≡ last_or z zs
last_or-append a z [] zs = refl
last_or-append a z (x ∷ xs) zs = last_or-append x z xs zs

-- the end is another one
pub ended : (next before : List ℕ) (a x e : ℕ) (xs : List ℕ) → Joined next before a xs x →
    ((n : ℕ) → times n (a ∷ xs) ≤ 1) → times e xs ≡ 0 → last_or a xs < length next → e < length before →
    Joined (slice_set next (last_or a xs) e) (slice_set before e (last_or a xs)) a xs e
ended next before a x e [] j once out low high = (get_or-set_same next a e 0 low, get_or-set_same before e a 0 high)
ended next before a x e (z ∷ xs) j once out low high = let p = last_or z xs in (
  get_or-set_other next p a e 0 (λ s. let there = last_in z xs in let one = once p in
      let same = same_once p a (sym s) in
      omega arith) ∙ j.0,
  get_or-set_other before e z p 0 (λ s. not_head e z xs out (sym s)) ∙ j.1,
  ended next before z x e xs j.2 (λ n. let one = once n in omega arith) (not_tail e z xs out) low high,
)

-- one more link joins two pieces
pub linked : (next before : List ℕ) (a e x y : ℕ) (xs ys : List ℕ) → Joined next before a xs x →
    Joined next before y ys e → ((n : ℕ) → times n (a ∷ (xs ++ ys)) ≤ 1) → times e (xs ++ ys) ≡ 0 →
    last_or a xs < length next → first_or ys e < length before →
    Joined (slice_set next (last_or a xs) (first_or ys e)) (slice_set before (first_or ys e) (last_or a xs)) a
    (xs ++ ys) e
linked next before a e x y xs [] j k once out low high =
    let nil : xs ++ [] ≡ xs = append-nil xs in
    subst (λ zs. Joined (slice_set next (last_or a xs) e) (slice_set before e (last_or a xs)) a zs e) (sym nil)
    (ended next before a x e xs j (λ n. let one = once n in let same = ap (times n) nil in omega arith)
    (ap (times e) (sym nil) ∙ out) low high)
linked next before a e x y xs (z ∷ zs) j k once out low high = let p = last_or a xs in
    glued (slice_set next p z) (slice_set before z p) a e z xs zs
    (ended next before a x z xs j (λ n. let one = once n in let both = times-append n xs (z ∷ zs) in omega arith)
    (let one = once z in let both = times-append z xs (z ∷ zs) in let here = same_once z z refl in
    omega arith) low high)
    (framed next before z e p z z p zs k.2
    (λ s. let there = last_in a xs in let one = once p in let both = times-append p xs (z ∷ zs) in
    let here = same_once p z s in omega arith)
    (let there = last_in a xs in let one = once p in let both = times-append p xs (z ∷ zs) in omega arith)
    (λ s. let both = times-append e xs (z ∷ zs) in let here = same_once e z (sym s) in omega arith)
    (let one = once z in let both = times-append z xs (z ∷ zs) in let here = same_once z z refl in omega arith))

-- a number that stands in a list parts it
pub parted : (x : ℕ) (zs : List ℕ) → 0 < times x zs → (xs : List ℕ) × (ys : List ℕ) × (zs ≡ xs ++ x ∷ ys)
parted x [] there = absurd (let h : 0 < 0 = there in omega arith)
parted x (z ∷ zs) there = elim (cases_eq x z) [
  | inl e ↦ ([], zs, ap (λ n. n ∷ zs) (sym e))
  | inr e ↦ let never = other_never x z e in let rest = parted x zs (omega arith) in
      (z ∷ rest.0, rest.1, ap (λ l. z ∷ l) rest.2)
]

pub without-parted : (x : ℕ) (xs ys : List ℕ) → times x (xs ++ x ∷ ys) ≤ 1 → without x (xs ++ x ∷ ys) ≡ xs ++ ys
without-parted x xs ys once = let both = times-append x xs (x ∷ ys) in let here = same_once x x refl in
    let left : without x xs ≡ xs = without-none x xs (omega arith) in
    let right : without x ys ≡ ys = without-none x ys (omega arith) in
    let gone : without x (x ∷ ys) ≡ without x ys =
    ap (λ b. cond (not b) (x ∷ without x ys) (without x ys)) (eq-eqb x x refl) in
    without-append x xs (x ∷ ys) ∙ ap (λ l. without x xs ++ l) (gone ∙ right) ∙ ap (λ l. l ++ ys) left
