-- Texts in byte order: the order in which they were put does not matter, and sorted texts stay as they are.
use Rattle.std.proofs.Common.{◌≡◌, ℕ, zero, suc, ◌+◌, ◌<◌, Bool, true, false, cond, not, ◌||◌, List, [], ◌∷◌, map}
use Rattle.std.proofs.Common.{length}
use Rattle.std.proofs.Common.{get_or, refl, sym, ap, subst, ◌∙◌, arith, true≢false, ⊎_elim}
use Rattle.std.proofs.Common.{filter, set}
use Rattle.std.specs.List.{swap, list_any}
use Rattle.std.specs.List.Sorted.{IsPermutation, IsSortedBy}
use Rattle.std.specs.Ordering.{nat_cmp, is_lt, ordering_reverse}
use Rattle.std.specs.declared.cmp.Ordering.{Ordering}
use Rattle.std.specs.declared.cmp.Ordering.TheVariants.{Less, Equal, Greater}
use Rattle.std.specs.Cmp.{tied_itself}
use Rattle.std.specs.Cmp.Lexicographic.{slice_cmp, nat_list_cmp_total}
use Rattle.std.specs.FinSet.{nat_cmp-IsAntisymmetric, slice_cmp-IsAntisymmetric}
use Rattle.std.proofs.lemmas.List.Sorted.{IsPermutation-keeps}
use Rattle.std.proofs.lemmas.List.{length-set, get_or-set_same, get_or-set_other}
use Rattle.std.proofs.lemmas.Map.Views.{any-filter_same}
use Rattle.std.proofs.lemmas.List.Edits.{swap_is}
use Rattle.std.proofs.lemmas.Bool.{cases_eq, false_from_ne_true, or_parts}
use Rattle.access_domain.specs.Records.{firsts}
use Rattle.access_domain.proofs.Firsts.{fewer_firsts}
use Rattle.race_report_parts.specs.ByteOrder.{is_before, put_in_order, in_byte_order}
use Rattle.racer_base.proofs.Lists.{fewer_kept}

abbrev Text : Type 0
Text = List ℕ

abbrev text_cmp : Text → Text → Ordering
text_cmp = slice_cmp nat_cmp

-- ---- the order of texts

neither : (x y : Text) (r s : Ordering) → text_cmp x y ≡ r → text_cmp y x ≡ s → is_lt r ≡ false → is_lt s ≡ false →
    x ≡ y
neither x y Less s p q h k = absurd (true≢false h)
neither x y Equal s p q h k = slice_cmp-IsAntisymmetric nat_cmp-IsAntisymmetric x y p
neither x y Greater Less p q h k = absurd (true≢false k)
neither x y Greater Equal p q h k = sym (slice_cmp-IsAntisymmetric nat_cmp-IsAntisymmetric y x q)
neither x y Greater Greater p q h k =
    absurd (true≢false (sym (ap is_lt (sym p ∙ nat_list_cmp_total.antisymm x y ∙ ap ordering_reverse q))))

same_text : (x y : Text) → is_before x y ≡ false → is_before y x ≡ false → x ≡ y
same_text x y = neither x y (text_cmp x y) (text_cmp y x) refl refl

less : (r : Ordering) → is_lt r ≡ true → r ≡ Less
less Less h = refl
less Equal h = absurd (true≢false (sym h))
less Greater h = absurd (true≢false (sym h))

past : (a x y : Text) (r : Ordering) → text_cmp a x ≡ r → is_lt r ≡ false → is_before a y ≡ true → is_before x y ≡ true
past a x y Less p h k = absurd (true≢false h)
past a x y Equal p h k =
    let back : text_cmp x a ≡ Equal = nat_list_cmp_total.antisymm x a ∙ ap ordering_reverse p in
    ap is_lt (nat_list_cmp_total.congr x a y back) ∙ k
past a x y Greater p h k =
    let back : text_cmp x a ≡ Less = nat_list_cmp_total.antisymm x a ∙ ap ordering_reverse p in
    ap is_lt (nat_list_cmp_total.trans x a y back (less (text_cmp a y) k))

before_past : (a x y : Text) → is_before a x ≡ false → is_before a y ≡ true → is_before x y ≡ true
before_past a x y = past a x y (text_cmp a x) refl

not_both : (x y : Text) → is_before x y ≡ true → is_before y x ≡ true → ⊥
not_both x y p q =
    true≢false (ap is_lt (sym (less (text_cmp x y) p) ∙ nat_list_cmp_total.antisymm x y
    ∙ ap ordering_reverse (less (text_cmp y x) q)))

-- ---- the order in which texts are put does not matter

two : (x y : Text) (l : List Text) (a b : Bool) → is_before y x ≡ a → is_before x y ≡ b →
    cond a (y ∷ x ∷ l) (x ∷ y ∷ l) ≡ cond b (x ∷ y ∷ l) (y ∷ x ∷ l)
two x y l true true p q = absurd (not_both y x p q)
two x y l true false p q = refl
two x y l false true p q = refl
two x y l false false p q = ap (λ z. x ∷ z ∷ l) (sym (same_text x y q p)) ∙ ap (λ z. z ∷ x ∷ l) (same_text x y q p)

apart_put : (x y a : Text) (r : List Text) → is_before a x ≡ true → is_before a y ≡ false →
    put_in_order x (y ∷ a ∷ r) ≡ put_in_order y (a ∷ put_in_order x r)
apart_put x y a r p q = rw (p, q, before_past a y x q p) refl

both_put : (x y a : Text) (r : List Text) → put_in_order x (put_in_order y r) ≡ put_in_order y (put_in_order x r) →
    (f g : Bool) → is_before a x ≡ f → is_before a y ≡ g →
    put_in_order x (cond g (a ∷ put_in_order y r) (y ∷ a ∷ r)) ≡
    put_in_order y (cond f (a ∷ put_in_order x r) (x ∷ a ∷ r))
both_put x y a r again true true p q = rw (p, q) (ap (λ l. a ∷ l) again)
both_put x y a r again true false p q = apart_put x y a r p q
both_put x y a r again false true p q = sym (apart_put y x a r q p)
both_put x y a r again false false p q = rw (p, q) (two x y (a ∷ r) (is_before y x) (is_before x y) refl refl)

pub put_commutes : (x y : Text) (l : List Text) → put_in_order x (put_in_order y l) ≡ put_in_order y (put_in_order x l)
put_commutes x y [] = two x y [] (is_before y x) (is_before x y) refl refl
put_commutes x y (a ∷ r) = both_put x y a r (put_commutes x y r) (is_before a x) (is_before a y) refl refl

-- ---- sorted texts stay as they are

pub order_of_sorted : {X : Type 0} (f : X → Text) (xs : List X) → IsSortedBy (λ x y. is_before (f x) (f y)) xs →
    in_byte_order (map f xs) ≡ map f xs
order_of_sorted f [] up = refl
order_of_sorted f (x ∷ []) up = refl
order_of_sorted f (x ∷ y ∷ xs) up =
    let first : is_before (f y) (f x) ≡ false = up 0 x (omega arith) (omega arith) in
    let rest : IsSortedBy (λ a b. is_before (f a) (f b)) (y ∷ xs) =
    λ k d low high.
    let next : suc k + 1 ≡ suc (k + 1) = omega arith in
    subst (λ n. is_before (f (get_or (x ∷ y ∷ xs) n d)) (f (get_or (y ∷ xs) k d)) ≡ false) next
    (up (suc k) d (omega arith) (omega arith)) in
    ap (put_in_order (f x)) (order_of_sorted f (y ∷ xs) rest)
    ∙ ap (λ b. cond b (f y ∷ put_in_order (f x) (map f xs)) (f x ∷ f y ∷ map f xs)) first

-- ---- the order of texts that were moved

set_put : (l : List Text) (i : ℕ) (v d : Text) → i < length l →
    put_in_order (get_or l i d) (in_byte_order (set l i v)) ≡ put_in_order v (in_byte_order l)
set_put [] i v d within = absurd (omega arith)
set_put (a ∷ r) zero v d within = put_commutes a v (in_byte_order r)
set_put (a ∷ r) (suc i) v d within =
    put_commutes (get_or r i d) a (in_byte_order (set r i v))
    ∙ ap (put_in_order a) (set_put r i v d (omega arith))
    ∙ put_commutes a v (in_byte_order r)

abbrev without : Text → List Text → List Text
without y [] = []
without y (x ∷ xs) = cond (is_before x y) (x ∷ without y xs) xs

not_itself : (y : Text) → is_before y y ≡ false
not_itself y = ap is_lt (tied_itself nat_list_cmp_total y)

without_put : (y : Text) (l : List Text) → without y (put_in_order y l) ≡ l
without_put y [] = rw (not_itself y) refl
without_put y (a ∷ r) =
    elim (is_before a y) as (λ b. is_before a y ≡ b → without y (cond b (a ∷ put_in_order y r) (y ∷ a ∷ r)) ≡ a ∷ r) [
      | true ↦ λ e. rw e (ap (λ l. a ∷ l) (without_put y r))
      | false ↦ λ e. rw (not_itself y) refl
    ] refl

put_once : (y : Text) (k l : List Text) → put_in_order y k ≡ put_in_order y l → k ≡ l
put_once y k l e = sym (without_put y k) ∙ ap (without y) e ∙ without_put y l

order_of_swap : (l : List Text) (i j : ℕ) → i < length l → j < length l → in_byte_order (swap l i j) ≡ in_byte_order l
order_of_swap l i j p q =
    let d : Text = [] in
    let x : Text = get_or l i d in
    let y : Text = get_or l j d in
    let w : List Text = set l i y in
    let long : length w ≡ length l = length-set l i y in
    let there : get_or w j d ≡ y =
    ⊎_elim (λ e. ap (λ n. get_or w n d) e ∙ get_or-set_same l i y d p) (λ n. get_or-set_other l i j y d n)
    (cases_eq j i) in
    let first : put_in_order x (in_byte_order w) ≡ put_in_order y (in_byte_order l) = set_put l i y d p in
    let second : put_in_order y (in_byte_order (set w j x)) ≡ put_in_order x (in_byte_order w) =
    ap (λ t. put_in_order t (in_byte_order (set w j x))) (sym there) ∙ set_put w j x d (omega arith) in
    ap in_byte_order (sym (swap_is l i j d p q))
    ∙ put_once y (in_byte_order (set w j x)) (in_byte_order l) (second ∙ first)

pub order_of_moved : (xs ys : List Text) → IsPermutation xs ys → in_byte_order ys ≡ in_byte_order xs
order_of_moved xs ys moved = IsPermutation-keeps xs (λ l. in_byte_order l ≡ in_byte_order xs) refl
    (λ l i j p q h. order_of_swap l i j p q ∙ h) ys moved

-- ---- tests

or_both : (a b c : Bool) → (a || b) ≡ false → c ≡ false → (a || c) ≡ false
or_both true b c h k = h
or_both false b c h k = k

-- ---- lists without a thing twice

-- no element is the same as one after it
abbrev pub Apart : {X : Type 0} → (X → X → Bool) → List X → Type 0
Apart same [] = Unit {0}
Apart same (x ∷ xs) = (list_any (same x) xs ≡ false) × Apart same xs

none_kept : {X : Type 0} (test p : X → Bool) (xs : List X) → list_any test xs ≡ false →
    list_any test (filter p xs) ≡ false
none_kept test p [] none = refl
none_kept test p (x ∷ xs) none =
    elim (p x) as (λ b. list_any test (cond b (x ∷ filter p xs) (filter p xs)) ≡ false) [
      | true ↦ or_both (test x) (list_any test xs) _ none
          (none_kept test p xs (or_parts (test x) (list_any test xs) none).1)
      | false ↦ none_kept test p xs (or_parts (test x) (list_any test xs) none).1
    ]

all_kept : {X : Type 0} (test : X → Bool) (xs : List X) → list_any test xs ≡ false → filter (λ x. not (test x)) xs ≡ xs
all_kept test [] none = refl
all_kept test (x ∷ xs) none =
    ap (λ b. cond (not b) (x ∷ filter (λ y. not (test y)) xs) (filter (λ y. not (test y)) xs))
    (or_parts (test x) (list_any test xs) none).0
    ∙ ap (λ l. x ∷ l) (all_kept test xs (or_parts (test x) (list_any test xs) none).1)

apart_kept : {X : Type 0} (same : X → X → Bool) (p : X → Bool) (xs : List X) → Apart same xs → Apart same (filter p xs)
apart_kept same p [] apart = tt
apart_kept same p (x ∷ xs) apart =
    elim (p x) as (λ b. Apart same (cond b (x ∷ filter p xs) (filter p xs))) [
      | true ↦ (none_kept (same x) p xs apart.0, apart_kept same p xs apart.1)
      | false ↦ apart_kept same p xs apart.1
    ]

pub apart_firsts : {X : Type 0} (same : X → X → Bool) (xs : List X) → Apart same (firsts same xs)
apart_firsts same [] = tt
apart_firsts same (x ∷ xs) = (
  any-filter_same (same x) (λ y. not (same x y)) false (λ y e. ap not e) (firsts same xs),
  apart_kept same (λ y. not (same x y)) (firsts same xs) (apart_firsts same xs),
)

whole_kept : {X : Type 0} (p : X → Bool) (xs : List X) → length (filter p xs) ≡ length xs → filter p xs ≡ xs
whole_kept p [] long = refl
whole_kept p (x ∷ xs) long =
    let more = fewer_kept p xs in
    elim (p x) as (λ b. length (cond b (x ∷ filter p xs) (filter p xs)) ≡ suc (length xs) →
    cond b (x ∷ filter p xs) (filter p xs) ≡ x ∷ xs) [
      | true ↦ λ e. ap (λ l. x ∷ l) (whole_kept p xs (omega (arith, e)))
      | false ↦ λ e. absurd (omega (arith, e, more))
    ] long

pub whole_firsts : {X : Type 0} (same : X → X → Bool) (xs : List X) → length (firsts same xs) ≡ length xs →
    firsts same xs ≡ xs
whole_firsts same [] long = refl
whole_firsts same (x ∷ xs) long =
    let kept = fewer_kept (λ y. not (same x y)) (firsts same xs) in
    let more = fewer_firsts same xs in
    let all : length (filter (λ y. not (same x y)) (firsts same xs)) ≡ length xs = omega (arith, long) in
    let first : length (firsts same xs) ≡ length xs = omega (arith, kept, more, all) in
    ap (λ l. x ∷ l) (whole_kept (λ y. not (same x y)) (firsts same xs) (all ∙ sym first) ∙ whole_firsts same xs first)

module _ {X : Type 0} (same : X → X → Bool) (itself : (x : X) → same x x ≡ true)
    (told : (x y : X) → same x y ≡ true → x ≡ y) (text : X → Text) where
  -- one that is there may be put first
  taken_out : (x : X) (xs : List X) → list_any (same x) xs ≡ true → Apart same xs →
      in_byte_order (map text xs) ≡ put_in_order (text x) (in_byte_order (map text (filter (λ y. not (same x y)) xs)))
  taken_out x [] there apart = absurd (true≢false (sym there))
  taken_out x (y ∷ ys) there apart =
      elim (same x y) as (λ b. same x y ≡ b → (b || list_any (same x) ys) ≡ true →
      put_in_order (text y) (in_byte_order (map text ys)) ≡
      put_in_order (text x) (in_byte_order (map text (cond (not b) (y ∷ filter (λ z. not (same x z)) ys)
      (filter (λ z. not (same x z)) ys))))) [
        | true ↦ λ e h.
            let is : x ≡ y = told x y e in
            let none : list_any (same x) ys ≡ false = subst (λ z. list_any (same z) ys ≡ false) (sym is) apart.0 in
            ap (λ z. put_in_order (text z) (in_byte_order (map text ys))) (sym is)
            ∙ ap (λ l. put_in_order (text x) (in_byte_order (map text l))) (sym (all_kept (same x) ys none))
        | false ↦ λ e h.
            ap (put_in_order (text y)) (taken_out x ys h apart.1)
            ∙ put_commutes (text y) (text x) (in_byte_order (map text (filter (λ z. not (same x z)) ys)))
      ] refl there

  pub order_of_same : (xs ys : List X) → Apart same xs → Apart same ys →
      ((x : X) → list_any (same x) xs ≡ list_any (same x) ys) →
      in_byte_order (map text xs) ≡ in_byte_order (map text ys)
  order_of_same [] [] a b alike = refl
  order_of_same [] (y ∷ ys) a b alike =
      absurd (true≢false (sym (alike y ∙ ap (λ t. t || list_any (same y) ys) (itself y))))
  order_of_same (x ∷ xs) ys a b alike =
      let rest : List X = filter (λ y. not (same x y)) ys in
      let there : list_any (same x) ys ≡ true = sym (alike x) ∙ ap (λ t. t || list_any (same x) xs) (itself x) in
      let members : (z : X) → list_any (same z) xs ≡ list_any (same z) rest =
      λ z. elim (same x z) as (λ t. same x z ≡ t → list_any (same z) xs ≡ list_any (same z) rest) [
        | true ↦ λ e.
            subst (λ w. list_any (same w) xs ≡ false) (told x z e) a.0
            ∙ sym (any-filter_same (same z) (λ y. not (same x y)) false
            (λ y f. ap not (subst (λ w. same w y ≡ true) (sym (told x z e)) f)) ys)
        | false ↦ λ e.
            let apart : same z x ≡ false = false_from_ne_true (same z x) (λ f.
            true≢false (sym (sym e ∙ ap (same x) (told z x f) ∙ itself x))) in
            ap (λ t. t || list_any (same z) xs) (sym apart)
            ∙ alike z
            ∙ sym (any-filter_same (same z) (λ y. not (same x y)) true
            (λ y f. ap not (ap (same x) (sym (told z y f)) ∙ e)) ys)
      ] refl in
      ap (put_in_order (text x)) (order_of_same xs rest a.1 (apart_kept same (λ y. not (same x y)) ys b) members)
      ∙ sym (taken_out x ys there b)
