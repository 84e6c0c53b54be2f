-- Places that are sorted by the order of places are those that were put in order one by one.
use Rattle.std.proofs.Common.{◌≡◌, ℕ, suc, ◌+◌, ◌<◌, ◌≤◌, Bool, true, false, cond, ◌&&◌, ◌||◌, ◌⊎◌, List, [], ◌∷◌}
use Rattle.std.proofs.Common.{length}
use Rattle.std.proofs.Common.{refl, sym, ap, ◌∙◌, subst, arith, inl, inr, nat_eq, nat_lt, slice_index_or}
use Rattle.std.specs.Prelude.{count_by}
use Rattle.std.specs.List.Sorted.{IsSorted, IsPermutation}
use Rattle.std.specs.Ordering.{nat_cmp, ordering_then, is_lt}
use Rattle.std.specs.declared.cmp.Ordering.{Ordering}
use Rattle.std.specs.declared.cmp.Ordering.TheVariants.{Less, Equal, Greater}
use borrow.Author.Tests.{eqb-true, ltb-true, ltb-false}
use Rattle.std.proofs.lemmas.Bool.{cases_eq, eq-eqb, ne_eqb, le-ltb, and_from, and_parts, or_cases, or_parts}
use Rattle.std.proofs.lemmas.List.Sums.{sum_by-cons}
use Rattle.std.proofs.lemmas.List.Sorted.{sum_by-IsPermutation}
use Rattle.racer_base.specs.declared.ids.Place.{Place}
use Rattle.racer_base.proofs.Tests.{and_second}
use Rattle.core_lowering_rules.specs.Programs.{is_before, put_in, in_order}
use Rattle.core_lowering_rules.proofs.FoundElements.{Each}

-- ---- the order of places

abbrev AtMost : Place → Place → Type 0
AtMost p q =
    (p.file.0 < q.file.0)
    ⊎ ((p.file.0 ≡ q.file.0) × ((p.line < q.line) ⊎ ((p.line ≡ q.line) × (p.column ≤ q.column))))

not_less : (a b : ℕ) → nat_lt a b ≡ false → b ≤ a
not_less a b h = ltb-false a b h

below-by : (a b : ℕ) → a ≤ b → (a ≡ b → ⊥) → (t : Bool) → nat_lt a b ≡ t → a < b
below-by a b h other true e = ltb-true a b e
below-by a b h other false e = absurd (other (omega (arith, h, not_less a b e)))

below : (a b : ℕ) → a ≤ b → (a ≡ b → ⊥) → a < b
below a b h other = below-by a b h other (nat_lt a b) refl

at_most : (p q : Place) → is_before q p ≡ false → AtMost p q
at_most p q h =
    let files = or_parts (nat_lt q.file.0 p.file.0) _ h in
    let least : p.file.0 ≤ q.file.0 = not_less q.file.0 p.file.0 files.0 in
    elim (cases_eq p.file.0 q.file.0) as (λ _. AtMost p q) [
      | inr other ↦ inl (below p.file.0 q.file.0 least other)
      | inl same ↦
          let lines = or_parts (nat_lt q.line p.line) _
          (and_second (nat_eq q.file.0 p.file.0) _ (eq-eqb q.file.0 p.file.0 (sym same)) files.1) in
          let least_line : p.line ≤ q.line = not_less q.line p.line lines.0 in
          inr (
            same,
            elim (cases_eq p.line q.line) as
                (λ _. (p.line < q.line) ⊎ ((p.line ≡ q.line) × (p.column ≤ q.column))) [
                  | inr other ↦ inl (below p.line q.line least_line other)
                  | inl one ↦
                      inr (
                        one,
                        not_less q.column p.column
                            (and_second (nat_eq q.line p.line) _ (eq-eqb q.line p.line (sym one)) lines.1),
                      )
                ],
          )
    ]

no_less : (a b : ℕ) → b ≤ a → nat_lt a b ≡ false
no_less a b h = le-ltb a b h

neither : (a b c : Bool) → a ≡ false → b ≡ false → (a || b && c) ≡ false
neither a b c p q = ap (λ x. x || b && c) p ∙ ap (λ x. x && c) q

last_of : (a b c : Bool) → a ≡ false → c ≡ false → (a || b && c) ≡ false
last_of a b c p q = ap (λ x. x || b && c) p ∙ ap (λ x. b && x) q ∙ never b
  where
    never : (b : Bool) → (b && false) ≡ false
    never true = refl
    never false = refl

not_before : (p q : Place) → AtMost p q → is_before q p ≡ false
not_before p q (inl less) =
    neither (nat_lt q.file.0 p.file.0) (nat_eq q.file.0 p.file.0) _ (no_less q.file.0 p.file.0 (omega (arith, less)))
    (ne_eqb q.file.0 p.file.0 (λ (e : q.file.0 ≡ p.file.0). omega (arith, less, e)))
not_before p q (inr (same, inl less)) =
    last_of (nat_lt q.file.0 p.file.0) (nat_eq q.file.0 p.file.0) _ (no_less q.file.0 p.file.0 (omega (arith, same)))
    (neither (nat_lt q.line p.line) (nat_eq q.line p.line) _ (no_less q.line p.line (omega (arith, less)))
    (ne_eqb q.line p.line (λ (e : q.line ≡ p.line). omega (arith, less, e))))
not_before p q (inr (same, inr (one, least))) =
    last_of (nat_lt q.file.0 p.file.0) (nat_eq q.file.0 p.file.0) _ (no_less q.file.0 p.file.0 (omega (arith, same)))
    (last_of (nat_lt q.line p.line) (nat_eq q.line p.line) _ (no_less q.line p.line (omega (arith, one)))
    (no_less q.column p.column least))

at_most-trans : (p q r : Place) → AtMost p q → AtMost q r → AtMost p r
at_most-trans p q r (inl a) (inl b) = inl (omega (arith, a, b))
at_most-trans p q r (inl a) (inr (e, b)) = inl (omega (arith, a, e))
at_most-trans p q r (inr (e, a)) (inl b) = inl (omega (arith, e, b))
at_most-trans p q r (inr (e, inl a)) (inr (f, inl b)) = inr (omega (arith, e, f), inl (omega (arith, a, b)))
at_most-trans p q r (inr (e, inl a)) (inr (f, inr (g, b))) = inr (omega (arith, e, f), inl (omega (arith, a, g)))
at_most-trans p q r (inr (e, inr (g, a))) (inr (f, inl b)) = inr (omega (arith, e, f), inl (omega (arith, g, b)))
at_most-trans p q r (inr (e, inr (g, a))) (inr (f, inr (h, b))) =
    inr (omega (arith, e, f), inr (omega (arith, g, h), omega (arith, a, b)))

one_place : (p q : Place) → p.file.0 ≡ q.file.0 → p.line ≡ q.line → p.column ≡ q.column → p ≡ q
one_place p q a b c =
    ap (λ (n : ℕ). let made : Place = record { file = record { 0 = n }; line = p.line; column = p.column } in made) a
    ∙ ap (λ (n : ℕ). let made : Place = record { file = q.file; line = n; column = p.column } in made) b
    ∙ ap (λ (n : ℕ). let made : Place = record { file = q.file; line = q.line; column = n } in made) c

at_most-same : (p q : Place) → AtMost p q → AtMost q p → p ≡ q
at_most-same p q (inl a) (inl b) = absurd (omega (arith, a, b))
at_most-same p q (inl a) (inr (e, b)) = absurd (omega (arith, a, e))
at_most-same p q (inr (e, a)) (inl b) = absurd (omega (arith, e, b))
at_most-same p q (inr (e, inl a)) (inr (f, inl b)) = absurd (omega (arith, a, b))
at_most-same p q (inr (e, inl a)) (inr (f, inr (g, b))) = absurd (omega (arith, a, g))
at_most-same p q (inr (e, inr (g, a))) (inr (f, inl b)) = absurd (omega (arith, g, b))
at_most-same p q (inr (e, inr (g, a))) (inr (f, inr (h, b))) = one_place p q e g (omega (arith, a, b))

at_most-refl : (p : Place) → AtMost p p
at_most-refl p = inr (refl, inr (refl, omega arith))

-- what is before is not after
before-at_most : (p q : Place) → is_before p q ≡ true → AtMost p q
before-at_most p q h =
    elim (or_cases (nat_lt p.file.0 q.file.0) _ h) as (λ _. AtMost p q) [
      | inl less ↦ inl (ltb-true p.file.0 q.file.0 less)
      | inr more ↦
          let same = eqb-true p.file.0 q.file.0 (and_parts (nat_eq p.file.0 q.file.0) _ more).0 in
          inr (
            same,
            elim (or_cases (nat_lt p.line q.line) _ (and_parts (nat_eq p.file.0 q.file.0) _ more).1) as
                (λ _. (p.line < q.line) ⊎ ((p.line ≡ q.line) × (p.column ≤ q.column))) [
                  | inl less ↦ inl (ltb-true p.line q.line less)
                  | inr rest ↦
                      let less : p.column < q.column =
                      ltb-true p.column q.column (and_parts (nat_eq p.line q.line) _ rest).1 in
                      inr (eqb-true p.line q.line (and_parts (nat_eq p.line q.line) _ rest).0, omega (arith, less))
                ],
          )
    ]

-- ---- lists in order

abbrev NotBefore : Place → Place → Type 0
NotBefore p q = is_before q p ≡ false

abbrev Rising : List Place → Type 0
Rising [] = Unit {0}
Rising (p ∷ ps) = Each (NotBefore p) ps × Rising ps

farther : (p q : Place) (ps : List Place) → NotBefore p q → Each (NotBefore q) ps → Each (NotBefore p) ps
farther p q [] h all = tt
farther p q (r ∷ ps) h all = (
  not_before p r (at_most-trans p q r (at_most p q h) (at_most q r all.0)),
  farther p q ps h all.1,
)

each-by : (P : Place → Type 0) (p q : Place) (qs : List Place) (b : Bool) → P p → Each P (q ∷ qs) →
    Each P (put_in p qs) → Each P (cond b (q ∷ put_in p qs) (p ∷ q ∷ qs))
each-by P p q qs true h all more = (all.0, more)
each-by P p q qs false h all more = (h, all)

each-put : (P : Place → Type 0) (p : Place) (qs : List Place) → P p → Each P qs → Each P (put_in p qs)
each-put P p [] h all = (h, tt)
each-put P p (q ∷ qs) h all = each-by P p q qs (is_before q p) h all (each-put P p qs h all.1)

put-by : (p q : Place) (qs : List Place) (b : Bool) → is_before q p ≡ b → Rising (q ∷ qs) → Rising (put_in p qs) →
    Rising (cond b (q ∷ put_in p qs) (p ∷ q ∷ qs))
put-by p q qs true e r more =
    (each-put (NotBefore q) p qs (not_before q p (before-at_most q p e)) r.0, more)
put-by p q qs false e r more = ((e, farther p q qs e r.0), r)

put-rising : (p : Place) (qs : List Place) → Rising qs → Rising (put_in p qs)
put-rising p [] r = (tt, tt)
put-rising p (q ∷ qs) r = put-by p q qs (is_before q p) refl r (put-rising p qs r.1)

in_order-rising : (ps : List Place) → Rising (in_order ps)
in_order-rising [] = tt
in_order-rising (p ∷ ps) = put-rising p (in_order ps) (in_order-rising ps)

-- ---- how often a place stands in a list

same_place : Place → Place → Bool
same_place p q = nat_eq p.file.0 q.file.0 && nat_eq p.line q.line && nat_eq p.column q.column

same-is : (p q : Place) → same_place p q ≡ true → p ≡ q
unfolding same_place
same-is p q h =
    let front = (and_parts (nat_eq p.file.0 q.file.0 && nat_eq p.line q.line) _ h).0 in
    one_place p q (eqb-true p.file.0 q.file.0 (and_parts (nat_eq p.file.0 q.file.0) _ front).0)
    (eqb-true p.line q.line (and_parts (nat_eq p.file.0 q.file.0) _ front).1)
    (eqb-true p.column q.column (and_parts (nat_eq p.file.0 q.file.0 && nat_eq p.line q.line) _ h).1)

same-refl : (p : Place) → same_place p p ≡ true
unfolding same_place
same-refl p =
    and_from (nat_eq p.file.0 p.file.0 && nat_eq p.line p.line) _
    (and_from (nat_eq p.file.0 p.file.0) _ (eq-eqb p.file.0 p.file.0 refl) (eq-eqb p.line p.line refl))
    (eq-eqb p.column p.column refl)

abbrev counted : Bool → ℕ
counted b = cond b 1 0

one_if : Place → Place → ℕ
one_if r p = counted (same_place r p)

often : Place → List Place → ℕ
often r ps = count_by (same_place r) ps

often-next : (r p : Place) (ps : List Place) → often r (p ∷ ps) ≡ one_if r p + often r ps
unfolding often one_if
often-next r p ps = sum_by-cons (λ q. cond (same_place r q) 1 0) p ps

often-put-by : (r p q : Place) (qs : List Place) (b : Bool) → often r (put_in p qs) ≡ one_if r p + often r qs →
    often r (cond b (q ∷ put_in p qs) (p ∷ q ∷ qs)) ≡ one_if r p + often r (q ∷ qs)
often-put-by r p q qs true e =
    let a = often-next r q (put_in p qs) in let b = often-next r q qs in omega (arith, a, b, e)
often-put-by r p q qs false e = often-next r p (q ∷ qs)

often-put : (r p : Place) (qs : List Place) → often r (put_in p qs) ≡ one_if r p + often r qs
often-put r p [] = often-next r p []
often-put r p (q ∷ qs) = often-put-by r p q qs (is_before q p) (often-put r p qs)

often-in_order : (r : Place) (ps : List Place) → often r (in_order ps) ≡ often r ps
often-in_order r [] = refl
often-in_order r (p ∷ ps) =
    let a = often-put r p (in_order ps) in
    let b = often-in_order r ps in
    let c = often-next r p ps in omega (arith, a, b, c)

-- ---- one list in order

present : (P : Place → Type 0) (r p : Place) (ps : List Place) (b : Bool) → same_place r p ≡ b → P p →
    (1 ≤ often r ps → P r) → 1 ≤ often r (p ∷ ps) → P r
unfolding one_if
present P r p ps true e h more k = subst P (sym (same-is r p e)) h
present P r p ps false e h more k =
    let next = often-next r p ps in
    let none : one_if r p ≡ 0 = ap counted e in more (omega (arith, next, none, k))

present-holds : (P : Place → Type 0) (r : Place) (ps : List Place) → Each P ps → 1 ≤ often r ps → P r
unfolding often
present-holds P r [] all k = absurd (omega (arith, k))
present-holds P r (p ∷ ps) all k =
    present P r p ps (same_place r p) refl all.0 (present-holds P r ps all.1) k

own-often : (p : Place) (ps : List Place) → 1 ≤ often p (p ∷ ps)
unfolding one_if
own-often p ps =
    let next = often-next p p ps in
    let one : one_if p p ≡ 1 = ap counted (same-refl p) in omega (arith, next, one)

not_none : (p : Place) (ps : List Place) → often p (p ∷ ps) ≡ often p [] → ⊥
unfolding often
not_none p ps e = let some = own-often p ps in omega (arith, some, e)

rising-same : (xs ys : List Place) → Rising xs → Rising ys → ((r : Place) → often r xs ≡ often r ys) → xs ≡ ys
rising-same [] [] p q same = refl
rising-same [] (y ∷ ys) p q same = absurd (not_none y ys (sym (same y)))
rising-same (x ∷ xs) [] p q same = absurd (not_none x xs (same x))
rising-same (x ∷ xs) (y ∷ ys) p q same =
    let own_x = own-often x xs in
    let own_y = own-often y ys in
    let first = present-holds (NotBefore y) x (y ∷ ys) (not_before y y (at_most-refl y), q.0)
    (omega (arith, own_x, same x)) in
    let second = present-holds (NotBefore x) y (x ∷ xs) (not_before x x (at_most-refl x), p.0)
    (omega (arith, own_y, same y)) in
    let one : x ≡ y = at_most-same x y (at_most x y second) (at_most y x first) in
    let rest = rising-same xs ys p.1 q.1 (λ r.
    let a = often-next r x xs in
    let b = often-next r y ys in
    let c = ap (one_if r) one in
    let d = same r in omega (arith, a, b, c, d)) in
    ap (λ z. z ∷ xs) one ∙ ap (λ (zs : List Place). y ∷ zs) rest

-- ---- sorted lists

adjacent-rising : (ps : List Place) →
    ((k : ℕ) (d : Place) → k + 1 < length ps →
    is_before (slice_index_or ps (k + 1) d) (slice_index_or ps k d) ≡ false) →
    Rising ps
adjacent-rising [] h = tt
adjacent-rising (p ∷ []) h = (tt, tt)
adjacent-rising (p ∷ q ∷ ps) h =
    let rest = adjacent-rising (q ∷ ps) (λ k d within.
    subst (λ n. is_before (slice_index_or (p ∷ q ∷ ps) n d) (slice_index_or (p ∷ q ∷ ps) (suc k) d) ≡ false)
    (shift k) (h (suc k) d (omega (arith, within)))) in
    let first = h 0 p (omega arith) in ((first, farther p q ps first rest.0), rest)
  where
    shift : (k : ℕ) → suc k + 1 ≡ suc (k + 1)
    shift k = omega arith

pub sorted-in_order : (cmp : Place → Place → Ordering) → ((p q : Place) → is_lt (cmp p q) ≡ is_before p q) →
    (ps qs : List Place) → IsSorted cmp qs → IsPermutation ps qs → qs ≡ in_order ps
unfolding often
sorted-in_order cmp tests ps qs sorted permuted =
    rising-same qs (in_order ps)
    (adjacent-rising qs (λ k d within.
    sym (tests (slice_index_or qs (k + 1) d) (slice_index_or qs k d)) ∙ sorted k d (omega arith) within))
    (in_order-rising ps)
    (λ r. sum_by-IsPermutation (λ q. cond (same_place r q) 1 0) ps qs permuted ∙ sym (often-in_order r ps))

-- ---- comparisons, one after another

pub less-first : (a b : ℕ) (o : Ordering) →
    is_lt (ordering_then (nat_cmp a b) o) ≡ (nat_lt a b || nat_eq a b && is_lt o)
less-first a b o = by (nat_lt a b) (nat_eq a b)
  where
    by : (x y : Bool) → is_lt (ordering_then (cond x Less (cond y Equal Greater)) o) ≡ (x || y && is_lt o)
    by true y = refl
    by false true = refl
    by false false = refl

pub less-last : (a b : ℕ) → is_lt (nat_cmp a b) ≡ nat_lt a b
less-last a b = by (nat_lt a b) (nat_eq a b)
  where
    by : (x y : Bool) → is_lt (cond x Less (cond y Equal Greater)) ≡ x
    by true y = refl
    by false true = refl
    by false false = refl
