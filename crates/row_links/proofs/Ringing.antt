-- Rings of nodes: what a node that leaves, one that comes and a row behind another leave.
use Rattle.std.proofs.Common.{◌≡◌, ℕ, ◌+◌, ◌≤◌, ◌<◌, ◌⊎◌, inl, inr, List, [], ◌∷◌, ◌++◌, length, map, nat_eq}
use Rattle.std.proofs.Common.{slice_index, slice_set, refl, sym, ap, subst, ◌∙◌, arith}
use Rattle.std.specs.List.{concat}
use Rattle.std.proofs.lemmas.Bool.{cases_eq, cases_lt}
use Rattle.std.proofs.lemmas.List.{length-set, length-map, get_or-set_same, append_assoc}
use Rattle.row_links.specs.Lists.{list_at, without, put_last, spliced, one_if, times, IsInList}
use Rattle.row_links.specs.Rings.{Joined, AreRings}
use Rattle.row_links.proofs.Counting.{same_once, other_never, times-append, without-none, times-without}
use Rattle.row_links.proofs.Counting.{times-without_other, without-concat, times-in_lists, times-in_two, one_list}
use Rattle.row_links.proofs.Lists.{list_at-without, put-here, put-other, spliced-from, spliced-to, spliced-other}
use Rattle.row_links.proofs.Lists.{length-spliced, times-put_last, times-spliced}
use Rattle.row_links.proofs.Joining.{first_or, last_or, framed, split, glued, ends, last_in, last_or-append, ended}
use Rattle.row_links.proofs.Joining.{linked, parted, without-parted}

-- a point of the ring of this row
abbrev pub IsOf : ℕ → List (List ℕ) → ℕ → ℕ → Type 0
IsOf n lists l p = (p ≡ n + l) ⊎ IsInList lists p l

pub in_row : (n : ℕ) (next before : List ℕ) (lists : List (List ℕ)) (p l : ℕ) → AreRings n next before lists →
    IsInList lists p l → p < n
in_row n next before lists p l r there = elim (cases_lt p n) [
  | inl low ↦ low
  | inr high ↦ let none = r.below p high in let some = times-in_lists p l lists in absurd (omega arith)
]

pub of-low : (n : ℕ) (next before : List ℕ) (lists : List (List ℕ)) (p l : ℕ) → AreRings n next before lists →
    l < length lists → IsOf n lists l p → p < n + length lists
of-low n next before lists p l r low (inl e) = omega arith
of-low n next before lists p l r low (inr there) = let below = in_row n next before lists p l r there in omega arith

-- a ring's own node is in no row
pub own_apart : (n : ℕ) (next before : List ℕ) (lists : List (List ℕ)) (l m : ℕ) → AreRings n next before lists →
    times (n + l) (list_at lists m) ≡ 0
own_apart n next before lists l m r = let none = r.below (n + l) (omega arith) in
    let some = times-in_lists (n + l) m lists in omega arith

pub of-apart : (n : ℕ) (next before : List ℕ) (lists : List (List ℕ)) (p l m : ℕ) → AreRings n next before lists →
    IsOf n lists l p → (m ≡ l → ⊥) → (p ≡ n + m → ⊥) × (times p (list_at lists m) ≡ 0)
of-apart n next before lists p l m r (inl e) other = (
  λ s. other (omega arith),
  ap (λ q. times q (list_at lists m)) e ∙ own_apart n next before lists l m r,
)
of-apart n next before lists p l m r (inr there) other = (
  λ s. let below = in_row n next before lists p l r there in omega arith,
  elim (cases_eq (times p (list_at lists m)) 0) [
    | inl e ↦ e
    | inr e ↦ absurd (other (sym (one_list p l m lists (r.once p) there (omega arith))))
  ],
)

row-once : (n : ℕ) (next before : List ℕ) (lists : List (List ℕ)) (l y : ℕ) → AreRings n next before lists →
    times y ((n + l) ∷ list_at lists l) ≤ 1
row-once n next before lists l y r = let some = times-in_lists y l lists in let once = r.once y in
    elim (cases_eq y (n + l)) [
      | inl e ↦ let one = same_once y (n + l) e in let none = ap (λ q. times q (list_at lists l)) e
          ∙ own_apart n next before lists l l r in omega arith
      | inr e ↦ let never = other_never y (n + l) e in omega arith
    ]

last-of : (n : ℕ) (lists : List (List ℕ)) (l : ℕ) (xs ys : List ℕ) → list_at lists l ≡ xs ++ ys →
    IsOf n lists l (last_or (n + l) xs)
last-of n lists l xs ys row = let p = last_or (n + l) xs in let there = last_in (n + l) xs in
    elim (cases_eq p (n + l)) [
      | inl e ↦ inl e
      | inr e ↦ let never = other_never p (n + l) e in let both = ap (times p) row ∙ times-append p xs ys in
          inr (omega arith)
    ]

first-of : (n : ℕ) (lists : List (List ℕ)) (l : ℕ) (xs ys : List ℕ) → list_at lists l ≡ xs ++ ys →
    IsOf n lists l (first_or ys (n + l))
first-of n lists l xs [] row = inl refl
first-of n lists l xs (y ∷ ys) row = let both = ap (times y) row ∙ times-append y xs (y ∷ ys) in
    let one = same_once y y refl in inr (omega arith)

behind-of : (n : ℕ) (lists : List (List ℕ)) (l x : ℕ) (xs ys : List ℕ) → list_at lists l ≡ xs ++ x ∷ ys →
    IsOf n lists l (first_or ys (n + l))
behind-of n lists l x xs ys row = first-of n lists l (xs ++ x ∷ []) ys (row ∙ sym (append_assoc xs (x ∷ []) ys))

pub of-before : (n : ℕ) (next before : List ℕ) (lists : List (List ℕ)) (p l : ℕ) → AreRings n next before lists →
    l < length lists → IsOf n lists l p → IsOf n lists l (slice_index before p)
of-before n next before lists p l r low (inl e) =
    subst (λ q. IsOf n lists l q) (sym (ap (slice_index before) e
    ∙ (ends next before (n + l) (n + l) (list_at lists l) (r.joined l low)).1))
    (last-of n lists l (list_at lists l) [] (sym (nil (list_at lists l))))
  where
    nil : (xs : List ℕ) → xs ++ [] ≡ xs
    nil [] = refl
    nil (x ∷ xs) = ap (λ l. x ∷ l) (nil xs)
of-before n next before lists p l r low (inr there) = let parts = parted p (list_at lists l) there in
    let halves = split next before (n + l) (n + l) p parts.0 parts.1
    (subst (λ xs. Joined next before (n + l) xs (n + l)) parts.2 (r.joined l low)) in
    subst (λ q. IsOf n lists l q) (sym (ends next before (n + l) p parts.0 halves.0).1)
    (last-of n lists l parts.0 (p ∷ parts.1) parts.2)

pub of-next : (n : ℕ) (next before : List ℕ) (lists : List (List ℕ)) (p l : ℕ) → AreRings n next before lists →
    l < length lists → IsOf n lists l p → IsOf n lists l (slice_index next p)
of-next n next before lists p l r low (inl e) =
    subst (λ q. IsOf n lists l q) (sym (ap (slice_index next) e
    ∙ (ends next before (n + l) (n + l) (list_at lists l) (r.joined l low)).0))
    (first-of n lists l [] (list_at lists l) refl)
of-next n next before lists p l r low (inr there) = let parts = parted p (list_at lists l) there in
    let halves = split next before (n + l) (n + l) p parts.0 parts.1
    (subst (λ xs. Joined next before (n + l) xs (n + l)) parts.2 (r.joined l low)) in
    subst (λ q. IsOf n lists l q) (sym (ends next before p (n + l) parts.1 halves.1).0)
    (behind-of n lists l p parts.0 parts.1 parts.2)

-- ---- a node leaves

times-left : (x y : ℕ) (lists : List (List ℕ)) → times y (concat (map (without x) lists)) ≤ times y (concat lists)
times-left x y lists = let all = ap (times y) (without-concat x lists) in elim (cases_eq y x) [
  | inl e ↦ let none = ap (λ z. times z (without x (concat lists))) e ∙ times-without x (concat lists) in omega arith
  | inr e ↦ let same = times-without_other x y (concat lists) e in omega arith
]

none_left : (x l : ℕ) (lists : List (List ℕ)) → times x (list_at lists l) ≡ 0 →
    list_at (map (without x) lists) l ≡ list_at lists l
none_left x l lists none = list_at-without x l lists ∙ without-none x (list_at lists l) none

pub taken_out : (n : ℕ) (next before : List ℕ) (lists : List (List ℕ)) (x l : ℕ) → AreRings n next before lists →
    l < length lists → IsInList lists x l →
    AreRings n (slice_set next (slice_index before x) (slice_index next x))
    (slice_set before (slice_index next x) (slice_index before x)) (map (without x) lists)
taken_out n next before lists x l r low there = let p = slice_index before x in let q = slice_index next x in
    let p_of : IsOf n lists l p = of-before n next before lists x l r low (inr there) in
    let q_of : IsOf n lists l q = of-next n next before lists x l r low (inr there) in
    let p_low = of-low n next before lists p l r low p_of in let q_low = of-low n next before lists q l r low q_of in
    let long : length (map (without x) lists) ≡ length lists = length-map lists (without x) in
    record {
      next_length = length-set next p q ∙ r.next_length ∙ ap (λ k. n + k) (sym long);
      before_length = length-set before q p ∙ r.before_length ∙ ap (λ k. n + k) (sym long);
      joined = λ m low_m. elim (cases_eq m l) [
        | inl e ↦ subst (λ m. Joined (slice_set next p q) (slice_set before q p) (n + m)
            (list_at (map (without x) lists) m) (n + m)) (sym e) here
        | inr e ↦ let p_off = of-apart n next before lists p l m r p_of e in
            let q_off = of-apart n next before lists q l m r q_of e in
            let gone = of-apart n next before lists x l m r (inr there) e in
            subst (λ xs. Joined (slice_set next p q) (slice_set before q p) (n + m) xs (n + m))
            (sym (none_left x m lists gone.1))
            (framed next before (n + m) (n + m) p q q p (list_at lists m) (r.joined m (omega arith)) p_off.0 p_off.1
            q_off.0 q_off.1)
      ];
      once = λ y. let left = times-left x y lists in let one = r.once y in omega arith;
      below = λ y high. let left = times-left x y lists in let none = r.below y high in omega arith;
    }
  where
    parts : (xs : List ℕ) × (ys : List ℕ) × (list_at lists l ≡ xs ++ x ∷ ys)
    parts = parted x (list_at lists l) there

    halves : Joined next before (n + l) parts.0 x × Joined next before x parts.1 (n + l)
    halves = split next before (n + l) (n + l) x parts.0 parts.1
        (subst (λ xs. Joined next before (n + l) xs (n + l)) parts.2 (r.joined l low))

    one_less : (y : ℕ) → times y (list_at lists l) ≡ times y (parts.0 ++ parts.1) + one_if (nat_eq y x)
    one_less y = let whole = ap (times y) parts.2 ∙ times-append y parts.0 (x ∷ parts.1) in
        let both = times-append y parts.0 parts.1 in omega arith

    row : list_at (map (without x) lists) l ≡ parts.0 ++ parts.1
    row = list_at-without x l lists ∙ ap (without x) parts.2 ∙ without-parted x parts.0 parts.1
        (let same = ap (times x) parts.2 in let one = r.once x in let some = times-in_lists x l lists in omega arith)

    p_is : slice_index before x ≡ last_or (n + l) parts.0
    p_is = (ends next before (n + l) x parts.0 halves.0).1

    q_is : slice_index next x ≡ first_or parts.1 (n + l)
    q_is = (ends next before x (n + l) parts.1 halves.1).0

    Linked : ℕ → ℕ → List ℕ → Type 0
    Linked p q xs = Joined (slice_set next p q) (slice_set before q p) (n + l) xs (n + l)

    here : Linked (slice_index before x) (slice_index next x) (list_at (map (without x) lists) l)
    here = let p_low = of-low n next before lists (last_or (n + l) parts.0) l r low
        (last-of n lists l parts.0 (x ∷ parts.1) parts.2) in
        let q_low = of-low n next before lists (first_or parts.1 (n + l)) l r low
        (behind-of n lists l x parts.0 parts.1 parts.2) in
        let joined : Linked (last_or (n + l) parts.0) (first_or parts.1 (n + l)) (parts.0 ++ parts.1) =
        linked next before (n + l) (n + l) x x parts.0 parts.1 halves.0 halves.1
        (λ y. let one = row-once n next before lists l y r in let less = one_less y in omega arith)
        (let none = own_apart n next before lists l l r in let less = one_less (n + l) in omega arith)
        (let long = r.next_length in omega arith) (let long = r.before_length in omega arith) in
        subst (λ xs. Linked (slice_index before x) (slice_index next x) xs) (sym row)
        (subst (λ p. Linked p (slice_index next x) (parts.0 ++ parts.1)) (sym p_is)
        (subst (λ q. Linked (last_or (n + l) parts.0) q (parts.0 ++ parts.1)) (sym q_is) joined))

-- ---- a node comes last

pub put_in : (n : ℕ) (next before : List ℕ) (lists : List (List ℕ)) (x l : ℕ) → AreRings n next before lists →
    l < length lists → x < n → times x (concat lists) ≡ 0 →
    AreRings n (slice_set (slice_set next (slice_index before (n + l)) x) x (n + l))
    (slice_set (slice_set before x (slice_index before (n + l))) (n + l) x) (put_last x l lists)
put_in n next before lists x l r low below none =
    record {
      next_length = length-set (slice_set next p x) x (n + l) ∙ length-set next p x ∙ r.next_length
          ∙ ap (λ k. n + k) (sym long);
      before_length = length-set (slice_set before x p) (n + l) x ∙ length-set before x p ∙ r.before_length
          ∙ ap (λ k. n + k) (sym long);
      joined = λ m low_m. elim (cases_eq m l) [
        | inl e ↦ subst (λ m. Joined (slice_set (slice_set next p x) x (n + l)) (slice_set
            (slice_set before x p) (n + l) x)
            (n + m) (list_at (put_last x l lists) m) (n + m)) (sym e) here
        | inr e ↦ let p_off = of-apart n next before lists p l m r p_of e in
            subst (λ xs. Joined (slice_set (slice_set next p x) x (n + l)) (slice_set (slice_set before x p) (n + l) x)
            (n + m) xs (n + m)) (sym (put-other x l m lists e))
            (framed (slice_set next p x) (slice_set before x p) (n + m) (n + m) x (n + l) (n + l) x (list_at lists m)
            (framed next before (n + m) (n + m) p x x p (list_at lists m) (r.joined m (omega
            (arith, long))) p_off.0 p_off.1
            (λ s. omega arith) (nowhere m)) (λ s. omega arith) (nowhere m) (λ s. e (omega arith))
            (own_apart n next before lists l m r))
      ];
      once = λ y. let put = times-put_last x y l lists low in elim (cases_eq y x) [
        | inl e ↦ let here = same_once y x e in let gone = ap (λ z. times z (concat lists)) e ∙ none in omega arith
        | inr e ↦ let never = other_never y x e in let one = r.once y in omega arith
      ];
      below = λ y high. let put = times-put_last x y l lists low in let never = other_never y x (λ s. omega arith) in
          let gone = r.below y high in omega arith;
    }
  where
    p : ℕ
    p = slice_index before (n + l)

    long : length (put_last x l lists) ≡ length lists
    long = length-set lists l (list_at lists l ++ x ∷ [])

    p_of : IsOf n lists l p
    p_of = of-before n next before lists (n + l) l r low (inl refl)

    nowhere : (m : ℕ) → times x (list_at lists m) ≡ 0
    nowhere m = let some = times-in_lists x m lists in omega arith

    p_is : p ≡ last_or (n + l) (list_at lists l)
    p_is = (ends next before (n + l) (n + l) (list_at lists l) (r.joined l low)).1

    here : Joined (slice_set (slice_set next p x) x (n + l)) (slice_set (slice_set before x p) (n + l) x) (n + l)
        (list_at (put_last x l lists) l) (n + l)
    here = let p_low = of-low n next before lists p l r low p_of in
        let long_next = r.next_length in let long_before = r.before_length in
        let one : Joined (slice_set next p x) (slice_set before x p) (n + l) (list_at lists l) x =
        subst (λ q. Joined (slice_set next q x) (slice_set before x q) (n + l) (list_at lists l) x) (sym p_is)
        (ended next before (n + l) (n + l) x (list_at lists l) (r.joined l low)
        (λ y. row-once n next before lists l y r) (nowhere l) (subst (λ q. q < length next) p_is (omega arith))
        (omega arith)) in
        let two : Joined (slice_set (slice_set next p x) x (n + l)) (slice_set (slice_set before x p) (n + l) x) (n + l)
        (list_at lists l) x = framed (slice_set next p x) (slice_set before x p) (n + l) x x (n + l) (n + l) x
        (list_at lists l) one (λ s. omega arith) (nowhere l) (λ s. omega arith) (own_apart n next before lists l l r) in
        let next_same = length-set next p x in let before_same = length-set before x p in
        subst (λ xs. Joined (slice_set (slice_set next p x) x (n + l)) (slice_set (slice_set before x p)
        (n + l) x) (n + l)
        xs (n + l)) (sym (put-here x l lists low))
        (glued (slice_set (slice_set next p x) x (n + l)) (slice_set (slice_set before x p) (n + l) x) (n + l) (n + l) x
        (list_at lists l) [] two (
          get_or-set_same (slice_set next p x) x (n + l) 0 (omega arith),
          get_or-set_same (slice_set before x p) (n + l) x 0 (omega arith),
        ))

-- ---- a row comes behind another

pub appended : (n : ℕ) (next before : List ℕ) (lists : List (List ℕ)) (from to end first last : ℕ) →
    AreRings n next before lists → (from ≡ to → ⊥) → from < length lists → to < length lists →
    end ≡ slice_index before (n + to) → first ≡ slice_index next (n + from) → last ≡ slice_index before (n + from) →
    (first ≡ n + from → ⊥) →
    AreRings n (slice_set (slice_set (slice_set next end first) last (n + to)) (n + from) (n + from))
    (slice_set (slice_set (slice_set before first end) (n + to) last) (n + from) (n + from)) (spliced from to lists)
appended n next before lists from to end first last r other low_from low_to end_is first_is last_is some =
    record {
      next_length = length-set next_2 (n + from) (n + from) ∙ length-set next_1 last (n + to)
          ∙ length-set next end first ∙ r.next_length ∙ ap (λ k. n + k) (sym long);
      before_length = length-set before_2 (n + from) (n + from) ∙ length-set before_1 (n + to) last
          ∙ length-set before first end ∙ r.before_length ∙ ap (λ k. n + k) (sym long);
      joined = λ m low_m. elim (cases_eq m from) [
        | inl e ↦ subst (λ m. Joined next_3 before_3 (n + m) (list_at (spliced from to lists) m) (n + m)) (sym e) left
        | inr not_from ↦ elim (cases_eq m to) [
          | inl e ↦ subst (λ m. Joined next_3 before_3 (n + m) (list_at (spliced from to lists) m) (n + m))
              (sym e) whole
          | inr not_to ↦ subst (λ xs. Joined next_3 before_3 (n + m) xs (n + m))
              (sym (spliced-other from to m lists not_from not_to)) (rest m (omega (arith, long)) not_from not_to)
        ]
      ];
      once = λ y. let same = times-spliced from to y lists other low_from low_to in let one = r.once y in omega arith;
      below = λ y high. let same = times-spliced from to y lists other low_from low_to in let none = r.below y high in
          omega arith;
    }
  where
    next_1 : List ℕ
    next_1 = slice_set next end first

    next_2 : List ℕ
    next_2 = slice_set next_1 last (n + to)

    next_3 : List ℕ
    next_3 = slice_set next_2 (n + from) (n + from)

    before_1 : List ℕ
    before_1 = slice_set before first end

    before_2 : List ℕ
    before_2 = slice_set before_1 (n + to) last

    before_3 : List ℕ
    before_3 = slice_set before_2 (n + from) (n + from)

    long : length (spliced from to lists) ≡ length lists
    long = length-spliced from to lists

    end_of : IsOf n lists to end
    end_of = subst (λ p. IsOf n lists to p) (sym end_is) (of-before n next before lists (n + to) to r low_to (inl refl))

    first_of : IsOf n lists from first
    first_of = subst (λ p. IsOf n lists from p) (sym first_is)
        (of-next n next before lists (n + from) from r low_from (inl refl))

    last_of : IsOf n lists from last
    last_of = subst (λ p. IsOf n lists from p) (sym last_is)
        (of-before n next before lists (n + from) from r low_from (inl refl))

    low : (p l : ℕ) → l < length lists → IsOf n lists l p → p < length next
    low p l low_l p_of = let below = of-low n next before lists p l r low_l p_of in let all = r.next_length in
        omega arith

    low_before : (p l : ℕ) → l < length lists → IsOf n lists l p → p < length before
    low_before p l low_l p_of = let below = of-low n next before lists p l r low_l p_of in let all = r.before_length in
        omega arith

    rest : (m : ℕ) → m < length lists → (m ≡ from → ⊥) → (m ≡ to → ⊥) →
        Joined next_3 before_3 (n + m) (list_at lists m) (n + m)
    rest m low_m not_from not_to = let end_off = of-apart n next before lists end to m r end_of not_to in
        let first_off = of-apart n next before lists first from m r first_of not_from in
        let last_off = of-apart n next before lists last from m r last_of not_from in
        framed next_2 before_2 (n + m) (n + m) (n + from) (n + from) (n + from) (n + from) (list_at lists m)
        (framed next_1 before_1 (n + m) (n + m) last (n + to) (n + to) last (list_at lists m)
        (framed next before (n + m) (n + m) end first first end (list_at lists m) (r.joined m low_m) end_off.0 end_off.1
        first_off.0 first_off.1) last_off.0 last_off.1 (λ s. not_to (omega arith))
        (own_apart n next before lists to m r))
        (λ s. not_from (omega arith)) (own_apart n next before lists from m r) (λ s. not_from (omega arith))
        (own_apart n next before lists from m r)

    left : Joined next_3 before_3 (n + from) (list_at (spliced from to lists) from) (n + from)
    left = let low_next = low (n + from) from low_from (inl refl) in
        let low_prev = low_before (n + from) from low_from (inl refl) in
        let next_long = length-set next_1 last (n + to) ∙ length-set next end first in
        let before_long = length-set before_1 (n + to) last ∙ length-set before first end in
        subst (λ xs. Joined next_3 before_3 (n + from) xs (n + from)) (sym (spliced-from from to lists low_from)) (
          get_or-set_same next_2 (n + from) (n + from) 0 (omega arith),
          get_or-set_same before_2 (n + from) (n + from) 0 (omega arith),
        )

    both : List ℕ
    both = list_at lists to ++ list_at lists from

    both-once : (y : ℕ) → times y ((n + to) ∷ both) ≤ 1
    both-once y = let parts = times-append y (list_at lists to) (list_at lists from) in
        let two = times-in_two y to from lists (λ e. other (sym e)) in let one = r.once y in
        elim (cases_eq y (n + to)) [
          | inl e ↦ let here = same_once y (n + to) e in
              let none_to = ap (λ q. times q (list_at lists to)) e ∙ own_apart n next before lists to to r in
              let none_from = ap (λ q. times q (list_at lists from)) e ∙ own_apart n next before lists to from r in
              omega arith
          | inr e ↦ let never = other_never y (n + to) e in omega arith
        ]

    own_not_in_both : (l : ℕ) → times (n + l) both ≡ 0
    own_not_in_both l = let parts = times-append (n + l) (list_at lists to) (list_at lists from) in
        let none_to = own_apart n next before lists l to r in
        let none_from = own_apart n next before lists l from r in omega arith

    end_last : end ≡ last_or (n + to) (list_at lists to)
    end_last = end_is ∙ (ends next before (n + to) (n + to) (list_at lists to) (r.joined to low_to)).1

    first_first : first ≡ first_or (list_at lists from) (n + from)
    first_first = first_is ∙ (ends next before (n + from) (n + from) (list_at lists from) (r.joined from low_from)).0

    last_last : last ≡ last_or (n + to) both
    last_last = last_is ∙ (ends next before (n + from) (n + from) (list_at lists from) (r.joined from low_from)).1
        ∙ some_last (list_at lists from) first_first
      where
        some_last : (xs : List ℕ) → first ≡ first_or xs (n + from) →
            last_or (n + from) xs ≡ last_or (n + to) (list_at lists to ++ xs)
        some_last [] e = absurd (some e)
        some_last (x ∷ xs) e = sym (last_or-append (n + to) x (list_at lists to) xs)

    one : Joined next_1 before_1 (n + to) both (n + from)
    one = subst (λ p. Joined (slice_set next p first) (slice_set before first p) (n + to) both (n + from))
        (sym end_last)
        (subst (λ q. Joined (slice_set next (last_or (n + to) (list_at lists to)) q)
        (slice_set before q (last_or (n + to) (list_at lists to))) (n + to) both (n + from)) (sym first_first)
        (linked next before (n + to) (n + from) (n + to) (n + from) (list_at lists to) (list_at lists from)
        (r.joined to low_to) (r.joined from low_from) both-once (own_not_in_both from)
        (subst (λ p. p < length next) end_last (low end to low_to end_of))
        (subst (λ q. q < length before) first_first (low_before first from low_from first_of))))

    two : Joined next_2 before_2 (n + to) both (n + to)
    two = let low_last = low last from low_from last_of in let low_to_own = low_before (n + to) to low_to (inl refl) in
        let next_long = length-set next end first in let before_long = length-set before first end in
        subst (λ p. Joined (slice_set next_1 p (n + to)) (slice_set before_1 (n + to) p) (n + to) both (n + to))
        (sym last_last)
        (ended next_1 before_1 (n + to) (n + from) (n + to) both one both-once (own_not_in_both to)
        (subst (λ p. p < length next_1) last_last (omega arith)) (omega arith))

    whole : Joined next_3 before_3 (n + to) (list_at (spliced from to lists) to) (n + to)
    whole = subst (λ xs. Joined next_3 before_3 (n + to) xs (n + to)) (sym (spliced-to from to lists other low_to))
        (framed next_2 before_2 (n + to) (n + to) (n + from) (n + from) (n + from) (n + from) both two
        (λ s. other (omega arith)) (own_not_in_both from) (λ s. other (omega arith)) (own_not_in_both from))
