-- What the moves do to each list, and that each node stays once.
use Rattle.std.proofs.Common.{◌≡◌, ℕ, zero, suc, ◌+◌, ◌≤◌, ◌<◌, ◌⊎◌, inl, inr, List, [], ◌∷◌, ◌++◌, length, map, nat_eq}
use Rattle.std.proofs.Common.{slice_set, refl, sym, ap, subst, ◌∙◌, arith}
use Rattle.std.specs.List.{concat}
use Rattle.std.proofs.lemmas.Bool.{cases_eq, cases_lt}
use Rattle.std.proofs.lemmas.List.{length-append, length-set, length-map, get_or-set_same, get_or-set_other}
use Rattle.row_links.specs.Lists.{list_at, without, put_last, moved, spliced, one_if, times, node_count, HasEachOnce}
use Rattle.row_links.specs.Lists.{IsInList}
use Rattle.row_links.proofs.Counting.{same_once, other_never, times-append, times-without, times-without_other}
use Rattle.row_links.proofs.Counting.{length-without, without-concat, times-set, count-set, times-in_lists, one_list}
use Rattle.row_links.proofs.Counting.{some_list}

-- ---- each list

pub list_at-without : (x l : ℕ) (lists : List (List ℕ)) →
    list_at (map (without x) lists) l ≡ without x (list_at lists l)
list_at-without x l [] = refl
list_at-without x zero (xs ∷ lists) = refl
list_at-without x (suc l) (xs ∷ lists) = list_at-without x l lists

pub put-here : (x l : ℕ) (lists : List (List ℕ)) → l < length lists →
    list_at (put_last x l lists) l ≡ list_at lists l ++ x ∷ []
put-here x l lists low = get_or-set_same lists l (list_at lists l ++ x ∷ []) [] low

pub put-other : (x l m : ℕ) (lists : List (List ℕ)) → (m ≡ l → ⊥) → list_at (put_last x l lists) m ≡ list_at lists m
put-other x l m lists other = get_or-set_other lists l m (list_at lists l ++ x ∷ []) [] other

pub moved-here : (x l : ℕ) (lists : List (List ℕ)) → l < length lists →
    list_at (moved x l lists) l ≡ without x (list_at lists l) ++ x ∷ []
moved-here x l lists low = put-here x l (map (without x) lists) (let long = length-map lists (without x) in omega arith)
    ∙ ap (λ xs. xs ++ x ∷ []) (list_at-without x l lists)

pub moved-other : (x l m : ℕ) (lists : List (List ℕ)) → (m ≡ l → ⊥) →
    list_at (moved x l lists) m ≡ without x (list_at lists m)
moved-other x l m lists other = put-other x l m (map (without x) lists) other ∙ list_at-without x m lists

pub spliced-from : (from to : ℕ) (lists : List (List ℕ)) → from < length lists →
    list_at (spliced from to lists) from ≡ []
spliced-from from to lists low =
    get_or-set_same (slice_set lists to (list_at lists to ++ list_at lists from)) from [] []
    (let long = length-set lists to (list_at lists to ++ list_at lists from) in omega arith)

pub spliced-to : (from to : ℕ) (lists : List (List ℕ)) → (from ≡ to → ⊥) → to < length lists →
    list_at (spliced from to lists) to ≡ list_at lists to ++ list_at lists from
spliced-to from to lists other low =
    get_or-set_other (slice_set lists to (list_at lists to ++ list_at lists from)) from to [] [] (λ e. other (sym e))
    ∙ get_or-set_same lists to (list_at lists to ++ list_at lists from) [] low

pub spliced-other : (from to l : ℕ) (lists : List (List ℕ)) → (l ≡ from → ⊥) → (l ≡ to → ⊥) →
    list_at (spliced from to lists) l ≡ list_at lists l
spliced-other from to l lists not_from not_to =
    get_or-set_other (slice_set lists to (list_at lists to ++ list_at lists from)) from l [] [] not_from
    ∙ get_or-set_other lists to l (list_at lists to ++ list_at lists from) [] not_to

pub length-moved : (x l : ℕ) (lists : List (List ℕ)) → length (moved x l lists) ≡ length lists
length-moved x l lists = length-set (map (without x) lists) l (list_at (map (without x) lists) l ++ x ∷ [])
    ∙ length-map lists (without x)

pub length-spliced : (from to : ℕ) (lists : List (List ℕ)) → length (spliced from to lists) ≡ length lists
length-spliced from to lists = length-set (slice_set lists to (list_at lists to ++ list_at lists from)) from []
    ∙ length-set lists to (list_at lists to ++ list_at lists from)

-- ---- how often a node stands in all of them

pub times-put_last : (x y l : ℕ) (lists : List (List ℕ)) → l < length lists →
    times y (concat (put_last x l lists)) ≡ times y (concat lists) + one_if (nat_eq y x)
times-put_last x y l lists low = let all = times-set y l (list_at lists l ++ x ∷ []) lists low in
    let row = times-append y (list_at lists l) (x ∷ []) in omega arith

pub count-put_last : (x l : ℕ) (lists : List (List ℕ)) → l < length lists →
    node_count (put_last x l lists) ≡ node_count lists + 1
count-put_last x l lists low = let all = count-set l (list_at lists l ++ x ∷ []) lists low in
    let row : length (list_at lists l ++ x ∷ []) ≡ length (list_at lists l) + 1 =
    length-append (list_at lists l) (x ∷ []) in omega arith

pub times-moved : (x y l : ℕ) (lists : List (List ℕ)) → l < length lists → times x (concat lists) ≡ 1 →
    times y (concat (moved x l lists)) ≡ times y (concat lists)
times-moved x y l lists low once = elim (cases_eq y x) [
  | inl e ↦ let put = times-put_last x y l (map (without x) lists) (let long = length-map lists (without x) in
      omega arith) in
      let none = ap (times y) (without-concat x lists) ∙ ap (λ z. times z (without x (concat lists))) e
      ∙ times-without x (concat lists) in
      let here = same_once y x e in let one = ap (λ z. times z (concat lists)) e ∙ once in omega arith
  | inr e ↦ let put = times-put_last x y l (map (without x) lists) (let long = length-map lists (without x) in
      omega arith) in
      let same = ap (times y) (without-concat x lists) ∙ times-without_other x y (concat lists) e in
      let never = other_never y x e in omega arith
]

pub count-moved : (x l : ℕ) (lists : List (List ℕ)) → l < length lists → times x (concat lists) ≡ 1 →
    node_count (moved x l lists) ≡ node_count lists
count-moved x l lists low once =
    let put = count-put_last x l (map (without x) lists) (let long = length-map lists (without x) in omega arith) in
    let left = ap length (without-concat x lists) in let fewer = length-without x (concat lists) in omega arith

pub times-spliced : (from to y : ℕ) (lists : List (List ℕ)) → (from ≡ to → ⊥) → from < length lists →
    to < length lists → times y (concat (spliced from to lists)) ≡ times y (concat lists)
times-spliced from to y lists other low_from low_to =
    let both = list_at lists to ++ list_at lists from in let first = slice_set lists to both in
    let long : length first ≡ length lists = length-set lists to both in
    let one = times-set y to both lists low_to in let two = times-set y from [] first (omega arith) in
    let row = times-append y (list_at lists to) (list_at lists from) in
    let kept = ap (times y) (get_or-set_other lists to from both [] other) in omega arith

pub count-spliced : (from to : ℕ) (lists : List (List ℕ)) → (from ≡ to → ⊥) → from < length lists →
    to < length lists → node_count (spliced from to lists) ≡ node_count lists
count-spliced from to lists other low_from low_to =
    let both = list_at lists to ++ list_at lists from in let first = slice_set lists to both in
    let long : length first ≡ length lists = length-set lists to both in
    let one = count-set to both lists low_to in let two = count-set from [] first (omega arith) in
    let row = length-append (list_at lists to) (list_at lists from) in
    let kept = ap length (get_or-set_other lists to from both [] other) in omega arith

-- ---- each node once

same-each : (lists more : List (List ℕ)) → HasEachOnce lists → node_count more ≡ node_count lists →
    ((y : ℕ) → times y (concat more) ≡ times y (concat lists)) → HasEachOnce more
same-each lists more each count same = record {
  once = λ x low. same x ∙ each.once x (omega arith);
  others = λ x high. same x ∙ each.others x (omega arith);
}

pub each-moved : (x l : ℕ) (lists : List (List ℕ)) → HasEachOnce lists → x < node_count lists → l < length lists →
    HasEachOnce (moved x l lists)
each-moved x l lists each there low = same-each lists (moved x l lists) each
    (count-moved x l lists low (each.once x there)) (λ y. times-moved x y l lists low (each.once x there))

pub each-spliced : (from to : ℕ) (lists : List (List ℕ)) → HasEachOnce lists → (from ≡ to → ⊥) →
    from < length lists → to < length lists → HasEachOnce (spliced from to lists)
each-spliced from to lists each other low_from low_to = same-each lists (spliced from to lists) each
    (count-spliced from to lists other low_from low_to) (λ y. times-spliced from to y lists other low_from low_to)

pub at_most_once : (lists : List (List ℕ)) (x : ℕ) → HasEachOnce lists → times x (concat lists) ≤ 1
at_most_once lists x each = elim (cases_lt x (node_count lists)) [
  | inl low ↦ let one = each.once x low in omega arith
  | inr high ↦ let none = each.others x high in omega arith
]

pub is_below : (lists : List (List ℕ)) (x l : ℕ) → HasEachOnce lists → IsInList lists x l → x < node_count lists
is_below lists x l each there = elim (cases_lt x (node_count lists)) [
  | inl low ↦ low
  | inr high ↦ let none = each.others x high in let some = times-in_lists x l lists in absurd (omega arith)
]

-- ---- in which lists a node stands

pub in-one : (lists : List (List ℕ)) (x l m : ℕ) → HasEachOnce lists → IsInList lists x l → IsInList lists x m → l ≡ m
in-one lists x l m each in_l in_m = one_list x l m lists (at_most_once lists x each) in_l in_m

pub in-some : (lists : List (List ℕ)) (x : ℕ) → HasEachOnce lists → x < node_count lists →
    (l : ℕ) × (l < length lists) × IsInList lists x l
in-some lists x each low = some_list x lists (let one = each.once x low in omega arith)

pub in-moved : (x t : ℕ) (lists : List (List ℕ)) → t < length lists → IsInList (moved x t lists) x t
in-moved x t lists low = let row = ap (times x) (moved-here x t lists low) in
    let both = times-append x (without x (list_at lists t)) (x ∷ []) in let one = same_once x x refl in omega arith

pub in-moved_other : (x t : ℕ) (lists : List (List ℕ)) (y l : ℕ) → t < length lists → (y ≡ x → ⊥) →
    IsInList lists y l → IsInList (moved x t lists) y l
in-moved_other x t lists y l low other there = let same = times-without_other x y (list_at lists l) other in
    elim (cases_eq l t) [
      | inl e ↦ subst (λ m. IsInList (moved x t lists) y m) (sym e)
          (let row = ap (times y) (moved-here x t lists low) in
          let both = times-append y (without x (list_at lists t)) (x ∷ []) in
          let at = ap (λ m. times y (without x (list_at lists m))) e in omega arith)
      | inr e ↦ let row = ap (times y) (moved-other x t l lists e) in omega arith
    ]

pub from-moved : (x t : ℕ) (lists : List (List ℕ)) (y l : ℕ) → t < length lists → IsInList (moved x t lists) y l →
    ((y ≡ x) × (l ≡ t)) ⊎ ((y ≡ x → ⊥) × IsInList lists y l)
from-moved x t lists y l low there = elim (cases_eq y x) [
  | inl e ↦ elim (cases_eq l t) [
    | inl s ↦ inl (e, s)
    | inr s ↦ let row = ap (times y) (moved-other x t l lists s) in
        let none = ap (λ z. times z (without x (list_at lists l))) e ∙ times-without x (list_at lists l) in
        absurd (omega arith)
  ]
  | inr e ↦ inr (
    e,
    let same = times-without_other x y (list_at lists l) e in elim (cases_eq l t) [
      | inl s ↦ let row = ap (λ m. times y (list_at (moved x t lists) m)) s ∙ ap (times y) (moved-here x t lists low) in
          let both = times-append y (without x (list_at lists t)) (x ∷ []) in let never = other_never y x e in
          let at = ap (λ m. times y (without x (list_at lists m))) s in omega arith
      | inr s ↦ let row = ap (times y) (moved-other x t l lists s) in omega arith
    ],
  )
]

pub in-spliced : (from to : ℕ) (lists : List (List ℕ)) (y : ℕ) → (from ≡ to → ⊥) → to < length lists →
    IsInList lists y from → IsInList (spliced from to lists) y to
in-spliced from to lists y other low there = let row = ap (times y) (spliced-to from to lists other low) in
    let both = times-append y (list_at lists to) (list_at lists from) in omega arith

pub in-spliced_other : (from to : ℕ) (lists : List (List ℕ)) (y l : ℕ) → (from ≡ to → ⊥) → to < length lists →
    (l ≡ from → ⊥) → IsInList lists y l → IsInList (spliced from to lists) y l
in-spliced_other from to lists y l other low not_from there = elim (cases_eq l to) [
  | inl e ↦ let row = ap (λ m. times y (list_at (spliced from to lists) m)) e
      ∙ ap (times y) (spliced-to from to lists other low) in
      let both = times-append y (list_at lists to) (list_at lists from) in
      let at = ap (λ m. times y (list_at lists m)) e in omega arith
  | inr e ↦ let row = ap (times y) (spliced-other from to l lists not_from e) in omega arith
]

pub from-spliced : (from to : ℕ) (lists : List (List ℕ)) (y l : ℕ) → (from ≡ to → ⊥) → from < length lists →
    to < length lists → IsInList (spliced from to lists) y l →
    (l ≡ from → ⊥) × (IsInList lists y l ⊎ ((l ≡ to) × IsInList lists y from))
from-spliced from to lists y l other low_from low_to there = (
  λ e. let row = ap (λ m. times y (list_at (spliced from to lists) m)) e
      ∙ ap (times y) (spliced-from from to lists low_from) in let none : times y [] ≡ 0 = refl in omega arith,
  elim (cases_eq l to) [
    | inl e ↦ elim (cases_eq (times y (list_at lists from)) 0) [
      | inl none ↦ let row = ap (λ m. times y (list_at (spliced from to lists) m)) e
          ∙ ap (times y) (spliced-to from to lists other low_to) in
          let both = times-append y (list_at lists to) (list_at lists from) in
          let at = ap (λ m. times y (list_at lists m)) e in inl (omega arith)
      | inr some ↦ inr (e, omega arith)
    ]
    | inr e ↦ let not_from : l ≡ from → ⊥ = λ s. (let row = ap (λ m. times y (list_at (spliced from to lists) m)) s
        ∙ ap (times y) (spliced-from from to lists low_from) in let none : times y [] ≡ 0 = refl in omega arith) in
        let row = ap (times y) (spliced-other from to l lists not_from e) in inl (omega arith)
  ],
)
