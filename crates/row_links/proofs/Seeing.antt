-- Rings: that they are the lists, and what each move does to these.
use Rattle.std.proofs.Common.{◌≡◌, ℕ, zero, suc, ◌+◌, ◌-◌, ◌≤◌, ◌<◌, ◌⊎◌, inl, inr, List, [], ◌∷◌, ◌++◌, length, map}
use Rattle.std.proofs.Common.{slice_index, slice_set, None, Some, slice_get, refl, sym, ap, subst, ◌∙◌, arith}
use Rattle.std.specs.List.{concat}
use Rattle.std.proofs.lemmas.Bool.{cases_eq}
use Rattle.std.proofs.lemmas.List.{length-append, length-map, append-nil}
use Rattle.std.proofs.lemmas.List.FromFn.{get_or-map-range_with_len, length-map-range_with_len}
use Rattle.row_links.specs.Lists.{list_at, without, moved, spliced, front, times, node_count, HasEachOnce, IsInList}
use Rattle.row_links.specs.Rings.{ring, rings, AreRings, AreLinked}
use Rattle.row_links.proofs.Counting.{same_once, times-without, without-concat}
use Rattle.row_links.proofs.Lists.{spliced-from, spliced-to, spliced-other, length-spliced, count-moved, count-spliced}
use Rattle.row_links.proofs.Lists.{each-moved, each-spliced, in-some}
use Rattle.row_links.proofs.Joining.{first_or, walked, ends}
use Rattle.row_links.proofs.Ringing.{in_row, own_apart, taken_out, put_in, appended}

-- ---- the rings are the lists

length-in_lists : (l : ℕ) (lists : List (List ℕ)) → length (list_at lists l) ≤ node_count lists
length-in_lists l [] = omega arith
length-in_lists zero (xs ∷ lists) = let both = length-append xs (concat lists) in omega arith
length-in_lists (suc l) (xs ∷ lists) = let both = length-append xs (concat lists) in
    let rest = length-in_lists l lists in omega arith

pub same_lists : (a b : List (List ℕ)) → length a ≡ length b → ((l : ℕ) → l < length a →
    list_at a l ≡ list_at b l) → a ≡ b
same_lists [] [] long same = refl
same_lists [] (y ∷ b) long same = absurd (let h : 0 ≡ suc (length b) = long in omega arith)
same_lists (x ∷ a) [] long same = absurd (let h : suc (length a) ≡ 0 = long in omega arith)
same_lists (x ∷ a) (y ∷ b) long same = let more : suc (length a) ≡ suc (length b) = long in
    ap (λ z. z ∷ a) (same 0 (let h : length (x ∷ a) ≡ suc (length a) = refl in omega arith))
    ∙ ap (λ c. y ∷ c) (same_lists a b (omega arith)
    (λ l low. same (suc l) (let h : length (x ∷ a) ≡ suc (length a) = refl in omega arith)))

pub rings_are : (n : ℕ) (next before : List ℕ) (lists : List (List ℕ)) → AreRings n next before lists →
    node_count lists ≤ n → rings n next ≡ lists
rings_are n next before lists r few = let all = r.next_length in
    let long : length (rings n next) ≡ length next - n = length-map-range_with_len (ring n next) 0 (length next - n) in
    same_lists (rings n next) lists (omega arith)
    (λ l low. get_or-map-range_with_len (ring n next) 0 (length next - n) l l [] (omega arith) (omega arith)
    ∙ walked next before (n + l) (n + l) (list_at lists l) n (r.joined l (omega arith))
    (own_apart n next before lists l l r) (let some = length-in_lists l lists in omega arith))

pub record IsSeenAs (n : ℕ) (next before : List ℕ) (lists : List (List ℕ)) : Type 0 where
  pub linked : AreLinked n next before
  pub seen : rings n next ≡ lists

pub seen_as : (n : ℕ) (next before : List ℕ) (lists : List (List ℕ)) → AreRings n next before lists →
    HasEachOnce lists → node_count lists ≡ n → IsSeenAs n next before lists
seen_as n next before lists r each count = let is = rings_are n next before lists r (omega arith) in record {
  linked = record {
    are_rings = subst (AreRings n next before) (sym is) r;
    each = subst HasEachOnce (sym is) each;
    count = ap node_count is ∙ count;
  };
  seen = is;
}

-- ---- the moves

pub node_moved : (n : ℕ) (next before : List ℕ) (x l p q last : ℕ) → AreLinked n next before → x < n →
    l < length (rings n next) → p ≡ slice_index before x → q ≡ slice_index next x →
    last ≡ slice_index (slice_set before q p) (n + l) →
    IsSeenAs n (slice_set (slice_set (slice_set next p q) last x) x (n + l))
    (slice_set (slice_set (slice_set before q p) x last) (n + l) x) (moved x l (rings n next))
node_moved n next before x l p q last k low_x low p_is q_is last_is =
    seen_as n (slice_set (slice_set (slice_set next p q) last x) x (n + l))
    (slice_set (slice_set (slice_set before q p) x last) (n + l) x) (moved x l (rings n next))
    (subst (λ last. AreRings n (slice_set (slice_set (slice_set next p q) last x) x (n + l))
    (slice_set (slice_set (slice_set before q p) x last) (n + l) x) (moved x l (rings n next))) (sym last_is)
    (put_in n (slice_set next p q) (slice_set before q p) (map (without x) (rings n next)) x l out
    (let long = length-map (rings n next) (without x) in omega arith) low_x
    (ap (times x) (without-concat x (rings n next)) ∙ times-without x (concat (rings n next)))))
    (each-moved x l (rings n next) k.each there low)
    (count-moved x l (rings n next) low (k.each.once x there) ∙ k.count)
  where
    there : x < node_count (rings n next)
    there = let count = k.count in omega arith

    home : (m : ℕ) × (m < length (rings n next)) × IsInList (rings n next) x m
    home = in-some (rings n next) x k.each there

    out : AreRings n (slice_set next p q) (slice_set before q p) (map (without x) (rings n next))
    out = subst (λ p. AreRings n (slice_set next p q) (slice_set before q p) (map (without x) (rings n next)))
        (sym p_is)
        (subst (λ q. AreRings n (slice_set next (slice_index before x) q) (slice_set before q (slice_index before x))
        (map (without x) (rings n next))) (sym q_is)
        (taken_out n next before (rings n next) x home.0 k.are_rings home.1 home.2))

pub row_appended : (n : ℕ) (next before : List ℕ) (from to end first last : ℕ) → AreLinked n next before →
    (from ≡ to → ⊥) → from < length (rings n next) → to < length (rings n next) → end ≡ slice_index before (n + to) →
    first ≡ slice_index next (n + from) → last ≡ slice_index before (n + from) → (first ≡ n + from → ⊥) →
    IsSeenAs n (slice_set (slice_set (slice_set next end first) last (n + to)) (n + from) (n + from))
    (slice_set (slice_set (slice_set before first end) (n + to) last) (n + from) (n + from))
    (spliced from to (rings n next))
row_appended n next before from to end first last k other low_from low_to end_is first_is last_is some =
    seen_as n (slice_set (slice_set (slice_set next end first) last (n + to)) (n + from) (n + from))
    (slice_set (slice_set (slice_set before first end) (n + to) last) (n + from) (n + from))
    (spliced from to (rings n next))
    (appended n next before (rings n next) from to end first last k.are_rings other low_from low_to end_is first_is
    last_is some) (each-spliced from to (rings n next) k.each other low_from low_to)
    (count-spliced from to (rings n next) other low_from low_to ∙ k.count)

-- ---- the first of a row

pub first_is_front : (n : ℕ) (next before : List ℕ) (l : ℕ) → AreLinked n next before → l < length (rings n next) →
    slice_index next (n + l) < n → front l (rings n next) ≡ Some (slice_index next (n + l))
first_is_front n next before l k low small =
    first_of (list_at (rings n next) l) ((ends next before (n + l) (n + l) (list_at (rings n next) l)
    (k.are_rings.joined l low)).0)
  where
    first_of : (xs : List ℕ) → slice_index next (n + l) ≡ first_or xs (n + l) →
        slice_get xs 0 ≡ Some (slice_index next (n + l))
    first_of [] e = absurd (omega arith)
    first_of (x ∷ xs) e = ap Some (sym e)

pub no_front : (n : ℕ) (next before : List ℕ) (l : ℕ) → AreLinked n next before → l < length (rings n next) →
    n ≤ slice_index next (n + l) → front l (rings n next) ≡ None
no_front n next before l k low large = elim (cases_nil (list_at (rings n next) l)) [
  | inl e ↦ ap (λ xs. slice_get xs 0) e
  | inr some ↦ absurd (let first = (ends next before (n + l) (n + l) (list_at (rings n next) l)
      (k.are_rings.joined l low)).0 in let in_list : IsInList (rings n next) some.0 l =
      (let all = ap (times some.0) some.2 in let one = same_once some.0 some.0 refl in omega arith) in
      let below = in_row n next before (rings n next) some.0 l k.are_rings in_list in
      let same = first ∙ ap (λ xs. first_or xs (n + l)) some.2 in omega arith)
]
  where
    cases_nil : (xs : List ℕ) → (xs ≡ []) ⊎ ((x : ℕ) × (ys : List ℕ) × (xs ≡ x ∷ ys))
    cases_nil [] = inl refl
    cases_nil (x ∷ ys) = inr (x, ys, refl)

-- an empty row is put behind another
pub nothing_appended : (n : ℕ) (next before : List ℕ) (from to : ℕ) → AreLinked n next before →
    (from ≡ to → ⊥) → from < length (rings n next) → to < length (rings n next) →
    slice_index next (n + from) ≡ n + from → rings n next ≡ spliced from to (rings n next)
nothing_appended n next before from to k other low_from low_to same =
    same_lists (rings n next) (spliced from to (rings n next)) (sym (length-spliced from to (rings n next)))
    (λ l low. elim (cases_eq l from) [
      | inl e ↦ ap (list_at (rings n next)) e ∙ empty ∙ sym (ap (list_at (spliced from to (rings n next))) e
          ∙ spliced-from from to (rings n next) low_from)
      | inr not_from ↦ elim (cases_eq l to) [
        | inl e ↦ ap (list_at (rings n next)) e ∙ sym (ap (list_at (spliced from to (rings n next))) e
            ∙ spliced-to from to (rings n next) other low_to ∙ ap (λ xs. list_at (rings n next) to ++ xs) empty
            ∙ append-nil (list_at (rings n next) to))
        | inr not_to ↦ sym (spliced-other from to l (rings n next) not_from not_to)
      ]
    ])
  where
    empty : list_at (rings n next) from ≡ []
    empty = is_nil (list_at (rings n next) from) (no_front n next before from k low_from (omega arith))
      where
        is_nil : (xs : List ℕ) → slice_get xs 0 ≡ None → xs ≡ []
        is_nil [] e = refl
        is_nil (x ∷ xs) e = cc
