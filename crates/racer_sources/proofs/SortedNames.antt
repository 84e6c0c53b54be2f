-- Names in order, each once, are the keys of the map that has just them.
use Rattle.std.proofs.Common.{◌≡◌, ℕ, ◌+◌, ◌<◌, Bool, true, false, ◌&&◌, List, [], ◌∷◌, map, filter, cond, length}
use Rattle.std.proofs.Common.{get_or, refl, sym, ap, subst, ◌∙◌, arith, String, Global, Option, Some, None}
use Rattle.std.proofs.Common.{string_bytes, T}
use Rattle.std.specs.List.{IsDistinct, list_any, AllByRecursion}
use Rattle.std.specs.Option.{is_some, IfSome}
use Rattle.std.specs.List.Sorted.{IsSorted, IsPermutation, IsStrictlySortedBy}
use Rattle.std.specs.Cmp.Lexicographic.{slice_cmp, nat_list_cmp_total}
use Rattle.std.specs.Ordering.{nat_cmp, is_lt, is_eq, ordering_reverse}
use Rattle.std.specs.declared.cmp.Ordering.{Ordering}
use Rattle.std.specs.declared.cmp.Ordering.TheVariants.{Less, Equal, Greater}
use Rattle.std.specs.FinMap.{keys, entries, entries_sorted, contains_key-keys, nat_cmp-IsAntisymmetric}
use Rattle.std.specs.FinMap.{slice_cmp-IsAntisymmetric}
use Rattle.std.specs.FinMap.Entries.{is_sorted, below_all, is_some-find, same_entries}
use Rattle.std.specs.String.{string_cmp}
use Rattle.std.proofs.lemmas.List.{get_or-map, length-map}
use Rattle.std.proofs.lemmas.List.Sorted.{IsPermutation-map, list_any-IsPermutation}
use Rattle.std.proofs.lemmas.Map.Keys.{IsDistinct-IsPermutation, apart_from_distinct, sorted_from_all_adjacent}
use Rattle.std.proofs.lemmas.Map.Keys.{sorted_head, sorted_tail}
use Rattle.std.proofs.lemmas.Float.{T_from_true}
use Rattle.std.proofs.lemmas.Cmp.{eq_by_cmp_equiv}
use Rattle.racer_base.specs.Outside.{Told, Files, AreNames, same_name}
use Rattle.racer_sources.specs.Sources.{is_java, source_names}

-- keys with nothing at each
abbrev pub marked : List (List ℕ) → List (List ℕ × Unit {0})
marked [] = []
marked (k ∷ ks) = (k, tt) ∷ marked ks

abbrev pub order : List ℕ → List ℕ → Ordering
order = slice_cmp nat_cmp

map-marked : (ks : List (List ℕ)) → map (λ (e : List ℕ × Unit {0}). e.0) (marked ks) ≡ ks
map-marked [] = refl
map-marked (k ∷ ks) = ap (λ rest. k ∷ rest) (map-marked ks)

below_marked : (k : List ℕ) (ks : List (List ℕ)) → AllByRecursion (λ y. order k y ≡ Less) ks →
    below_all order k (marked ks) ≡ true
below_marked k [] h = refl
below_marked k (x ∷ ks) h = ap (λ r. is_lt r && below_all order k (marked ks)) h.0 ∙ below_marked k ks h.1

is_sorted-marked : (ks : List (List ℕ)) → IsStrictlySortedBy order ks → is_sorted order (marked ks) ≡ true
is_sorted-marked [] h = refl
is_sorted-marked (k ∷ ks) h = ap (λ b. b && is_sorted order (marked ks))
    (below_marked k ks (sorted_head order k ks h)) ∙ is_sorted-marked ks (sorted_tail order k ks h)

below_keys : (k : List ℕ) (es : List (List ℕ × List ℕ)) →
    below_all order k (marked (map (λ e. e.0) es)) ≡ below_all order k es
below_keys k [] = refl
below_keys k (e ∷ es) = ap (λ b. is_lt (order k e.0) && b) (below_keys k es)

pub is_sorted-keys : (es : List (List ℕ × List ℕ)) → is_sorted order (marked (map (λ e. e.0) es)) ≡ is_sorted order es
is_sorted-keys [] = refl
is_sorted-keys (e ∷ es) = ap (λ b. b && is_sorted order (marked (map (λ e. e.0) es))) (below_keys e.0 es)
    ∙ ap (λ b. below_all order e.0 es && b) (is_sorted-keys es)

same_marks : (x y : Option (Unit {0})) → is_some x ≡ is_some y → x ≡ y
same_marks None None e = refl
same_marks (Some u) (Some v) e = refl
same_marks None (Some v) e = cc
same_marks (Some u) None e = cc

-- two lists of keys that rise and have the same members are one
pub same_rising : (ks ls : List (List ℕ)) → T (is_sorted order (marked ks)) → T (is_sorted order (marked ls)) →
    ((q : List ℕ) → list_any (same_name q) ks ≡ list_any (same_name q) ls) → ks ≡ ls
same_rising ks ls hk hl same =
    sym (map-marked ks)
    ∙ ap (map (λ (e : List ℕ × Unit {0}). e.0))
    (same_entries order nat_list_cmp_total (slice_cmp-IsAntisymmetric nat_cmp-IsAntisymmetric) (marked ks)
    (marked ls) hk hl
    (λ q. same_marks _ _ (is_some-find order q (marked ks) ∙ ap (list_any (same_name q)) (map-marked ks) ∙ same q
    ∙ sym (is_some-find order q (marked ls) ∙ ap (list_any (same_name q)) (map-marked ls)))))
    ∙ map-marked ls

-- neither after nor the same is before
is_before : (a b : List ℕ) → is_lt (order b a) ≡ false → same_name a b ≡ false → order a b ≡ Less
is_before a b h g =
    elim (order a b) as (λ r. ordering_reverse r ≡ order b a → is_eq r ≡ false → r ≡ Less) [
      | Less ↦ λ _ _. refl
      | Equal ↦ λ _ e. cc
      | Greater ↦ λ e _. let later : is_lt Less ≡ is_lt (order b a) = ap is_lt e in cc
    ] (sym (nat_list_cmp_total.antisymm b a)) g

rising : (sorted : List (String Global)) → IsSorted string_cmp sorted →
    IsDistinct same_name (map string_bytes sorted) → IsStrictlySortedBy order (map string_bytes sorted)
rising [] rises distinct = sorted_from_all_adjacent nat_list_cmp_total [] [] (λ k h. absurd (omega arith))
rising (s ∷ ss) rises distinct =
    sorted_from_all_adjacent nat_list_cmp_total (map string_bytes (s ∷ ss)) [] (λ k h.
    let inside : k + 1 < length (s ∷ ss) = omega (arith, length-map (s ∷ ss) string_bytes) in
    let here : k < length (s ∷ ss) = omega arith in
    let first = get_or-map string_bytes (s ∷ ss) k s [] here in
    let next = get_or-map string_bytes (s ∷ ss) (k + 1) s [] inside in
    is_before (get_or (map string_bytes (s ∷ ss)) k []) (get_or (map string_bytes (s ∷ ss)) (k + 1) [])
    (ap (λ b. is_lt (order b (get_or (map string_bytes (s ∷ ss)) k []))) next
    ∙ ap (λ a. is_lt (order (string_bytes (get_or (s ∷ ss) (k + 1) s)) a)) first ∙ rises k s (omega arith) inside)
    (apart_from_distinct same_name (map string_bytes (s ∷ ss)) k (k + 1) [] distinct (omega arith) h))

pub sorted_names : (files : Files) (given sorted : List (String Global)) → AreNames files (map string_bytes given) →
    IsPermutation given sorted → IsSorted string_cmp sorted → map string_bytes sorted ≡ keys files
sorted_names files given sorted are moved rises =
    let moved_names = IsPermutation-map string_bytes given sorted moved in
    let distinct = IsDistinct-IsPermutation same_name (eq_by_cmp_equiv nat_list_cmp_total).symm
    (map string_bytes given) (map string_bytes sorted) moved_names are.each_once in
    same_rising (map string_bytes sorted) (keys files)
    (T_from_true _ (is_sorted-marked (map string_bytes sorted) (rising sorted rises distinct)))
    (subst T (sym (is_sorted-keys (entries files))) (entries_sorted files))
    (λ q. sym (list_any-IsPermutation (same_name q) (map string_bytes given) (map string_bytes sorted) moved_names)
    ∙ sym (are.members q) ∙ contains_key-keys files q)

map-filter : (p : List ℕ → Bool) (xs : List (String Global)) →
    map string_bytes (filter (λ x. p (string_bytes x)) xs) ≡ filter p (map string_bytes xs)
map-filter p [] = refl
map-filter p (x ∷ xs) =
    elim (p (string_bytes x)) as (λ b. map string_bytes
    (cond b (x ∷ filter (λ x. p (string_bytes x)) xs) (filter (λ x. p (string_bytes x)) xs)) ≡ cond b
    (string_bytes x ∷ filter p (map string_bytes xs)) (filter p (map string_bytes xs))) [
      | true ↦ ap (λ rest. string_bytes x ∷ rest) (map-filter p xs)
      | false ↦ map-filter p xs
    ]

-- the sources among the names of a folder, if it tells its files
pub sorted_sources : (now later : Option Told) (given sorted kept : List (String Global)) → later ≡ now →
    IfSome later (λ told. AreNames told.files (map string_bytes given)) → IsPermutation given sorted →
    IsSorted string_cmp sorted → kept ≡ filter (λ name. is_java (string_bytes name)) sorted
    → IfSome now (λ told. map string_bytes kept ≡ source_names told.files)
sorted_sources now later given sorted kept same are moved rises is =
    let P : Option Told → Type 0 = λ o. IfSome o (λ told. map string_bytes kept ≡ source_names told.files) in
    subst P same (step later are)
  where
    step : (o : Option Told) → IfSome o (λ told. AreNames told.files (map string_bytes given)) →
        IfSome o (λ told. map string_bytes kept ≡ source_names told.files)
    step None h = tt
    step (Some told) h = ap (map string_bytes) is ∙ map-filter is_java sorted
        ∙ ap (filter is_java) (sorted_names told.files given sorted h moved rises)
