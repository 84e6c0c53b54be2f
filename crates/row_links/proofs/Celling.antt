-- Cells: that a free one is left, and what each move keeps.
use Rattle.std.proofs.Common.{◌≡◌, ℕ, ◌+◌, ◌<◌, inl, inr, List, [], ◌∷◌, length, slice_index, slice_get, None, Some}
use Rattle.std.proofs.Common.{sym, ap, subst, ◌∙◌, arith}
use Rattle.std.proofs.lemmas.Bool.{cases_eq}
use Rattle.row_links.specs.Lists.{list_at, front, times, node_count, IsInList}
use Rattle.row_links.specs.Cells.{AreCells, IsUnnamed}
use Rattle.row_links.proofs.Counting.{same_once, in_length}
use Rattle.row_links.proofs.Lists.{is_below, in-one, in-some}
use Rattle.row_links.proofs.Columns.{there, one_twice}

pub front_in : (l x : ℕ) (lists : List (List ℕ)) → front l lists ≡ Some x → IsInList lists x l
front_in l x lists e = in_first (list_at lists l) e
  where
    in_first : (xs : List ℕ) → slice_get xs 0 ≡ Some x → 0 < times x xs
    in_first [] e = cc
    in_first (y ∷ ys) e = let same : x ≡ y = cc in let one = same_once x y same in omega arith

pub no_front_in : (l x : ℕ) (lists : List (List ℕ)) → front l lists ≡ None → IsInList lists x l → ⊥
no_front_in l x lists e there = not_in (list_at lists l) e there
  where
    not_in : (xs : List ℕ) → slice_get xs 0 ≡ None → 0 < times x xs → ⊥
    not_in [] e there = let h : 0 < 0 = there in omega arith
    not_in (y ∷ ys) e there = cc

module _ (lists cells : List (List ℕ)) (cell_of list_of uses open_cells : List ℕ)
    (k : AreCells lists cells cell_of list_of uses open_cells) where
  pub open_low : (l : ℕ) → l < length lists → slice_index open_cells l < node_count cells
  open_low l low = is_below cells (slice_index open_cells l) l k.each_cell (k.opened l low)

  pub cell_low : (x : ℕ) → x < node_count lists → slice_index cell_of x < node_count cells
  cell_low x low = let home = in-some lists x k.each low in
      is_below cells (slice_index cell_of x) home.0 k.each_cell (k.named x home.0 home.2)

  pub list_is : (x : ℕ) → x < node_count lists → IsInList lists x (slice_index list_of (slice_index cell_of x))
  list_is x low = let home = in-some lists x k.each low in
      subst (λ l. IsInList lists x l) (sym (k.told (slice_index cell_of x) home.0 (k.named x home.0 home.2))) home.2

  pub list_low : (x : ℕ) → x < node_count lists → slice_index list_of (slice_index cell_of x) < length lists
  list_low x low = in_length x (slice_index list_of (slice_index cell_of x)) lists (list_is x low)

  pub used_some : (x : ℕ) → x < node_count lists → 0 < slice_index uses (slice_index cell_of x)
  used_some x low = let low_cell = cell_low x low in let long = k.uses_length in
      let here = there x cell_of (let all = k.cell_of_length in omega arith) in
      let count = k.counted (slice_index cell_of x) (omega arith) in omega arith

  -- where a node names the open cell of a list, a cell is free
  pub free_left : (from : ℕ) → from < length lists → 0 < slice_index uses (slice_index open_cells from) →
      front (length lists) cells ≡ None → ⊥
  free_left from low named none =
      let all_cells = one_twice (node_count cells) (slice_index open_cells from) cell_of open_cells each_in
      (let count = k.counted (slice_index open_cells from) (let below = open_low from low in let long = k.uses_length in
      omega arith) in omega arith) (there from open_cells (let long = k.open_length in omega arith)) in
      let cell_of_long = k.cell_of_length in let open_long = k.open_length in let count = k.cell_count in omega arith
    where
      each_in : (c : ℕ) → c < node_count cells → 0 < times c cell_of + times c open_cells
      each_in c low_c = let home = in-some cells c k.each_cell low_c in elim (cases_eq home.0 (length lists)) [
        | inl e ↦ absurd (no_front_in (length lists) c cells none (subst (λ l. IsInList cells c l) e home.2))
        | inr e ↦ let rows = k.rows in let low_home = home.1 in
            elim (k.used c home.0 (omega arith) home.2) [
              | inl is_open ↦ let here = there home.0 open_cells (let long = k.open_length in omega arith) in
                  let same = ap (λ z. times z open_cells) is_open in omega arith
              | inr some ↦ let count = k.counted c (let long = k.uses_length in omega arith) in omega arith
            ]
      ]

  -- ---- all of a list behind another

  pub not_fresh : (from fresh l : ℕ) → from < length lists → IsUnnamed cells uses (slice_index open_cells from)
      (length lists) fresh →
      l < length lists → (l ≡ from → ⊥) → slice_index open_cells l ≡ fresh → ⊥
  not_fresh from fresh l low_from (inl is_open) low other e = other (in-one cells fresh l from k.each_cell
      (subst (λ c. IsInList cells c l) e (k.opened l low))
      (subst (λ c. IsInList cells c from) (sym is_open.1) (k.opened from low_from)))
  not_fresh from fresh l low_from (inr is_free) low other e = let same = in-one cells fresh l (length lists) k.each_cell
      (subst (λ c. IsInList cells c l) e (k.opened l low)) (front_in (length lists) fresh cells is_free.1) in
      omega arith

  pub not_named : (from fresh x l : ℕ) → from < length lists →
      IsUnnamed cells uses (slice_index open_cells from) (length lists) fresh → IsInList lists x l →
      slice_index cell_of x ≡ fresh → ⊥
  not_named from fresh x l low_from (inl is_open) in_l e =
      let low_x = is_below lists x l k.each in_l in let some = used_some x low_x in
      let same = ap (slice_index uses) (e ∙ is_open.1) in let none = is_open.0 in omega arith
  not_named from fresh x l low_from (inr is_free) in_l e = let same = in-one cells fresh l (length lists) k.each_cell
      (subst (λ c. IsInList cells c l) e (k.named x l in_l)) (front_in (length lists) fresh cells is_free.1) in
      let low_l = in_length x l lists in_l in omega arith

  pub fresh_low : (from fresh : ℕ) → from < length lists →
      IsUnnamed cells uses (slice_index open_cells from) (length lists) fresh → fresh < node_count cells
  fresh_low from fresh low (inl is_open) = let below = open_low from low in let same = is_open.1 in omega arith
  fresh_low from fresh low (inr is_free) =
      is_below cells fresh (length lists) k.each_cell (front_in (length lists) fresh cells is_free.1)
