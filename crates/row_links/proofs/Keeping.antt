-- What the calls of lists with cells read, and what they keep.
use Rattle.std.proofs.Common.{◌≡◌, ℕ, ◌+◌, ◌-◌, ◌^◌, ◌≤◌, ◌<◌, inl, inr, List, length, slice_index, slice_index_or}
use Rattle.std.proofs.Common.{slice_set, None, Some, refl, sym, ap, subst, ◌∙◌, arith}
use Rattle.std.proofs.lemmas.List.{length-set}
use Rattle.row_links.specs.Lists.{moved, spliced, front, node_count, IsInList}
use Rattle.row_links.specs.Cells.{AreTold, AreCells, IsKept, IsUnnamed}
use Rattle.row_links.proofs.Lists.{length-moved, length-spliced, count-moved, count-spliced, is_below}
use Rattle.row_links.proofs.Linking.{index_is}
use Rattle.row_links.proofs.Columns.{set_here, set_other, times-most}
use Rattle.row_links.proofs.Celling.{front_in, open_low, cell_low, list_is, list_low, used_some, free_left, fresh_low}
use Rattle.row_links.proofs.Moving.{AreAlmost, moved_cells, whole_cells, freed_cells}
use Rattle.row_links.proofs.Splicing.{spliced_cells}
use Rattle.std.proofs.lemmas.Bool.{cases_eq}

module _ (lists cells : List (List ℕ)) (free : ℕ) (cell_of list_of uses open_cells : List ℕ)
    (k : IsKept lists cells free cell_of list_of uses open_cells) where
  h : AreCells lists cells cell_of list_of uses open_cells
  h = k.have_cells

  cell_is : (x c : ℕ) → x < node_count lists → c ≡ slice_index_or cell_of x c → c ≡ slice_index cell_of x
  cell_is x c low e = index_is cell_of x c (let long = k.have_cells.cell_of_length in omega arith) e

  open_is : (l c : ℕ) → l < length lists → c ≡ slice_index_or open_cells l c → c ≡ slice_index open_cells l
  open_is l c low e = index_is open_cells l c (let long = k.have_cells.open_length in omega arith) e

  pub in_cells : (x c : ℕ) → x < node_count lists → c ≡ slice_index_or cell_of x c → c < node_count cells
  in_cells x c low e = let is = cell_is x c low e in
      let below = cell_low lists cells cell_of list_of uses open_cells h x low in omega arith

  pub in_list_of : (x c : ℕ) → x < node_count lists → c ≡ slice_index_or cell_of x c → c < length list_of
  in_list_of x c low e = let below = in_cells x c low e in let long = k.have_cells.list_of_length in omega arith

  pub in_uses : (x c : ℕ) → x < node_count lists → c ≡ slice_index_or cell_of x c → c < length uses
  in_uses x c low e = let below = in_cells x c low e in let long = k.have_cells.uses_length in omega arith

  pub open_in_uses : (l c : ℕ) → l < length lists → c ≡ slice_index_or open_cells l c → c < length uses
  open_in_uses l c low e = let is = open_is l c low e in
      let below = open_low lists cells cell_of list_of uses open_cells h l low in
      let long = k.have_cells.uses_length in omega arith

  home_is : (x c l : ℕ) → x < node_count lists → c ≡ slice_index_or cell_of x c → l ≡ slice_index_or list_of c l →
      l ≡ slice_index list_of (slice_index cell_of x)
  home_is x c l low c_is l_is = index_is list_of c l (in_list_of x c low c_is) l_is
      ∙ ap (slice_index list_of) (cell_is x c low c_is)

  pub listed : (x c l : ℕ) → x < node_count lists → c ≡ slice_index_or cell_of x c → l ≡ slice_index_or list_of c l →
      IsInList lists x l
  listed x c l low c_is l_is = subst (λ m. IsInList lists x m) (sym (home_is x c l low c_is l_is))
      (list_is lists cells cell_of list_of uses open_cells h x low)

  pub home_low : (x c l : ℕ) → x < node_count lists → c ≡ slice_index_or cell_of x c → l ≡ slice_index_or list_of c l →
      l < length open_cells
  home_low x c l low c_is l_is = let is = home_is x c l low c_is l_is in
      let below = list_low lists cells cell_of list_of uses open_cells h x low in
      let long = k.have_cells.open_length in omega arith

  pub front_low : (l x : ℕ) → front l lists ≡ Some x → x < node_count lists
  front_low l x e = is_below lists x l k.have_cells.each (front_in l x lists e)

  pub front_fits : (l x : ℕ) → front l lists ≡ Some x → x < 4294967296
  front_fits l x e = let low = front_low l x e in let few : node_count lists < 4294967296 = k.few in omega arith

  -- ---- a node comes to another list

  pub some_use : (x c v : ℕ) → x < node_count lists → c ≡ slice_index_or cell_of x c →
      v ≡ slice_index_or uses c v → 1 ≤ v
  some_use x c v low c_is v_is = let is = index_is uses c v (in_uses x c low c_is) v_is in
      let same = ap (slice_index uses) (cell_is x c low c_is) in
      let some = used_some lists cells cell_of list_of uses open_cells h x low in omega arith

  pub use_fits : (x l old new v w : ℕ) → x < node_count lists → l < length lists → old ≡ slice_index_or cell_of x old →
      new ≡ slice_index_or open_cells l new → v ≡ slice_index_or uses old v →
      w ≡ slice_index_or (slice_set uses old (v - 1)) new w → w + 1 ≤ 4294967296
  use_fits x l old new v w low_x low_l old_is new_is v_is w_is = let few : node_count lists < 4294967296 = k.few in
      let long = length-set uses old (v - 1) in let new_low = open_in_uses l new low_l new_is in
      let shown = index_is (slice_set uses old (v - 1)) new w (omega arith) w_is in
      let count = k.have_cells.counted new new_low in let most = times-most new cell_of in
      let all = k.have_cells.cell_of_length in let old_low = in_uses x old low_x old_is in
      elim (cases_eq new old) [
        | inl e ↦ let here = ap (slice_index (slice_set uses old (v - 1))) e ∙ set_here uses old (v - 1) old_low in
            let value = index_is uses old v old_low v_is in let same = ap (slice_index uses) e in omega arith
        | inr e ↦ let there = set_other uses old new (v - 1) e in omega arith
      ]

  module _ (x l old new v w : ℕ) (lists_1 : List (List ℕ)) (cell_of_1 uses_1 uses_2 : List ℕ)
      (low_x : x < node_count lists) (low_l : l < length lists) (old_is : old ≡ slice_index_or cell_of x old)
      (new_is : new ≡ slice_index_or open_cells l new) (v_is : v ≡ slice_index_or uses old v)
      (w_is : w ≡ slice_index_or (slice_set uses old (v - 1)) new w) (lists_are : lists_1 ≡ moved x l lists) where
    almost : AreAlmost old (moved x l lists) cells (slice_set cell_of x new) list_of
        (slice_set (slice_set uses old (v - 1)) new (w + 1)) open_cells
    almost = moved_cells x l old new lists cells cell_of list_of uses open_cells (slice_set cell_of x new)
        (slice_set uses old (v - 1)) (slice_set (slice_set uses old (v - 1)) new (w + 1)) h low_x low_l
        (cell_is x old low_x old_is) (open_is l new low_l new_is) refl
        (ap (λ n. slice_set uses old (n - 1)) (index_is uses old v (in_uses x old low_x old_is) v_is))
        (ap (λ n. slice_set (slice_set uses old (v - 1)) new (n + 1)) (index_is (slice_set uses old (v - 1)) new w
        (let long = length-set uses old (v - 1) in let low = open_in_uses l new low_l new_is in omega arith) w_is))

    kept : (cells_1 : List (List ℕ)) (list_of_1 : List ℕ) → AreCells (moved x l lists) cells_1 (slice_set cell_of x new)
        list_of_1 (slice_set (slice_set uses old (v - 1)) new (w + 1)) open_cells →
        IsKept lists_1 cells_1 free (slice_set cell_of x new) list_of_1
        (slice_set (slice_set uses old (v - 1)) new (w + 1)) open_cells
    kept cells_1 list_of_1 c = record {
      have_cells = subst (λ ls. AreCells ls cells_1 (slice_set cell_of x new) list_of_1
          (slice_set (slice_set uses old (v - 1)) new (w + 1)) open_cells) (sym lists_are) c;
      free_row = k.free_row ∙ sym (ap length lists_are ∙ length-moved x l lists);
      few = subst (λ n. n < 2 ^ 32) (sym (ap node_count lists_are
          ∙ count-moved x l lists low_l (k.have_cells.each.once x low_x))) k.few;
    }

    old_in_uses_2 : old < length (slice_set (slice_set uses old (v - 1)) new (w + 1))
    old_in_uses_2 = let long = length-set uses old (v - 1) in
        let more = length-set (slice_set uses old (v - 1)) new (w + 1) in
        let low = in_uses x old low_x old_is in omega arith

    pub kept_used : (u : ℕ) → u ≡ slice_index_or (slice_set (slice_set uses old (v - 1)) new (w + 1)) old u →
        (u ≡ 0 → ⊥) → IsKept lists_1 cells free (slice_set cell_of x new) list_of
        (slice_set (slice_set uses old (v - 1)) new (w + 1)) open_cells
    kept_used u u_is some = kept cells list_of
        (whole_cells old (moved x l lists) cells (slice_set cell_of x new) list_of
        (slice_set (slice_set uses old (v - 1)) new (w + 1)) open_cells almost
        (inl (let is = index_is (slice_set (slice_set uses old (v - 1)) new (w + 1)) old u old_in_uses_2 u_is in
        positive u some is)))
      where
        positive : (u : ℕ) {t : ℕ} → (u ≡ 0 → ⊥) → u ≡ t → 0 < t
        positive u some e = omega arith

    home_open : (home open_cell : ℕ) → home ≡ slice_index_or list_of old home →
        open_cell ≡ slice_index_or open_cells home open_cell → slice_index open_cells
        (slice_index list_of old) ≡ open_cell
    home_open home open_cell home_is open_cell_is =
        ap (slice_index open_cells) (sym (index_is list_of old home (in_list_of x old low_x old_is) home_is))
        ∙ sym (index_is open_cells home open_cell (home_low x old home low_x old_is home_is) open_cell_is)

    pub kept_open : (home open_cell : ℕ) → home ≡ slice_index_or list_of old home →
        open_cell ≡ slice_index_or open_cells home open_cell → open_cell ≡ old →
        IsKept lists_1 cells free (slice_set cell_of x new) list_of
        (slice_set (slice_set uses old (v - 1)) new (w + 1)) open_cells
    kept_open home open_cell home_is open_cell_is same = kept cells list_of
        (whole_cells old (moved x l lists) cells (slice_set cell_of x new) list_of
        (slice_set (slice_set uses old (v - 1)) new (w + 1)) open_cells almost
        (inr (home_open home open_cell home_is open_cell_is ∙ same)))

    pub kept_freed : (u home open_cell : ℕ) (cells_1 : List (List ℕ)) (list_of_1 : List ℕ) →
        u ≡ slice_index_or (slice_set (slice_set uses old (v - 1)) new (w + 1)) old u → u ≡ 0 →
        home ≡ slice_index_or list_of old home → open_cell ≡ slice_index_or open_cells home open_cell →
        (open_cell ≡ old → ⊥) → cells_1 ≡ moved old free cells → list_of_1 ≡ slice_set list_of old free →
        IsKept lists_1 cells_1 free (slice_set cell_of x new) list_of_1
        (slice_set (slice_set uses old (v - 1)) new (w + 1)) open_cells
    kept_freed u home open_cell cells_1 list_of_1 u_is none home_is open_cell_is other cells_are list_of_is =
        kept cells_1 list_of_1
        (subst (λ cs. AreCells (moved x l lists) cs (slice_set cell_of x new) list_of_1
        (slice_set (slice_set uses old (v - 1)) new (w + 1)) open_cells) (sym (cells_are
        ∙ ap (λ n. moved old n cells) row))
        (subst (λ column. AreCells (moved x l lists) (moved old (length (moved x l lists)) cells)
        (slice_set cell_of x new)
        column (slice_set (slice_set uses old (v - 1)) new (w + 1)) open_cells) (sym (list_of_is
        ∙ ap (slice_set list_of old) row))
        (freed_cells old (moved x l lists) cells (slice_set cell_of x new) list_of
        (slice_set (slice_set uses old (v - 1)) new (w + 1)) open_cells almost (in_cells x old low_x old_is)
        (sym (index_is (slice_set (slice_set uses old (v - 1)) new (w + 1)) old u old_in_uses_2 u_is) ∙ none)
        (λ e. other (sym (home_open home open_cell home_is open_cell_is) ∙ e)))))
      where
        row : free ≡ length (moved x l lists)
        row = k.free_row ∙ sym (length-moved x l lists)

  -- ---- all of a list come behind another

  pub left : (from c : ℕ) (column : List ℕ) → column ≡ uses → from < length lists →
      c ≡ slice_index_or open_cells from c → 0 < slice_index column c → front free cells ≡ None → ⊥
  left from c column column_is low c_is some none = free_left lists cells cell_of list_of uses open_cells h from low
      (let is = open_is from c low c_is in let same = ap (slice_index uses) is in
      let read = ap (λ u. slice_index u c) column_is in omega arith) (ap (λ n. front n cells) (sym k.free_row) ∙ none)

  unnamed_is : (from c fresh : ℕ) (column : List ℕ) → column ≡ uses → from < length lists →
      c ≡ slice_index_or open_cells from c → IsUnnamed cells column c free fresh →
      IsUnnamed cells uses (slice_index open_cells from) (length lists) fresh
  unnamed_is from c fresh column column_is low c_is u =
      subst (λ n. IsUnnamed cells uses (slice_index open_cells from) n fresh) k.free_row
      (subst (λ d. IsUnnamed cells uses d free fresh) (open_is from c low c_is)
      (subst (λ us. IsUnnamed cells us c free fresh) column_is u))

  pub fresh_is_low : (from to c fresh : ℕ) (cells_1 : List (List ℕ)) (column : List ℕ) → column ≡ uses →
      from < length lists → to < length lists → (from ≡ to → ⊥) → c ≡ slice_index_or open_cells from c →
      IsUnnamed cells column c free fresh → cells_1 ≡ spliced from to cells → fresh < node_count cells_1
  fresh_is_low from to c fresh cells_1 column column_is low_from low_to other c_is u cells_are =
      let below = fresh_low lists cells cell_of list_of uses open_cells h from fresh low_from
      (unnamed_is from c fresh column column_is low_from c_is u) in let rows = k.have_cells.rows in
      let count = ap node_count cells_are ∙ count-spliced from to cells other (omega arith) (omega arith) in omega arith

  pub fresh_in_list_of : (from c fresh : ℕ) (list_of_1 column : List ℕ) → column ≡ uses → from < length lists →
      c ≡ slice_index_or open_cells from c → IsUnnamed cells column c free fresh →
      length list_of_1 ≡ length list_of → fresh < length list_of_1
  fresh_in_list_of from c fresh list_of_1 column column_is low_from c_is u long =
      let below = fresh_low lists cells cell_of list_of uses open_cells h from fresh low_from
      (unnamed_is from c fresh column column_is low_from c_is u) in let all = k.have_cells.list_of_length in omega arith

  pub kept_spliced : (from to c fresh : ℕ) (lists_1 cells_1 cells_2 : List (List ℕ))
      (list_of_1 list_of_2 column : List ℕ) → column ≡ uses → from < length lists → to < length lists →
      (from ≡ to → ⊥) → c ≡ slice_index_or open_cells from c → IsUnnamed cells column c free fresh →
      lists_1 ≡ spliced from to lists → cells_1 ≡ spliced from to cells → AreTold cells_1 list_of_1 →
      length list_of_1 ≡ length list_of → cells_2 ≡ moved fresh from cells_1 →
      list_of_2 ≡ slice_set list_of_1 fresh from →
      IsKept lists_1 cells_2 free cell_of list_of_2 uses (slice_set open_cells from fresh)
  kept_spliced from to c fresh lists_1 cells_1 cells_2 list_of_1 list_of_2 column column_is low_from low_to other c_is u
      lists_are cells_are told long cells_2_are list_of_2_is = record {
        have_cells = subst (λ ls. AreCells ls cells_2 cell_of list_of_2 uses (slice_set open_cells from fresh))
            (sym lists_are)
            (subst (λ cs. AreCells (spliced from to lists) cs cell_of list_of_2 uses (slice_set open_cells from fresh))
            (sym cells_2_are)
            (subst (λ ls. AreCells (spliced from to lists) (moved fresh from cells_1) cell_of ls uses
            (slice_set open_cells from fresh)) (sym list_of_2_is)
            (spliced_cells lists cells cells_1 cell_of list_of list_of_1 uses open_cells from to fresh h low_from low_to
            other (unnamed_is from c fresh column column_is low_from c_is u) cells_are told long)));
        free_row = k.free_row ∙ sym (ap length lists_are ∙ length-spliced from to lists);
        few = subst (λ n. n < 2 ^ 32) (sym (ap node_count lists_are
            ∙ count-spliced from to lists other low_from low_to)) k.few;
      }
