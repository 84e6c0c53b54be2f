-- Cells: what a node that comes to another list leaves.
use Rattle.std.proofs.Common.{◌≡◌, ℕ, ◌+◌, ◌-◌, ◌<◌, ◌⊎◌, inl, inr, List, length, nat_eq, slice_index, slice_set, sym}
use Rattle.std.proofs.Common.{ap, subst, ◌∙◌, arith}
use Rattle.std.proofs.lemmas.Bool.{cases_eq}
use Rattle.std.proofs.lemmas.List.{length-set}
use Rattle.row_links.specs.Lists.{moved, one_if, times, node_count, HasEachOnce, IsInList}
use Rattle.row_links.specs.Cells.{AreTold, AreCells}
use Rattle.row_links.proofs.Counting.{same_once, other_never}
use Rattle.row_links.proofs.Lists.{length-moved, count-moved, each-moved, is_below, in-moved_other, from-moved}
use Rattle.row_links.proofs.Columns.{set_here, set_other, times-set_column, there}
use Rattle.row_links.proofs.Celling.{open_low, cell_low, used_some}
use Rattle.row_links.proofs.Splicing.{told-moved}

-- what cells keep, but for one cell, which may be named by no node
pub record AreAlmost (but : ℕ) (lists cells : List (List ℕ)) (cell_of list_of uses open_cells : List ℕ) : Type 0 where
  pub each : HasEachOnce lists
  pub each_cell : HasEachOnce cells
  pub rows : length cells ≡ length lists + 1
  pub cell_count : node_count cells ≡ node_count lists + length lists
  pub cell_of_length : length cell_of ≡ node_count lists
  pub list_of_length : length list_of ≡ node_count cells
  pub uses_length : length uses ≡ node_count cells
  pub open_length : length open_cells ≡ length lists
  pub named : (x l : ℕ) → IsInList lists x l → IsInList cells (slice_index cell_of x) l
  pub told : AreTold cells list_of
  pub opened : (l : ℕ) → l < length lists → IsInList cells (slice_index open_cells l) l
  pub used : (c l : ℕ) → (c ≡ but → ⊥) → l < length lists → IsInList cells c l →
      (c ≡ slice_index open_cells l) ⊎ (0 < slice_index uses c)
  pub counted : (c : ℕ) → c < length uses → slice_index uses c ≡ times c cell_of

pub whole_cells : (z : ℕ) (lists cells : List (List ℕ)) (cell_of list_of uses open_cells : List ℕ) →
    AreAlmost z lists cells cell_of list_of uses open_cells →
    (0 < slice_index uses z) ⊎ (slice_index open_cells (slice_index list_of z) ≡ z) →
    AreCells lists cells cell_of list_of uses open_cells
whole_cells z lists cells cell_of list_of uses open_cells k some = record {
  each = k.each;
  each_cell = k.each_cell;
  rows = k.rows;
  cell_count = k.cell_count;
  cell_of_length = k.cell_of_length;
  list_of_length = k.list_of_length;
  uses_length = k.uses_length;
  open_length = k.open_length;
  named = k.named;
  told = k.told;
  opened = k.opened;
  used = λ c l low in_l. elim (cases_eq c z) [
    | inl e ↦ elim some [
      | inl named ↦ inr (subst (λ d. 0 < slice_index uses d) (sym e) named)
      | inr is_open ↦ inl (e ∙ sym is_open ∙ ap (λ m. slice_index open_cells m) (ap (slice_index list_of) (sym e)
          ∙ k.told c l in_l))
    ]
    | inr e ↦ k.used c l e low in_l
  ];
  counted = k.counted;
}

-- the cell that no node names is free
pub freed_cells : (z : ℕ) (lists cells : List (List ℕ)) (cell_of list_of uses open_cells : List ℕ) →
    AreAlmost z lists cells cell_of list_of uses open_cells → z < node_count cells → slice_index uses z ≡ 0 →
    (slice_index open_cells (slice_index list_of z) ≡ z → ⊥) →
    AreCells lists (moved z (length lists) cells) cell_of (slice_set list_of z (length lists)) uses open_cells
freed_cells z lists cells cell_of list_of uses open_cells k low_z none not_open = record {
  each = k.each;
  each_cell = each-moved z (length lists) cells k.each_cell low_z last_row;
  rows = length-moved z (length lists) cells ∙ k.rows;
  cell_count = count ∙ k.cell_count;
  cell_of_length = k.cell_of_length;
  list_of_length = length-set list_of z (length lists) ∙ k.list_of_length ∙ sym count;
  uses_length = k.uses_length ∙ sym count;
  open_length = k.open_length;
  named = λ x l in_l. in-moved_other z (length lists) cells (slice_index cell_of x) l last_row
      (λ e. let low_x = is_below lists x l k.each in_l in
      let here = there x cell_of (let long = k.cell_of_length in omega arith) in
      let count = k.counted z (let long = k.uses_length in omega arith) in
      let same = ap (λ c. times c cell_of) e in omega arith) (k.named x l in_l);
  told = told-moved z (length lists) cells list_of last_row (let long = k.list_of_length in omega arith) k.told;
  opened = λ l low. in-moved_other z (length lists) cells (slice_index open_cells l) l last_row
      (λ e. not_open (ap (slice_index open_cells) (ap (slice_index list_of) (sym e)
      ∙ k.told (slice_index open_cells l) l (k.opened l low)) ∙ e)) (k.opened l low);
  used = λ c l low in_l. elim (from-moved z (length lists) cells c l last_row in_l) [
    | inl here ↦ let same = here.1 in absurd (omega arith)
    | inr stays ↦ k.used c l stays.0 low stays.1
  ];
  counted = k.counted;
}
  where
    last_row : length lists < length cells
    last_row = let rows = k.rows in omega arith

    count : node_count (moved z (length lists) cells) ≡ node_count cells
    count = count-moved z (length lists) cells last_row (k.each_cell.once z low_z)

pub moved_cells : (x l old new : ℕ) (lists cells : List (List ℕ))
    (cell_of list_of uses open_cells cell_of_1 uses_1 uses_2 : List ℕ) →
    AreCells lists cells cell_of list_of uses open_cells → x < node_count lists → l < length lists →
    old ≡ slice_index cell_of x → new ≡ slice_index open_cells l → cell_of_1 ≡ slice_set cell_of x new →
    uses_1 ≡ slice_set uses old (slice_index uses old - 1) →
    uses_2 ≡ slice_set uses_1 new (slice_index uses_1 new + 1) →
    AreAlmost old (moved x l lists) cells cell_of_1 list_of uses_2 open_cells
moved_cells x l old new lists cells cell_of list_of uses open_cells cell_of_1 uses_1 uses_2 k low_x low_l old_is new_is
    cell_of_is uses_1_is uses_2_is =
    record {
      each = each-moved x l lists k.each low_x low_l;
      each_cell = k.each_cell;
      rows = k.rows ∙ ap (λ n. n + 1) (sym long);
      cell_count = k.cell_count ∙ ap (λ n. n + length lists) (sym count)
          ∙ ap (λ n. node_count (moved x l lists) + n) (sym long);
      cell_of_length = ap length cell_of_is ∙ length-set cell_of x new ∙ k.cell_of_length ∙ sym count;
      list_of_length = k.list_of_length;
      uses_length = uses_long ∙ k.uses_length;
      open_length = k.open_length ∙ sym long;
      named = λ y m in_m. elim (from-moved x l lists y m low_l in_m) [
        | inl here ↦ subst (λ c. IsInList cells c m) (sym (ap (slice_index cell_of_1) here.0 ∙ cell_is))
            (subst (λ n. IsInList cells new n) (sym here.1) (subst (λ c. IsInList cells c l) (sym new_is)
            (k.opened l low_l)))
        | inr stays ↦ subst (λ c. IsInList cells c m) (sym (ap (λ c. slice_index c y) cell_of_is
            ∙ set_other cell_of x y new stays.0)) (k.named y m stays.1)
      ];
      told = k.told;
      opened = λ m low. k.opened m (omega (arith, long));
      used = λ c m not_old low in_m. elim (k.used c m (omega (arith, long)) in_m) [
        | inl is_open ↦ inl is_open
        | inr some ↦ inr (let shown = uses_are c in let never = other_never c old not_old in omega arith)
      ];
      counted = λ c low. let shown = uses_are c in let before = k.counted c (omega (arith, uses_long)) in
          let set = ap (times c) cell_of_is in
          let moved = times-set_column c x new cell_of (let all = k.cell_of_length in omega arith) in
          let same = ap (λ d. one_if (nat_eq c d)) old_is in omega arith;
    }
  where
    long : length (moved x l lists) ≡ length lists
    long = length-moved x l lists

    count : node_count (moved x l lists) ≡ node_count lists
    count = count-moved x l lists low_l (k.each.once x low_x)

    uses_long : length uses_2 ≡ length uses
    uses_long = ap length uses_2_is ∙ length-set uses_1 new (slice_index uses_1 new + 1) ∙ ap length uses_1_is
        ∙ length-set uses old (slice_index uses old - 1)

    cell_is : slice_index cell_of_1 x ≡ new
    cell_is = ap (λ c. slice_index c x) cell_of_is
        ∙ set_here cell_of x new (let all = k.cell_of_length in omega arith)

    old_low : old < length uses
    old_low = let below = cell_low lists cells cell_of list_of uses open_cells k x low_x in let all = k.uses_length in
        let same = old_is in omega arith

    new_low : new < length uses
    new_low = let below = open_low lists cells cell_of list_of uses open_cells k l low_l in let all = k.uses_length in
        let same = new_is in omega arith

    old_some : 0 < slice_index uses old
    old_some = subst (λ c. 0 < slice_index uses c) (sym old_is)
        (used_some lists cells cell_of list_of uses open_cells k x low_x)

    first_are : (c : ℕ) → slice_index uses_1 c + one_if (nat_eq c old) ≡ slice_index uses c
    first_are c = elim (cases_eq c old) [
      | inl e ↦ let here = same_once c old e in
          let shown = ap (slice_index uses_1) e ∙ ap (λ u. slice_index u old) uses_1_is
          ∙ set_here uses old (slice_index uses old - 1) old_low in let same = ap (slice_index uses) e in
          let some = old_some in omega arith
      | inr e ↦ let never = other_never c old e in
          let shown = ap (λ u. slice_index u c) uses_1_is ∙ set_other uses old c (slice_index uses old - 1) e in
          omega arith
    ]

    uses_are : (c : ℕ) → slice_index uses_2 c + one_if (nat_eq c old) ≡ slice_index uses c + one_if (nat_eq c new)
    uses_are c = let first = first_are c in elim (cases_eq c new) [
      | inl e ↦ let here = same_once c new e in
          let long_1 = ap length uses_1_is ∙ length-set uses old (slice_index uses old - 1) in
          let low = new_low in
          let shown = ap (slice_index uses_2) e ∙ ap (λ u. slice_index u new) uses_2_is
          ∙ set_here uses_1 new (slice_index uses_1 new + 1) (omega arith) in
          let same = ap (slice_index uses_1) e in omega arith
      | inr e ↦ let never = other_never c new e in
          let shown = ap (λ u. slice_index u c) uses_2_is ∙ set_other uses_1 new c (slice_index uses_1 new + 1) e in
          omega arith
    ]
