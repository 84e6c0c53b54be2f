-- Cells at the start: each list has one, and the first list's is named by all nodes.
use Rattle.std.proofs.Common.{◌≡◌, ℕ, ◌+◌, ◌≤◌, ◌<◌, inl, inr, List, [], length, slice_index, slice_set, replicate}
use Rattle.std.proofs.Common.{refl, sym, ap, subst, ◌∙◌, arith}
use Rattle.std.specs.List.{range_with_len}
use Rattle.std.proofs.lemmas.Bool.{cases_eq}
use Rattle.std.proofs.lemmas.List.{length-set, length-replicate}
use Rattle.std.proofs.lemmas.List.FromFn.{length-range_with_len}
use Rattle.row_links.specs.Lists.{all_in, moved, times, node_count, HasEachOnce, IsInList}
use Rattle.row_links.specs.Cells.{AreTold, AreCells, AreOpened, IsKept}
use Rattle.row_links.proofs.Lists.{length-moved, count-moved, each-moved, is_below, in-moved, in-moved_other}
use Rattle.row_links.proofs.Lists.{from-moved}
use Rattle.row_links.proofs.Columns.{set_here, set_other, times-replicate_same, times-replicate_other, index-replicate}
use Rattle.row_links.proofs.Splicing.{told-moved}
use Rattle.row_links.proofs.Starting.{length-all_in, count-all_in, each-all_in, at-all_in_other, alone-at}

-- a node stands in no list but the one that has all
in_all : (m n k x l : ℕ) → IsInList (all_in m n k) x l → l ≡ m
in_all m n k x l there = elim (cases_eq l m) [
  | inl e ↦ e
  | inr e ↦ let row = ap (times x) (at-all_in_other m l n k e) in let none : times x [] ≡ 0 = refl in
      absurd (omega arith)
]

pub none_opened : (lists count : ℕ) (cells : List (List ℕ)) (list_of : List ℕ) →
    cells ≡ all_in lists count (lists + 1) → list_of ≡ replicate count lists → AreOpened lists count 0 cells list_of
none_opened lists count cells list_of cells_are list_of_is = record {
  each = subst HasEachOnce (sym cells_are) all_each;
  rows = ap length cells_are ∙ length-all_in lists count (lists + 1);
  cell_count = ap node_count cells_are ∙ all_count;
  list_of_length = ap length list_of_is ∙ length-replicate count lists;
  told = λ c l there. let in_l : IsInList (all_in lists count (lists + 1)) c l =
      subst (λ cs. IsInList cs c l) cells_are there in
      let low = is_below (all_in lists count (lists + 1)) c l all_each in_l in
      ap (λ column. slice_index column c) list_of_is
      ∙ index-replicate c lists count (let all = all_count in omega arith)
      ∙ sym (in_all lists count (lists + 1) c l in_l);
  opened = λ l low. absurd (omega arith);
  used = λ c l low there. let last = in_all lists count (lists + 1) c l
      (subst (λ cs. IsInList cs c l) cells_are there) in absurd (omega arith);
}
  where
    all_each : HasEachOnce (all_in lists count (lists + 1))
    all_each = each-all_in lists count (lists + 1) (omega arith)

    all_count : node_count (all_in lists count (lists + 1)) ≡ count
    all_count = count-all_in lists count (lists + 1) (omega arith)

pub one_opened : (lists count number : ℕ) (cells cells_1 : List (List ℕ)) (list_of list_of_1 : List ℕ) →
    AreOpened lists count number cells list_of → number < lists → lists ≤ count →
    cells_1 ≡ moved number number cells → list_of_1 ≡ slice_set list_of number number →
    AreOpened lists count (number + 1) cells_1 list_of_1
one_opened lists count number cells cells_1 list_of list_of_1 k low enough cells_are list_of_is = record {
  each = subst HasEachOnce (sym cells_are) (each-moved number number cells k.each here row);
  rows = ap length cells_are ∙ length-moved number number cells ∙ k.rows;
  cell_count = ap node_count cells_are ∙ count-moved number number cells row (k.each.once number here) ∙ k.cell_count;
  list_of_length = ap length list_of_is ∙ length-set list_of number number ∙ k.list_of_length;
  told = subst (λ cs. AreTold cs list_of_1) (sym cells_are)
      (subst (λ column. AreTold (moved number number cells) column) (sym list_of_is)
      (told-moved number number cells list_of row (let long = k.list_of_length in omega arith) k.told));
  opened = λ l low_l. subst (λ cs. IsInList cs l l) (sym cells_are) (elim (cases_eq l number) [
    | inl e ↦ subst (λ m. IsInList (moved number number cells) m m) (sym e) (in-moved number number cells row)
    | inr e ↦ in-moved_other number number cells l l row e (k.opened l (omega arith))
  ]);
  used = λ c l low_l there. elim (from-moved number number cells c l row
      (subst (λ cs. IsInList cs c l) cells_are there)) [
        | inl same ↦ same.0 ∙ sym same.1
        | inr stays ↦ k.used c l low_l stays.1
      ];
}
  where
    here : number < node_count cells
    here = let all = k.cell_count in omega arith

    row : number < length cells
    row = let all = k.rows in omega arith

pub all_opened : (nodes lists count number : ℕ) (cells : List (List ℕ)) (cell_of list_of uses open_cells : List ℕ) →
    AreOpened lists count number cells list_of → number ≡ lists → 1 ≤ lists → count ≡ nodes + lists →
    cell_of ≡ replicate nodes 0 → uses ≡ slice_set (replicate count 0) 0 nodes → open_cells ≡ range_with_len 0 lists →
    AreCells (all_in 0 nodes lists) cells cell_of list_of uses open_cells
all_opened nodes lists count number cells cell_of list_of uses open_cells k number_is some count_is cell_of_is uses_are
    open_is =
    record {
      each = all_each;
      each_cell = k.each;
      rows = let long = length-all_in 0 nodes lists in let all = k.rows in omega arith;
      cell_count = let long = length-all_in 0 nodes lists in let all = all_count in let cells_all = k.cell_count in
          omega arith;
      cell_of_length = ap length cell_of_is ∙ length-replicate nodes 0 ∙ sym all_count;
      list_of_length = k.list_of_length ∙ sym k.cell_count;
      uses_length = uses_long ∙ sym k.cell_count;
      open_length = ap length open_is ∙ length-range_with_len 0 lists ∙ sym (length-all_in 0 nodes lists);
      named = λ x l there. let first = in_all 0 nodes lists x l there in
          let low = is_below (all_in 0 nodes lists) x l all_each there in
          subst (λ m. IsInList cells (slice_index cell_of x) m) (sym first)
          (subst (λ c. IsInList cells c 0) (sym (ap (λ column. slice_index column x) cell_of_is
          ∙ index-replicate x 0 nodes (let all = all_count in omega arith))) (k.opened 0 (omega arith)));
      told = k.told;
      opened = λ l low. subst (λ c. IsInList cells c l) (sym (open_at l (low_in l low)))
          (k.opened l (let below = low_in l low in omega arith));
      used = λ c l low there. inl (k.used c l (low_in l low) there ∙ sym (open_at l (low_in l low)));
      counted = λ c low. elim (cases_eq c 0) [
        | inl e ↦ ap (slice_index uses) e ∙ ap (λ column. slice_index column 0) uses_are
            ∙ set_here (replicate count 0) 0 nodes (let long : length (replicate {A = ℕ} count 0) ≡ count =
            length-replicate count 0 in omega arith)
            ∙ sym (times-replicate_same 0 nodes) ∙ sym (ap (times 0) cell_of_is) ∙ sym (ap (λ d. times d cell_of) e)
        | inr e ↦ ap (λ column. slice_index column c) uses_are ∙ set_other (replicate count 0) 0 c nodes e
            ∙ index-replicate c 0 count (omega (arith, uses_long))
            ∙ sym (ap (times c) cell_of_is ∙ times-replicate_other c 0 nodes e)
      ];
    }
  where
    all_each : HasEachOnce (all_in 0 nodes lists)
    all_each = each-all_in 0 nodes lists (omega arith)

    all_count : node_count (all_in 0 nodes lists) ≡ nodes
    all_count = count-all_in 0 nodes lists (omega arith)

    uses_long : length uses ≡ count
    uses_long = ap length uses_are ∙ length-set (replicate count 0) 0 nodes ∙ length-replicate count 0

    low_in : (l : ℕ) → l < length (all_in 0 nodes lists) → l < lists
    low_in l low = let long = length-all_in 0 nodes lists in omega (arith, long)

    open_at : (l : ℕ) → l < lists → slice_index open_cells l ≡ l
    open_at l low = ap (λ column. slice_index column l) open_is ∙ alone-at lists l low

pub kept_at_start : (nodes lists : ℕ) (lists_1 cells cells_1 : List (List ℕ))
    (cell_of list_of uses open_cells : List ℕ) → AreOpened lists (nodes + lists) lists cells list_of → cells_1 ≡ cells →
    1 ≤ lists → lists_1 ≡ all_in 0 nodes lists → cell_of ≡ replicate nodes 0 → uses ≡ replicate (nodes + lists) 0 →
    open_cells ≡ range_with_len 0 lists → nodes < 4294967296 →
    IsKept lists_1 cells_1 lists cell_of list_of (slice_set uses 0 nodes) open_cells
kept_at_start nodes lists lists_1 cells cells_1 cell_of list_of uses open_cells k cells_are some lists_are cell_of_is
    uses_are open_is few = record {
      have_cells = subst (λ ls. AreCells ls cells_1 cell_of list_of (slice_set uses 0 nodes) open_cells) (sym lists_are)
          (subst (λ cs. AreCells (all_in 0 nodes lists) cs cell_of list_of (slice_set uses 0 nodes) open_cells)
          (sym cells_are)
          (all_opened nodes lists (nodes + lists) lists cells cell_of list_of (slice_set uses 0 nodes) open_cells k refl
          some refl cell_of_is (ap (λ us. slice_set us 0 nodes) uses_are) open_is));
      free_row = sym (ap length lists_are ∙ length-all_in 0 nodes lists);
      few = subst (λ n. n < 4294967296) (sym (ap node_count lists_are ∙ count-all_in 0 nodes lists (omega arith))) few;
    }
