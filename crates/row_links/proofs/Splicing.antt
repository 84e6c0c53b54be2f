-- Cells: what all nodes of a list behind another leave.
use Rattle.std.proofs.Common.{◌≡◌, ℕ, ◌+◌, ◌<◌, ◌⊎◌, inl, inr, List, [], ◌∷◌, ◌++◌, length, slice_index, slice_set}
use Rattle.std.proofs.Common.{slice_get, None, Some, refl, sym, ap, subst, ◌∙◌, arith}
use Rattle.std.proofs.lemmas.Bool.{cases_eq}
use Rattle.std.proofs.lemmas.List.{length-set, append_assoc, append-nil}
use Rattle.row_links.specs.Lists.{list_at, without, moved, spliced, front, times, node_count, HasEachOnce, IsInList}
use Rattle.row_links.specs.Cells.{AreTold, AreCells, IsUnnamed}
use Rattle.row_links.proofs.Counting.{without-none, times-in_lists, times-in_two, length-without}
use Rattle.row_links.proofs.Lists.{moved-here, moved-other, spliced-from, spliced-to, spliced-other, length-moved}
use Rattle.row_links.proofs.Lists.{length-spliced, count-moved, count-spliced, each-moved, each-spliced, at_most_once}
use Rattle.row_links.proofs.Lists.{in-moved, in-moved_other, from-moved, in-spliced, in-spliced_other, from-spliced}
use Rattle.row_links.proofs.Seeing.{same_lists}
use Rattle.row_links.proofs.Joining.{without-parted}
use Rattle.row_links.proofs.Columns.{set_here, set_other}
use Rattle.row_links.proofs.Celling.{front_in, not_fresh, not_named, fresh_low}
use Rattle.racer_base.proofs.Lists.{no_first}

-- ---- one cell after another

-- a list with a first one is that one and the others
first_parts : (c : ℕ) (xs : List ℕ) → slice_get xs 0 ≡ Some c → (ys : List ℕ) × (xs ≡ c ∷ ys)
first_parts c [] e = cc
first_parts c (x ∷ xs) e = (xs, ap (λ z. z ∷ xs) (let same : x ≡ c = cc in same))

pub fewer_left : (from to c : ℕ) (cells : List (List ℕ)) → (from ≡ to → ⊥) → front from cells ≡ Some c →
    length (list_at (moved c to cells) from) < length (list_at cells from)
fewer_left from to c cells other first = let row = ap length (moved-other c to from cells other) in
    let left = length-without c (list_at cells from) in let there = front_in from c cells first in omega arith

pub same_splice : (from to c : ℕ) (cells : List (List ℕ)) → HasEachOnce cells → (from ≡ to → ⊥) →
    from < length cells → to < length cells → front from cells ≡ Some c →
    spliced from to (moved c to cells) ≡ spliced from to cells
same_splice from to c cells each other low_from low_to first =
    same_lists (spliced from to (moved c to cells)) (spliced from to cells)
    (length-spliced from to (moved c to cells) ∙ length-moved c to cells ∙ sym (length-spliced from to cells))
    (λ l low. elim (cases_eq l from) [
      | inl e ↦ ap (list_at (spliced from to (moved c to cells))) e
          ∙ spliced-from from to (moved c to cells) (omega (arith, long)) ∙ sym (spliced-from from to cells low_from)
          ∙ sym (ap (list_at (spliced from to cells)) e)
      | inr not_from ↦ elim (cases_eq l to) [
        | inl e ↦ ap (list_at (spliced from to (moved c to cells))) e
            ∙ spliced-to from to (moved c to cells) other (omega (arith, long))
            ∙ ap (λ xs. xs ++ list_at (moved c to cells) from) (moved-here c to cells low_to)
            ∙ ap (λ xs. without c (list_at cells to) ++ c ∷ [] ++ xs) (moved-other c to from cells other)
            ∙ ap (λ xs. xs ++ c ∷ [] ++ without c (list_at cells from)) (without-none c (list_at cells to) not_in_to)
            ∙ append_assoc (list_at cells to) (c ∷ []) (without c (list_at cells from))
            ∙ ap (λ xs. list_at cells to ++ xs) (sym parts.1 ∙ refl) ∙ sym (spliced-to from to cells other low_to)
            ∙ sym (ap (list_at (spliced from to cells)) e)
        | inr not_to ↦ spliced-other from to l (moved c to cells) not_from not_to ∙ moved-other c to l cells not_to
            ∙ without-none c (list_at cells l) (not_in l not_from)
            ∙ sym (spliced-other from to l cells not_from not_to)
      ]
    ])
  where
    long : length (moved c to cells) ≡ length cells
    long = length-moved c to cells

    there : IsInList cells c from
    there = front_in from c cells first

    not_in : (l : ℕ) → (l ≡ from → ⊥) → times c (list_at cells l) ≡ 0
    not_in l not_from = let two = times-in_two c l from cells not_from in let once = at_most_once cells c each in
        let here = there in omega arith

    not_in_to : times c (list_at cells to) ≡ 0
    not_in_to = not_in to (λ e. other (sym e))

    parts : (ys : List ℕ) × (list_at cells from ≡ c ∷ without c (list_at cells from))
    parts = let p = first_parts c (list_at cells from) first in
        let rest : without c (c ∷ p.0) ≡ p.0 = without-parted c [] p.0
        (let same = ap (times c) p.1 in let some = times-in_lists c from cells in
        let once = at_most_once cells c each in omega arith) in
        (p.0, p.1 ∙ ap (λ ys. c ∷ ys) (sym rest ∙ sym (ap (without c) p.1)))

pub spliced_none : (from to : ℕ) (cells : List (List ℕ)) → (from ≡ to → ⊥) → from < length cells →
    to < length cells → front from cells ≡ None → spliced from to cells ≡ cells
spliced_none from to cells other low_from low_to none =
    same_lists (spliced from to cells) cells (length-spliced from to cells)
    (λ l low. elim (cases_eq l from) [
      | inl e ↦ ap (list_at (spliced from to cells)) e ∙ spliced-from from to cells low_from ∙ sym empty
          ∙ sym (ap (list_at cells) e)
      | inr not_from ↦ elim (cases_eq l to) [
        | inl e ↦ ap (list_at (spliced from to cells)) e ∙ spliced-to from to cells other low_to
            ∙ ap (λ xs. list_at cells to ++ xs) empty ∙ append-nil (list_at cells to) ∙ sym (ap (list_at cells) e)
        | inr not_to ↦ spliced-other from to l cells not_from not_to
      ]
    ])
  where
    empty : list_at cells from ≡ []
    empty = no_first (list_at cells from) none

pub told-moved : (c l : ℕ) (cells : List (List ℕ)) (list_of : List ℕ) → l < length cells → c < length list_of →
    AreTold cells list_of → AreTold (moved c l cells) (slice_set list_of c l)
told-moved c l cells list_of low low_c told d m there = elim (from-moved c l cells d m low there) [
  | inl here ↦ ap (slice_index (slice_set list_of c l)) here.0 ∙ set_here list_of c l low_c ∙ sym here.1
  | inr other ↦ set_other list_of c d l other.0 ∙ told d m other.1
]

-- ---- the whole

pub spliced_cells : (lists cells cells_1 : List (List ℕ)) (cell_of list_of list_of_1 uses open_cells : List ℕ)
    (from to fresh : ℕ) → AreCells lists cells cell_of list_of uses open_cells → from < length lists →
    to < length lists → (from ≡ to → ⊥) →
    IsUnnamed cells uses (slice_index open_cells from) (length lists) fresh → cells_1 ≡ spliced from to cells →
    AreTold cells_1 list_of_1 → length list_of_1 ≡ length list_of →
    AreCells (spliced from to lists) (moved fresh from cells_1) cell_of (slice_set list_of_1 fresh from) uses
    (slice_set open_cells from fresh)
spliced_cells lists cells cells_1 cell_of list_of list_of_1 uses open_cells from to fresh k low_from low_to other free
    cells_is told_1 long_1 =
    record {
      each = each-spliced from to lists k.each other low_from low_to;
      each_cell = each-moved fresh from cells_1 each_1 fresh_there from_there;
      rows = length-moved fresh from cells_1 ∙ rows_1 ∙ ap (λ n. n + 1) (sym (length-spliced from to lists));
      cell_count = count-moved fresh from cells_1 from_there (each_1.once fresh fresh_there) ∙ count_1 ∙ k.cell_count
          ∙ ap (λ n. n + length lists) (sym (count-spliced from to lists other low_from low_to))
          ∙ ap (λ n. node_count (spliced from to lists) + n) (sym (length-spliced from to lists));
      cell_of_length = k.cell_of_length ∙ sym (count-spliced from to lists other low_from low_to);
      list_of_length = length-set list_of_1 fresh from ∙ long_1 ∙ k.list_of_length ∙ sym count_2;
      uses_length = k.uses_length ∙ sym count_2;
      open_length = length-set open_cells from fresh ∙ k.open_length ∙ sym (length-spliced from to lists);
      named = λ x l there. elim ((from-spliced from to lists x l other low_from low_to there).1) [
        | inl in_l ↦ in-moved_other fresh from cells_1 (slice_index cell_of x) l from_there
            (not_named lists cells cell_of list_of uses open_cells k from fresh x l low_from free in_l)
            (kept (slice_index cell_of x) l (from-spliced from to lists x l other low_from low_to there).0
            (k.named x l in_l))
        | inr in_from ↦ subst (λ m. IsInList (moved fresh from cells_1) (slice_index cell_of x) m) (sym in_from.0)
            (in-moved_other fresh from cells_1 (slice_index cell_of x) to from_there
            (not_named lists cells cell_of list_of uses open_cells k from fresh x from low_from free in_from.1)
            (turned (slice_index cell_of x) (k.named x from in_from.1)))
      ];
      told = told-moved fresh from cells_1 list_of_1 from_there
          (let long = k.list_of_length in let below = fresh_there in let count = count_1 in omega arith) told_1;
      opened = λ l low. elim (cases_eq l from) [
        | inl e ↦ subst (λ m. IsInList (moved fresh from cells_1) (slice_index
            (slice_set open_cells from fresh) m) m) (sym e)
            (subst (λ c. IsInList (moved fresh from cells_1) c from)
            (sym (set_here open_cells from fresh (let long = k.open_length in omega arith)))
            (in-moved fresh from cells_1 from_there))
        | inr e ↦ let low_l = low_in l low in subst (λ c. IsInList (moved fresh from cells_1) c l)
            (sym (set_other open_cells from l fresh e))
            (in-moved_other fresh from cells_1 (slice_index open_cells l) l from_there
            (not_fresh lists cells cell_of list_of uses open_cells k from fresh l low_from free low_l e)
            (kept (slice_index open_cells l) l e (k.opened l low_l)))
      ];
      used = λ c l low there. elim (from-moved fresh from cells_1 c l from_there there) [
        | inl here ↦ inl (here.0 ∙ sym (ap (slice_index (slice_set open_cells from fresh)) here.1
            ∙ set_here open_cells from fresh (let long = k.open_length in omega arith)))
        | inr stays ↦ still c l (low_in l low) stays.0 stays.1
      ];
      counted = k.counted;
    }
  where
    rows_1 : length cells_1 ≡ length lists + 1
    rows_1 = ap length cells_is ∙ length-spliced from to cells ∙ k.rows

    from_row : from < length cells
    from_row = let rows = k.rows in omega arith

    to_row : to < length cells
    to_row = let rows = k.rows in omega arith

    from_there : from < length cells_1
    from_there = let rows = rows_1 in omega arith

    count_1 : node_count cells_1 ≡ node_count cells
    count_1 = ap node_count cells_is ∙ count-spliced from to cells other from_row to_row

    each_1 : HasEachOnce cells_1
    each_1 = subst HasEachOnce (sym cells_is) (each-spliced from to cells k.each_cell other from_row to_row)

    fresh_there : fresh < node_count cells_1
    fresh_there = let below = fresh_low lists cells cell_of list_of uses open_cells k from fresh low_from free in
        let count = count_1 in omega arith

    count_2 : node_count (moved fresh from cells_1) ≡ node_count cells
    count_2 = count-moved fresh from cells_1 from_there (each_1.once fresh fresh_there) ∙ count_1

    low_in : (l : ℕ) → l < length (spliced from to lists) → l < length lists
    low_in l low = let long = length-spliced from to lists in omega (arith, long)

    kept : (c l : ℕ) → (l ≡ from → ⊥) → IsInList cells c l → IsInList cells_1 c l
    kept c l not_from in_l = subst (λ cs. IsInList cs c l) (sym cells_is)
        (in-spliced_other from to cells c l other to_row not_from in_l)

    turned : (c : ℕ) → IsInList cells c from → IsInList cells_1 c to
    turned c in_from = subst (λ cs. IsInList cs c to) (sym cells_is) (in-spliced from to cells c other to_row in_from)

    -- a cell of the other list was the open one, which is fresh then, or a node names it
    named_still : (c : ℕ) → (c ≡ fresh → ⊥) → (c ≡ slice_index open_cells from) ⊎ (0 < slice_index uses c) →
        IsUnnamed cells uses (slice_index open_cells from) (length lists) fresh → 0 < slice_index uses c
    named_still c not_fresh (inr some) free = some
    named_still c not_fresh (inl is_open) (inl old) = absurd (not_fresh (is_open ∙ sym old.1))
    named_still c not_fresh (inl is_open) (inr new) = let same = ap (slice_index uses) is_open in
        let some = new.0 in omega arith

    still : (c l : ℕ) → l < length lists → (c ≡ fresh → ⊥) → IsInList cells_1 c l →
        (c ≡ slice_index (slice_set open_cells from fresh) l) ⊎ (0 < slice_index uses c)
    still c l low not_fresh there = let parts = from-spliced from to cells c l other from_row to_row
        (subst (λ cs. IsInList cs c l) cells_is there) in elim parts.1 [
          | inl in_l ↦ elim (k.used c l low in_l) [
            | inl is_open ↦ inl (is_open ∙ sym (set_other open_cells from l fresh parts.0))
            | inr some ↦ inr some
          ]
          | inr in_from ↦ inr (named_still c not_fresh (k.used c from low_from in_from.1) free)
        ]
