-- No public contract rests on this: cells, which nodes name, and which name a list.
use Rattle.std.specs.Prelude.{◌≡◌, ℕ, ◌+◌, ◌<◌, ◌^◌, ◌⊎◌, List, length, slice_index, Some}
use Rattle.row_links.specs.Lists.{times, node_count, front, HasEachOnce, IsInList}

-- a cell names its row
abbrev pub AreTold : List (List ℕ) → List ℕ → Type 0
AreTold cells list_of = (c l : ℕ) → IsInList cells c l → slice_index list_of c ≡ l

-- what the cells keep beside the lists: the last row of cells has the free ones
pub record AreCells (lists cells : List (List ℕ)) (cell_of list_of uses open_cells : List ℕ) : Type 0 where
  pub each : HasEachOnce lists
  pub each_cell : HasEachOnce cells
  pub rows : length cells ≡ length lists + 1
  pub cell_count : node_count cells ≡ node_count lists + length lists
  pub cell_of_length : length cell_of ≡ node_count lists
  pub list_of_length : length list_of ≡ node_count cells
  pub uses_length : length uses ≡ node_count cells
  pub open_length : length open_cells ≡ length lists
  -- a node's cell stands in the row of the node's list
  pub named : (x l : ℕ) → IsInList lists x l → IsInList cells (slice_index cell_of x) l
  pub told : AreTold cells list_of
  -- each list has a cell that takes new nodes
  pub opened : (l : ℕ) → l < length lists → IsInList cells (slice_index open_cells l) l
  -- each other cell of a list is named by a node
  pub used : (c l : ℕ) → l < length lists → IsInList cells c l →
      (c ≡ slice_index open_cells l) ⊎ (0 < slice_index uses c)
  pub counted : (c : ℕ) → c < length uses → slice_index uses c ≡ times c cell_of

-- what a value keeps: its lists have cells, the row of the free ones is behind theirs, and nodes have 32 bits
pub record IsKept (lists cells : List (List ℕ)) (free : ℕ) (cell_of list_of uses open_cells : List ℕ) : Type 0 where
  pub have_cells : AreCells lists cells cell_of list_of uses open_cells
  pub free_row : free ≡ length lists
  pub few : node_count lists < 2 ^ 32

-- of so many cells each of the first ones is alone in the row of its number, up to this one; the others are free
pub record AreOpened (lists count number : ℕ) (cells : List (List ℕ)) (list_of : List ℕ) : Type 0 where
  pub each : HasEachOnce cells
  pub rows : length cells ≡ lists + 1
  pub cell_count : node_count cells ≡ count
  pub list_of_length : length list_of ≡ count
  pub told : AreTold cells list_of
  pub opened : (l : ℕ) → l < number → IsInList cells l l
  pub used : (c l : ℕ) → l < lists → IsInList cells c l → c ≡ l

-- the open cell, where no node names it, and else the first of those that are free
abbrev pub IsUnnamed : List (List ℕ) → List ℕ → ℕ → ℕ → ℕ → Type 0
IsUnnamed cells uses open_cell free c = ((slice_index uses open_cell ≡ 0) × (c ≡ open_cell))
    ⊎ ((0 < slice_index uses open_cell) × (front free cells ≡ Some c))
