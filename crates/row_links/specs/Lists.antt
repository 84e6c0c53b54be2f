-- A contract of a public call rests on this: lists of nodes, and what each move does to all of them.
use Rattle.std.specs.Prelude.{◌≡◌, ℕ, ◌+◌, ◌<◌, ◌≤◌, List, [], ◌∷◌, ◌++◌, length, map, Bool, true, false, not, nat_eq}
use Rattle.std.specs.Prelude.{Option, None, Some}
use Rattle.std.specs.Prelude.{slice_get, slice_index_or, slice_set, replicate, filter}
use Rattle.std.specs.List.{concat, range_with_len}

-- the list of this number
abbrev pub list_at : List (List ℕ) → ℕ → List ℕ
list_at lists l = slice_index_or lists l []

-- so many lists, with so many nodes in order in one of them
abbrev pub all_in : ℕ → ℕ → ℕ → List (List ℕ)
all_in l nodes lists = slice_set (replicate lists []) l (range_with_len 0 nodes)

-- a list without a node
abbrev pub without : ℕ → List ℕ → List ℕ
without x xs = filter (λ y. not (nat_eq y x)) xs

-- the lists with a node last in one of them
abbrev pub put_last : ℕ → ℕ → List (List ℕ) → List (List ℕ)
put_last x l lists = slice_set lists l (list_at lists l ++ x ∷ [])

-- the node leaves its list, and stands last in this one
abbrev pub moved : ℕ → ℕ → List (List ℕ) → List (List ℕ)
moved x l lists = put_last x l (map (without x) lists)

abbrev pub moved_if_some : Option ℕ → ℕ → List (List ℕ) → List (List ℕ)
moved_if_some None to lists = lists
moved_if_some (Some x) to lists = moved x to lists

-- the first node of the list
abbrev pub front : ℕ → List (List ℕ) → Option ℕ
front l lists = slice_get (list_at lists l) 0

-- the first node of one list stands last in the other
abbrev pub front_taken : ℕ → ℕ → List (List ℕ) → List (List ℕ)
front_taken from to lists = moved_if_some (front from lists) to lists

-- all nodes of one list stand behind those of the other
abbrev pub spliced : ℕ → ℕ → List (List ℕ) → List (List ℕ)
spliced from to lists = slice_set (slice_set lists to (list_at lists to ++ list_at lists from)) from []

-- how many nodes there are
abbrev pub node_count : List (List ℕ) → ℕ
node_count lists = length (concat lists)

abbrev pub one_if : Bool → ℕ
one_if true = 1
one_if false = 0

-- how often a node stands in a list
abbrev pub times : ℕ → List ℕ → ℕ
times x [] = 0
times x (y ∷ ys) = one_if (nat_eq x y) + times x ys

-- each node below their number stands in one list, once, and nothing else does
pub record HasEachOnce (lists : List (List ℕ)) : Type 0 where
  pub once : (x : ℕ) → x < node_count lists → times x (concat lists) ≡ 1
  pub others : (x : ℕ) → node_count lists ≤ x → times x (concat lists) ≡ 0

-- the node stands in the list of this number
abbrev pub IsInList : List (List ℕ) → ℕ → ℕ → Type 0
IsInList lists x l = 0 < times x (list_at lists l)
