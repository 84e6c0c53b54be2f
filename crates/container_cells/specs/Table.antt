-- A contract of a public call rests on this: the table of containers of `java.util`: the last names of their types, and
-- which of their methods, of so many arguments, look at what they hold or change it.
use Rattle.std.specs.Prelude.{ℕ, Bool, ◌&&◌, ◌==◌, List, [], ◌∷◌, Option, None, Some, bytes_eq, codes, find}
use Rattle.std.specs.Prelude.{if◌then◌else◌}
use Rattle.std.specs.List.{list_any}
use Rattle.container_cells.specs.declared.table.CellTouch.{CellTouch}
use Rattle.container_cells.specs.declared.table.CellTouch.TheVariants.{Look, Change}
use Rattle.container_cells.specs.declared.table.Family.{Family}
use Rattle.container_cells.specs.declared.table.Family.TheVariants.{Maps, Lists, Sets}

-- ---- the table

-- the name of a method, and how many arguments it has
abbrev pub Method : Type 0
Method = List ℕ × ℕ

pub record Row : Type 0 where
  pub types : List (List ℕ)
  pub looks : List Method
  pub changes : List Method

abbrev pub row : Family → Row
row Maps = record {
  types = codes "Map" ∷ codes "HashMap" ∷ codes "LinkedHashMap" ∷ codes "TreeMap" ∷ [];
  looks =
      (codes "get", 1) ∷ (codes "getOrDefault", 2) ∷ (codes "containsKey", 1) ∷ (codes "containsValue", 1)
      ∷ (codes "size", 0) ∷ (codes "isEmpty", 0) ∷ [];
  changes =
      (codes "put", 2) ∷ (codes "putIfAbsent", 2) ∷ (codes "putAll", 1) ∷ (codes "remove", 1) ∷ (codes "clear", 0)
      ∷ [];
}
row Lists = record {
  types = codes "List" ∷ codes "ArrayList" ∷ codes "LinkedList" ∷ [];
  looks =
      (codes "get", 1) ∷ (codes "contains", 1) ∷ (codes "indexOf", 1) ∷ (codes "size", 0) ∷ (codes "isEmpty", 0)
      ∷ [];
  changes =
      (codes "add", 1) ∷ (codes "add", 2) ∷ (codes "addAll", 1) ∷ (codes "set", 2) ∷ (codes "remove", 1)
      ∷ (codes "clear", 0) ∷ [];
}
row Sets = record {
  types = codes "Set" ∷ codes "HashSet" ∷ codes "LinkedHashSet" ∷ codes "TreeSet" ∷ [];
  looks = (codes "contains", 1) ∷ (codes "size", 0) ∷ (codes "isEmpty", 0) ∷ [];
  changes = (codes "add", 1) ∷ (codes "addAll", 1) ∷ (codes "remove", 1) ∷ (codes "clear", 0) ∷ [];
}

abbrev pub families : List Family
families = Maps ∷ Lists ∷ Sets ∷ []

-- ---- what stands in it

abbrev pub has_type : List ℕ → Family → Bool
has_type name family = list_any (λ t. bytes_eq t name) (row family).types

-- the family of the types of this last name
abbrev pub family_of : List ℕ → Option Family
family_of name = find (has_type name) families

abbrev pub has_method : List Method → List ℕ → ℕ → Bool
has_method methods name count = list_any (λ (m : Method). bytes_eq m.0 name && m.1 == count) methods

-- what a call of a method with so many arguments does to what a container holds
abbrev pub touch_of : Family → List ℕ → ℕ → Option CellTouch
touch_of family name count =
    if has_method (row family).looks name count then Some Look
    else if has_method (row family).changes name count then Some Change
    else None
