-- What stands in no row of the table.
use Rattle.std.proofs.Common.{◌≡◌, ℕ, ◌≤◌, Bool, true, false, ◌&&◌, nat_lt, List, [], ◌∷◌, Some, None}
use Rattle.std.proofs.Common.{refl, sym, arith}
use Rattle.std.specs.Prelude.{bytes_eq, ◌==◌, if◌then◌else◌}
use Rattle.std.specs.List.{list_any, list_all}
use Rattle.std.proofs.lemmas.Bool.{and_left, and_right, or_from, and_parts}
use Rattle.std.proofs.lemmas.Slice.Eq.{bytes_eq-Decides}
use Rattle.container_cells.specs.declared.table.CellTouch.TheVariants.{Look, Change}
use Rattle.container_cells.specs.declared.table.Family.{Family}
use Rattle.container_cells.specs.declared.table.Family.TheVariants.{Maps, Lists, Sets}
use Rattle.container_cells.specs.Table.{Method, row, has_type, family_of, has_method, touch_of}

unequal : (t name : List ℕ) → (name ≡ t → ⊥) → bytes_eq t name ≡ false
unequal t name other = by (bytes_eq t name) refl
  where
    by : (b : Bool) → bytes_eq t name ≡ b → b ≡ false
    by true e = absurd (other (sym ((bytes_eq-Decides t name).0 e)))
    by false e = refl

-- ---- names of types

-- P, of a name that is none of these
abbrev pub Other : List (List ℕ) → List ℕ → Type 0 → Type 0
Other [] name P = P
Other (t ∷ ts) name P = (name ≡ t → ⊥) → Other ts name P

other-types : (ts : List (List ℕ)) (name : List ℕ) (P : Type 0) →
    (list_any (λ t. bytes_eq t name) ts ≡ false → P) → Other ts name P
other-types [] name P so = so refl
other-types (t ∷ ts) name P so =
    λ other.
    other-types ts name P
    (λ none. so (or_from (bytes_eq t name) (list_any (λ t. bytes_eq t name) ts) (unequal t name other) none))

none-found : (a b c : Bool) → a ≡ false → b ≡ false → c ≡ false →
    None ≡ (if a then Some Maps else if b then Some Lists else if c then Some Sets else None)
none-found false false false e f g = refl
none-found false false true e f g = absurd cc
none-found false true c e f g = absurd cc
none-found true b c e f g = absurd cc

pub no-family : (name : List ℕ) →
    Other (row Maps).types name
    (Other (row Lists).types name (Other (row Sets).types name (None ≡ family_of name)))
no-family name =
    other-types (row Maps).types name
    (Other (row Lists).types name (Other (row Sets).types name (None ≡ family_of name)))
    (λ no-map.
    other-types (row Lists).types name (Other (row Sets).types name (None ≡ family_of name))
    (λ no-list.
    other-types (row Sets).types name (None ≡ family_of name)
    (λ no-set.
    none-found (has_type name Maps) (has_type name Lists) (has_type name Sets) no-map no-list no-set)))

-- ---- methods

abbrev pub OtherIf : Bool → Type 0 → Type 0 → Type 0
OtherIf true A P = A → P
OtherIf false A P = P

-- P, of a name that is that of no method of these with so many arguments
abbrev pub OtherMethod : List Method → List ℕ → ℕ → Type 0 → Type 0
OtherMethod [] name count P = P
OtherMethod (m ∷ ms) name count P = OtherIf (m.1 == count) (name ≡ m.0 → ⊥) (OtherMethod ms name count P)

module _ (m : Method) (ms : List Method) (name : List ℕ) (count : ℕ) (P : Type 0)
    (behind : (has_method ms name count ≡ false → P) → OtherMethod ms name count P)
    (so : has_method (m ∷ ms) name count ≡ false → P) where
  missed-one : (b : Bool) → (m.1 == count) ≡ b → OtherIf b (name ≡ m.0 → ⊥) (OtherMethod ms name count P)
  missed-one true e =
      λ other.
      behind
      (λ none.
      so
      (or_from (bytes_eq m.0 name && m.1 == count) (has_method ms name count)
      (and_left (bytes_eq m.0 name) (m.1 == count) (unequal m.0 name other)) none))
  missed-one false e =
      behind
      (λ none.
      so
      (or_from (bytes_eq m.0 name && m.1 == count) (has_method ms name count)
      (and_right (bytes_eq m.0 name) (m.1 == count) e) none))

missed : (ms : List Method) (name : List ℕ) (count : ℕ) (P : Type 0) → (has_method ms name count ≡ false → P) →
    OtherMethod ms name count P
missed [] name count P so = so refl
missed (m ∷ ms) name count P so = missed-one m ms name count P (missed ms name count P) so (m.1 == count) refl

untouched : (looks changes : Bool) → looks ≡ false → changes ≡ false →
    None ≡ (if looks then Some Look else if changes then Some Change else None)
untouched false false e f = refl
untouched false true e f = absurd cc
untouched true changes e f = absurd cc

pub no-method : (family : Family) (name : List ℕ) (count : ℕ) →
    OtherMethod (row family).looks name count
    (OtherMethod (row family).changes name count (None ≡ touch_of family name count))
no-method family name count =
    missed (row family).looks name count
    (OtherMethod (row family).changes name count (None ≡ touch_of family name count))
    (λ no-look.
    missed (row family).changes name count (None ≡ touch_of family name count)
    (λ no-change.
    untouched (has_method (row family).looks name count) (has_method (row family).changes name count) no-look
    no-change))

-- ---- numbers of arguments

abbrev pub are_below : ℕ → List Method → Bool
are_below bound methods = list_all (λ (m : Method). nat_lt m.1 bound) methods

fewer : (k bound count : ℕ) → nat_lt k bound ≡ true → bound ≤ count → (k == count) ≡ false
fewer k bound count less most = grind arith

all-fewer : (bound : ℕ) (ms : List Method) (name : List ℕ) (count : ℕ) → are_below bound ms ≡ true → bound ≤ count →
    has_method ms name count ≡ false
all-fewer bound [] name count below most = refl
all-fewer bound (m ∷ ms) name count below most =
    let both = and_parts (nat_lt m.1 bound) (are_below bound ms) below in
    or_from (bytes_eq m.0 name && m.1 == count) (has_method ms name count)
    (and_right (bytes_eq m.0 name) (m.1 == count) (fewer m.1 bound count both.0 most))
    (all-fewer bound ms name count both.1 most)

pub no-number : (family : Family) (name : List ℕ) (count bound : ℕ) → are_below bound (row family).looks ≡ true →
    are_below bound (row family).changes ≡ true → bound ≤ count → None ≡ touch_of family name count
no-number family name count bound looks changes most =
    untouched (has_method (row family).looks name count) (has_method (row family).changes name count)
    (all-fewer bound (row family).looks name count looks most)
    (all-fewer bound (row family).changes name count changes most)
