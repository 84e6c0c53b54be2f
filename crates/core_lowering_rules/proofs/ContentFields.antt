-- What containers hold are fields of the program, behind all others, at the numbers that their cells tell.
use Rattle.std.proofs.Common.{◌≡◌, ℕ, zero, suc, ◌+◌, Bool, true, false, cond, List, [], ◌∷◌, ◌++◌}
use Rattle.std.proofs.Common.{Option, Some, None, map, filter, length, refl, sym, ap, ◌∙◌, slice_get, is_some, arith}
use Rattle.std.specs.Prelude.{option_map}
use Rattle.std.specs.List.{list_all}
use Rattle.std.proofs.lemmas.Bool.{and_from}
use Rattle.std.proofs.lemmas.List.{length-map}
use Rattle.std.proofs.lemmas.List.Folds.{list_all-append}
use Rattle.std.proofs.lemmas.Option.{same_Some, none-some, slice_get-map}
use Rattle.container_cells.specs.declared.cell.Cell.{Cell}
use Rattle.container_cells.specs.declared.cell.Containers.{Containers}
use Rattle.container_cells.specs.declared.cell.Containers.TheVariants.{Opaque, WithCells}
use Rattle.container_cells.specs.declared.table.Family.{Family}
use Rattle.java_resolver.specs.declared.infos.FieldInfo.{FieldInfo}
use Rattle.core_code.specs.declared.parts.FieldCore.{FieldCore}
use Rattle.core_lowering_rules.specs.Cells.{cell, cells_from, cells_of, content_core, contents, is_container, no_cell}
use Rattle.core_lowering_rules.specs.Programs.{field_core, field_cores}
use Rattle.core_lowering_rules.proofs.FoundElements.{Each}

-- ---- what holds of all fields of a program

pass-by : (test : FieldCore → Bool) (f : FieldInfo) (rest : List FieldInfo) (b : Bool) →
    test (content_core f) ≡ true → list_all test (map content_core rest) ≡ true →
    list_all test (map content_core (cond b (f ∷ rest) rest)) ≡ true
pass-by test f rest true here more = and_from (test (content_core f)) _ here more
pass-by test f rest false here more = more

module _ (test : FieldCore → Bool) (P : FieldInfo → Type 0) where
  fields-pass : ((f : FieldInfo) → P f → test (field_core f) ≡ true) → (fs : List FieldInfo) → Each P fs →
      list_all test (map field_core fs) ≡ true
  fields-pass passes [] all = refl
  fields-pass passes (f ∷ fs) all =
      and_from (test (field_core f)) _ (passes f all.0) (fields-pass passes fs all.1)

  containers-pass : ((f : FieldInfo) → P f → test (content_core f) ≡ true) → (fs : List FieldInfo) → Each P fs →
      list_all test (map content_core (filter is_container fs)) ≡ true
  containers-pass passes [] all = refl
  containers-pass passes (f ∷ fs) all =
      pass-by test f (filter is_container fs) (is_container f) (passes f all.0) (containers-pass passes fs all.1)

  pub contents-pass : ((f : FieldInfo) → P f → test (content_core f) ≡ true) → (containers : Containers) →
      (fs : List FieldInfo) → Each P fs → list_all test (contents containers fs) ≡ true
  contents-pass passes Opaque fs all = refl
  contents-pass passes WithCells fs all = containers-pass passes fs all

  -- what all fields pass by what is known of them, and with them what they hold, the fields of the program pass
  pub all-pass : ((f : FieldInfo) → P f → test (field_core f) ≡ true) →
      ((f : FieldInfo) → P f → test (content_core f) ≡ true) → (containers : Containers) → (fs : List FieldInfo) →
      Each P fs → list_all test (field_cores containers fs) ≡ true
  all-pass passes holds containers fs all =
      list_all-append test (map field_core fs) (contents containers fs)
      ∙ and_from (list_all test (map field_core fs)) _ (fields-pass passes fs all)
      (contents-pass holds containers fs all)

-- ---- where fields stand

get-front : {A : Type 0} (xs ys : List A) (n : ℕ) (x : A) → slice_get xs n ≡ Some x → slice_get (xs ++ ys) n ≡ Some x
get-front [] ys n x e = absurd (none-some _ e)
get-front (y ∷ xs) ys zero x e = e
get-front (y ∷ xs) ys (suc n) x e = get-front xs ys n x e

get-behind : {A : Type 0} (xs ys : List A) (n : ℕ) → slice_get (xs ++ ys) (length xs + n) ≡ slice_get ys n
get-behind [] ys n = let e : 0 + n ≡ n = omega arith in ap (slice_get ys) e
get-behind (x ∷ xs) ys n =
    let e : suc (length xs) + n ≡ suc (length xs + n) = omega arith in
    ap (slice_get (x ∷ xs ++ ys)) e ∙ get-behind xs ys n

-- the number of a field of the folder is that of the field of the program
pub field-there : (containers : Containers) (fs : List FieldInfo) (n : ℕ) (info : FieldInfo) →
    slice_get fs n ≡ Some info → slice_get (field_cores containers fs) n ≡ Some (field_core info)
field-there containers fs n info e =
    get-front (map field_core fs) (contents containers fs) n (field_core info)
    (slice_get-map field_core fs n ∙ ap (option_map field_core) e)

-- the cells of fields that are numbered from n on, of which the first is such a container or none
abbrev cells_by : Option Family → ℕ → List FieldInfo → List (Option Cell)
cells_by o n fs = elim o [
  | None ↦ None ∷ cells_from n fs
  | Some family ↦ Some (cell family n) ∷ cells_from (suc n) fs
]

-- the number of a cell, from n on, is that of its container among all containers
abbrev Counted : ℕ → List FieldInfo → FieldInfo → Cell → Type 0
Counted n containers info c = (k : ℕ) × (c.content.0 ≡ n + k) × (slice_get containers k ≡ Some info)

counted-by : (f : FieldInfo) (fs : List FieldInfo) (info : FieldInfo) (c : Cell) →
    ((m j : ℕ) → slice_get fs j ≡ Some info → slice_get (cells_from m fs) j ≡ Some (Some c) →
    Counted m (filter is_container fs) info c) →
    (o : Option Family) (n i : ℕ) → slice_get (f ∷ fs) i ≡ Some info → slice_get (cells_by o n fs) i ≡ Some (Some c) →
    Counted n (cond (is_some o) (f ∷ filter is_container fs) (filter is_container fs)) info c
counted-by f fs info c more None n zero there e = absurd (none-some _ (same_Some _ _ e))
counted-by f fs info c more None n (suc i) there e = more n i there e
counted-by f fs info c more (Some family) n zero there e =
    let same : cell family n ≡ c = same_Some _ _ (same_Some _ _ e) in
    let number : n ≡ c.content.0 = ap (λ (x : Cell). x.content.0) same in
    (0, omega arith, there)
counted-by f fs info c more (Some family) n (suc i) there e =
    let rest = more (suc n) i there e in
    let number : c.content.0 ≡ suc n + rest.0 = rest.1 in
    (suc rest.0, omega arith, rest.2)

counted : (fs : List FieldInfo) (info : FieldInfo) (c : Cell) (n i : ℕ) → slice_get fs i ≡ Some info →
    slice_get (cells_from n fs) i ≡ Some (Some c) → Counted n (filter is_container fs) info c
counted [] info c n i there e = absurd (none-some _ there)
counted (f ∷ fs) info c n i there e = counted-by f fs info c (counted fs info c) f.family n i there e

-- at the number of a cell is what its container holds
pub content-there : (containers : Containers) (fs : List FieldInfo) (i : ℕ) (info : FieldInfo) (c : Cell) →
    slice_get fs i ≡ Some info → slice_get (cells_of containers fs) i ≡ Some (Some c) →
    slice_get (field_cores containers fs) c.content.0 ≡ Some (content_core info)
content-there Opaque fs i info c there e =
    absurd (none-some _ (same_Some _ _ (sym (slice_get-map no_cell fs i ∙ ap (option_map no_cell) there) ∙ e)))
content-there WithCells fs i info c there e =
    let found = counted fs info c (length fs) i there e in
    let held = map content_core (filter is_container fs) in
    ap (slice_get (map field_core fs ++ held)) (found.1 ∙ ap (λ n. n + found.0) (sym (length-map fs field_core)))
    ∙ get-behind (map field_core fs) held found.0 ∙ slice_get-map content_core (filter is_container fs) found.0
    ∙ ap (option_map content_core) found.2
