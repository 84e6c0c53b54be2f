-- Cells that are copied one after another.
use Rattle.std.proofs.Common.{◌≡◌, Bool, true, false, cond, ◌&&◌, List, [], ◌∷◌, Option, None, Some, refl, sym, ap}
use Rattle.std.proofs.Common.{subst, ◌∙◌}
use Rattle.std.proofs.lemmas.Bool.{eqb-true, and_parts}
use Rattle.std.specs.BTreeMap.{BTreeMap, Updates, get}
use Rattle.std.specs.Cmp.{nat_eq_equiv}
use Rattle.std.specs.List.{All}
use Rattle.std.specs.Map.{lookup}
use Rattle.std.specs.Ordering.{is_eq}
use Rattle.std.proofs.lemmas.List.Elements.{All-head, All-tail}
use Rattle.racer_base.specs.declared.ids.FieldId.{FieldId}
use Rattle.core_semantics.specs.declared.object.Object.{Object}
use Rattle.core_semantics.specs.declared.object.Value.{Value}
use Rattle.core_semantics.specs.declared.store.Cell.{Cell}
use Rattle.core_semantics.specs.CellOrder.{cell_cmp, cell_of}
use Rattle.core_semantics.specs.Same.{equal_of_same, same_object-laws}
use Rattle.core_semantics.proofs.StoredCells.{cell_tied}

abbrev field_in : Cell → FieldId
field_in c = record { 0 = c.field }

cell-symm : (a b : Cell) → is_eq (cell_cmp a b) ≡ is_eq (cell_cmp b a)
cell-symm a b =
    cell_tied a.object b.object (field_in a) (field_in b)
    ∙ (λ i. same_object-laws.symm a.object b.object i && nat_eq_equiv.symm a.field b.field i)
    ∙ sym (cell_tied b.object a.object (field_in b) (field_in a))

cells-equal : (a b : Cell) → is_eq (cell_cmp a b) ≡ true → a ≡ b
cells-equal a b e =
    let both = sym (cell_tied a.object b.object (field_in a) (field_in b)) ∙ e in
    let objects = equal_of_same a.object b.object (and_parts _ _ both).0 in
    let fields : a.field ≡ b.field = eqb-true a.field b.field (and_parts _ _ both).1 in
    (λ i. record { field = fields i; object = objects i })

abbrev or_else : Option Value → Option Value → Option Value
or_else None rest = rest
or_else (Some v) rest = Some v

abbrev left_at : Cell → List (Cell × Value) → Option Value
left_at c left = lookup (λ k. is_eq (cell_cmp c k)) left

abbrev pub IsFoundIn : BTreeMap Cell Value → Cell × Value → Type 0
IsFoundIn all e = get cell_cmp all e.0 ≡ Some e.1

-- what was copied, and what is left, are all cells
pub record DoCopy (made all : BTreeMap Cell Value) (left : List (Cell × Value)) : Type 0 where
  pub same : (c : Cell) → or_else (get cell_cmp made c) (left_at c left) ≡ get cell_cmp all c
  pub found : All (IsFoundIn all) left

pub none-copied : (made all : BTreeMap Cell Value) (left : List (Cell × Value)) → made.entries ≡ [] →
    left ≡ all.entries → All (IsFoundIn all) all.entries → DoCopy made all left
none-copied made all left none whole found =
    record {
      same = λ c. (λ i. or_else (left_at c (none i)) (left_at c (whole i)));
      found = subst (λ (xs : List (Cell × Value)). All (IsFoundIn all) xs) (sym whole) found;
    }

copied-here : (b : Bool) (v : Value) (old rest whole : Option Value) → (b ≡ true → Some v ≡ whole) →
    or_else old (cond b (Some v) rest) ≡ whole → or_else (cond b (Some v) old) rest ≡ whole
copied-here true v old rest whole here e = here refl
copied-here false v old rest whole here e = e

pub one-copied : (old new all : BTreeMap Cell Value) (k : Cell) (v : Value) (left rest : List (Cell × Value)) →
    DoCopy old all left → left ≡ (k, v) ∷ rest → Updates cell_cmp old new k (Some v) → DoCopy new all rest
one-copied old new all k v left rest copy steps updates =
    let found : All (IsFoundIn all) ((k, v) ∷ rest) =
    subst (λ (xs : List (Cell × Value)). All (IsFoundIn all) xs) steps copy.found in
    record {
      same = λ c.
          ap (λ o. or_else o (left_at c rest)) (updates.0 c)
          ∙ copied-here (is_eq (cell_cmp k c)) v (get cell_cmp old c) (left_at c rest) (get cell_cmp all c)
          (λ tied. sym (All-head (IsFoundIn all) (k, v) rest found) ∙ ap (get cell_cmp all) (cells-equal k c tied))
          (ap (λ b. or_else (get cell_cmp old c) (cond b (Some v) (left_at c rest))) (cell-symm k c)
          ∙ ap (λ xs. or_else (get cell_cmp old c) (left_at c xs)) (sym steps)
          ∙ copy.same c);
      found = All-tail (IsFoundIn all) (k, v) rest found;
    }

or-none : (o : Option Value) → o ≡ or_else o None
or-none None = refl
or-none (Some v) = refl

pub all-copied : (made all : BTreeMap Cell Value) (left : List (Cell × Value)) → DoCopy made all left → left ≡ [] →
    ◌≡◌ {A = Object → FieldId → Option Value} (λ o f. get cell_cmp made (cell_of o f))
    (λ o f. get cell_cmp all (cell_of o f))
all-copied made all left copy none = λ i o f. (
    or-none (get cell_cmp made (cell_of o f))
    ∙ ap (λ xs. or_else (get cell_cmp made (cell_of o f)) (left_at (cell_of o f) xs)) (sym none)
    ∙ copy.same (cell_of o f)) i
