-- What a store into the map of cells gives.
use Rattle.std.proofs.Common.{◌≡◌, Bool, true, false, cond, ◌&&◌, Some, nat_cmp, refl, sym, ap, ◌∙◌}
use Rattle.std.specs.BTreeMap.{BTreeMap, Updates, get}
use Rattle.std.specs.Cmp.{both_tied, unsigned_ties}
use Rattle.std.specs.Ordering.{is_eq}
use Rattle.racer_base.specs.declared.ids.FieldId.{FieldId}
use Rattle.access_paths.specs.Paths.{same_field}
use Rattle.core_semantics.specs.declared.object.Object.{Object}
use Rattle.core_semantics.specs.declared.object.Value.{Value}
use Rattle.core_semantics.specs.declared.store.Cell.{Cell}
use Rattle.core_semantics.specs.CellOrder.{cell_cmp, cell_of}
use Rattle.core_semantics.specs.Cells.{put_in}
use Rattle.core_semantics.specs.Objects.{same_object}
use Rattle.core_semantics.specs.Order.{object_cmp}
use Rattle.core_semantics.specs.Same.{tied}

-- the order ties the cells of one field of one object
pub cell_tied : (o p : Object) (f g : FieldId) →
    is_eq (cell_cmp (cell_of o f) (cell_of p g)) ≡ (same_object o p && same_field f g)
cell_tied o p f g =
    sym (both_tied (same_field f g) (same_object o p) (nat_cmp f.0 g.0) (object_cmp o p) (unsigned_ties f.0 g.0)
    (sym (tied o p)))
    ∙ either_order (same_field f g) (same_object o p)
  where
    either_order : (a b : Bool) → (a && b) ≡ (b && a)
    either_order true true = refl
    either_order true false = refl
    either_order false true = refl
    either_order false false = refl

pub put_cells : (old new : BTreeMap Cell Value) (o made : Object) (f : FieldId) (v : Value) → made ≡ o →
    Updates cell_cmp old new (cell_of made f) (Some v) →
    (λ p g. get cell_cmp new (cell_of p g)) ≡ put_in (λ p g. get cell_cmp old (cell_of p g)) o f v
put_cells old new o made f v same updates = λ i p g. (
    updates.0 (cell_of p g)
    ∙ ap (λ b. cond b (Some v) (get cell_cmp old (cell_of p g))) (cell_tied made p f g)
    ∙ ap (λ q. cond (same_object q p && same_field f g) (Some v) (get cell_cmp old (cell_of p g))) same) i
