-- A contract of a public call rests on this: what is seen of the maps in which cells and heaps are kept.
use Rattle.std.specs.Prelude.{Bool, true, Option, None, Some}
use Rattle.std.specs.BTreeMap.{get}
use Rattle.std.specs.BTreeSet.{BTreeSet, contains_by}
use Rattle.std.specs.Ordering.{ordering_then, nat_cmp}
use Rattle.std.specs.declared.cmp.Ordering.{Ordering}
use Rattle.racer_base.specs.declared.ids.FieldId.{FieldId}
use Rattle.core_semantics.specs.declared.object.StartPath.{StartPath}
use Rattle.core_semantics.specs.declared.object.Object.{Object}
use Rattle.core_semantics.specs.declared.object.Object.TheVariants.{Start}
use Rattle.core_semantics.specs.declared.object.Value.{Value}
use Rattle.core_semantics.specs.declared.store.Cell.{Cell}
use Rattle.core_semantics.specs.declared.store.Cells.{Cells}
use Rattle.core_semantics.specs.declared.store.Heap.{Heap}
use Rattle.core_semantics.specs.Order.{object_cmp}

abbrev pub cell_cmp : Cell → Cell → Ordering
cell_cmp c d = ordering_then (nat_cmp c.field d.field) (object_cmp c.object d.object)

abbrev pub cell_of : Object → FieldId → Cell
cell_of o f = record { field = f.0; object = o }

-- what is seen of cells: what each field of an object holds, where something was stored there
abbrev pub cells_of : Cells → Object → FieldId → Option Value
cells_of cells o f = get cell_cmp cells.stored (cell_of o f)

-- whether these objects, or all where there are none, have a start path
abbrev pub is_among : Option (BTreeSet Object) → StartPath → Bool
is_among None p = true
is_among (Some objects) p = contains_by (object_cmp (Start p)) objects

-- what is seen of a heap
abbrev pub heap_of : Heap → StartPath → Bool
heap_of heap p = is_among heap.only p
