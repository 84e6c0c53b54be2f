-- A contract of a public call rests on this: what calls on container fields, and loops over them, do to what these hold.
use Rattle.std.specs.Prelude.{ℕ, suc, ◌++◌, Option, None, option_and_then, option_map, slice_get}
use Rattle.container_cells.specs.declared.cell.Cell.{Cell}
use Rattle.container_cells.specs.declared.table.CellTouch.{CellTouch}
use Rattle.container_cells.specs.declared.table.CellTouch.TheVariants.{Look, Change}
use Rattle.container_cells.specs.Table.{touch_of}
use Rattle.racer_base.specs.declared.ids.FieldId.{FieldId}
use Rattle.racer_base.specs.declared.ids.Place.{Place}
use Rattle.java_tree.specs.declared.words.Ident.{Ident}
use Rattle.core_code.specs.declared.code.Op.TheVariants.{Dup, Drop, Get, Put, Outside}
use Rattle.core_lowering_rules.specs.Context.{Context, Code, op, op_at}
use Rattle.core_lowering_rules.specs.Assignments.{Storage, InVariable, InField, Elsewhere}

-- ---- containers

-- a container field, with the place of its name, the code of its base, and its cell
pub record Container : Type 0 where
  pub field : FieldId
  pub name : Place
  pub base : Code
  pub cell : Cell

abbrev pub cell_at : Context → FieldId → Option Cell
cell_at context f = option_and_then (λ (cell : Option Cell). cell) (slice_get context.folder.cells f.0)

-- that which something is stored in
abbrev pub container_in : Context → Storage → Option Container
container_in context (InVariable v kind) = None
container_in context (InField f kind name base) =
    option_map (λ cell. record { field = f; name = name; base = base; cell = cell }) (cell_at context f)
container_in context (Elsewhere n operands) = None

-- ---- calls

-- what a call with so many arguments does to what a container holds
pub record Touched : Type 0 where
  pub container : Container
  pub touch : CellTouch

abbrev pub touched_by : Ident → ℕ → Container → Option Touched
touched_by x count container =
    option_map (λ touch. record { container = container; touch = touch })
    (touch_of container.cell.family x.text count)

abbrev pub touched_in : Context → Storage → Ident → ℕ → Option Touched
touched_in context storage x count = option_and_then (touched_by x count) (container_in context storage)

-- the container, which stays below itself
abbrev pub fetched : Context → Container → Code
fetched context c = c.base ++ op context Dup ++ op_at c.name (Get c.field)

-- behind what the call gives, of which nothing is known: it is put into the cell, or what is there is looked at
abbrev pub touch : Context → Place → FieldId → CellTouch → Code
touch context place content Change = op_at place (Put content)
touch context place content Look = op context Drop ++ op_at place (Get content) ++ op context (Outside 1)

-- the call, at the place of its name, with the code of so many arguments
abbrev pub touching_call : Context → Place → Touched → ℕ → (arguments : Code) → Code
touching_call context place t count arguments =
    fetched context t.container ++ arguments ++ op context (Outside (suc count))
    ++ touch context place t.container.cell.content t.touch

-- ---- loops

-- what a container holds, looked at by a `for` over it
abbrev pub looked_over : Context → Container → Code
looked_over context c = c.base ++ op_at c.name (Get c.cell.content) ++ op context (Outside 1)
