-- A contract of a public call rests on this: touches of what containers hold, in the parts in which they are made.
use Rattle.std.specs.Prelude.{ℕ, ◌++◌, Option, option_and_then, option_map}
use Rattle.container_cells.specs.declared.cell.Cell.{Cell}
use Rattle.container_cells.specs.declared.table.CellTouch.{CellTouch}
use Rattle.container_cells.specs.Table.{touch_of}
use Rattle.racer_base.specs.declared.ids.FieldId.{FieldId}
use Rattle.racer_base.specs.declared.ids.Place.{Place}
use Rattle.java_tree.specs.declared.words.Ident.{Ident}
use Rattle.core_code.specs.declared.code.Op.TheVariants.{Dup, Get, Outside}
use Rattle.core_lowering_rules.specs.Context.{Context, Code, op, op_at}
use Rattle.core_lowering_rules.specs.Touches.{cell_at}
use Rattle.core_lowering_touches.specs.declared.touches.Touched.{Touched}

abbrev pub touched : FieldId → Place → Cell → CellTouch → Touched
touched f name cell touch = record { field = f; name = name; content = cell.content; touch = touch }

-- what a call with so many arguments does to what the container in a field holds, with the place of the field's name
abbrev pub touched_at : FieldId → Place → Ident → ℕ → Cell → Option Touched
touched_at f name x count cell = option_map (touched f name cell) (touch_of cell.family x.text count)

abbrev pub touched_in : Context → FieldId → Place → Ident → ℕ → Option Touched
touched_in context f name x count = option_and_then (touched_at f name x count) (cell_at context f)

-- behind the base, the container above it
abbrev pub fetched : Context → Touched → Code
fetched context t = op context Dup ++ op_at t.name (Get t.field)

-- behind the base, what a container holds, of which nothing is known
abbrev pub looked_over : Context → FieldId → Place → Code
looked_over context content name = op_at name (Get content) ++ op context (Outside 1)
