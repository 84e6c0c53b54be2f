-- A contract of a public call rests on this: what is seen of kinds of values, of what a method gives and of
-- a folder.
use Rattle.std.specs.Prelude.{List, Option}
use Rattle.container_cells.specs.declared.cell.Cell.{Cell}
use Rattle.core_code.specs.declared.code.Reason.{Reason}
use Rattle.java_resolver.specs.declared.table.Table.{Table}
use Rattle.java_resolver.specs.Table.{classes, fields, methods}
use Rattle.core_lowering_rules.specs.ValueKinds.{ValueKind, Of, Null}
use Rattle.core_lowering_rules.specs.Context.{Folder, Result, Itself, Nothing, Value}
use Rattle.core_lowering_context.specs.declared.value_kind.ValueKind.{ValueKind as CodeKind}
use Rattle.core_lowering_context.specs.declared.value_kind.ValueKind.TheVariants as kinds
use Rattle.core_lowering_context.specs.declared.given.MethodResult.{MethodResult}
use Rattle.core_lowering_context.specs.declared.given.MethodResult.TheVariants as given

abbrev pub value_kind : CodeKind → ValueKind
value_kind (kinds.Of kind) = Of kind
value_kind kinds.Null = Null

abbrev pub given_of : MethodResult → Result
given_of given.Itself = Itself
given_of given.Nothing = Nothing
given_of (given.Value kind) = Value kind

-- with cells beside the fields
abbrev pub folder_of : Table → List (Option Cell) → List (Option Reason) → Folder
folder_of table cells statuses =
    record {
      classes = classes table;
      fields = fields table;
      cells = cells;
      methods = methods table;
      statuses = statuses;
    }
