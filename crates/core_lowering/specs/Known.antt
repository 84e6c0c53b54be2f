-- No public contract rests on this: what is known of the methods of units.
use Rattle.std.specs.Prelude.{◌≡◌, List, Option, map}
use Rattle.std.specs.List.{All}
use Rattle.java_tree.specs.declared.unit.Unit.{Unit}
use Rattle.java_resolver.specs.declared.table.Table.{Table}
use Rattle.java_resolver.specs.Declarations.{classes_of, fields_of, methods_of}
use Rattle.java_resolver.specs.Table as seen
use Rattle.core_code.specs.declared.code.Reason.{Reason}
use Rattle.container_cells.specs.declared.cell.Cell.{Cell}
use Rattle.container_cells.specs.declared.cell.Containers.{Containers}
use Rattle.core_lowering_rules.specs.Cells.{cells_of}
use Rattle.core_lowering_rules.specs.Programs.{sources_of}
use Rattle.core_lowering_surveys.specs.declared.surveys.Surveyed.{Surveyed}
use Rattle.core_lowering_surveys.specs.Surveys.{seen as source_seen, IsRight}
use Rattle.core_lowering_surveys.specs.Reasons.{declared_by, own_reason}

-- where containers are this: the table is that of the units, the cells are those of its fields, the sources are those
-- of their methods, and so are their extents and the reasons
pub record IsKnown (containers : Containers) (table : Table) (cells : List (Option Cell)) (units : List Unit)
    (of : List Surveyed) (why : List (Option Reason)) : Type 0 where
  pub classes : seen.classes table ≡ classes_of units
  pub fields : seen.fields table ≡ fields_of units
  pub cells_are : cells ≡ cells_of containers (seen.fields table)
  pub methods : seen.methods table ≡ methods_of units
  pub sources : map source_seen of ≡ sources_of units
  pub extents : All (IsRight table cells) of
  pub reasons : why ≡ map (own_reason (declared_by table cells)) (map source_seen of)
