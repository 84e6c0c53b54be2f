use Rattle.witness_build_laws.proofs.RowsOfMarks.{mark-row, row-mark}
use Rattle.witness_build_laws.proofs.table_laws.each_mark_has_its_row.Goals as goal

pub returns-clause-row : goal.returns-clause-row
returns-clause-row c = mark-row

pub returns-clause-only : goal.returns-clause-only
returns-clause-only c = row-mark
