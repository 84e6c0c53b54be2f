use Rattle.std.proofs.Common.{◌∙◌}
use Rattle.std.specs.List.{list_any}
use Rattle.core_code.specs.CalleeRows.{rows_in}
use Rattle.core_code.proofs.RowCallees.{row_there}
use Rattle.edit_session.specs.Work.{flag_at, new_core}
use Rattle.edit_session.proofs.work.Work.calls_differ.Goals as goal

pub row-requires : goal.row-requires
row-requires c =
    row_there (new_core c.args.self.now) (rows_in c.args.self.now.rows.now) c.args.method c.requires.analysed
    c.requires.right.rows_are.rows_are

pub returns : goal.returns
returns c =
    c.any_differs.ensures ∙ (λ i. list_any (flag_at (c.as_slice.ensures.value i)) (c.row.ensures i))
