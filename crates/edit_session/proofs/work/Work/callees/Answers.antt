use Rattle.std.proofs.Common.{◌≡◌, List, Option, map, sym, ap, subst, ◌∙◌}
use Rattle.racer_base.specs.declared.ids.MethodId.{MethodId}
use Rattle.core_code.specs.CalleeRows.{rows_in, rows_of}
use Rattle.core_code.specs.Chains.{row_of}
use Rattle.core_code.proofs.RowCallees.{row_there}
use Rattle.transfer.specs.Callees.{SharedFinished}
use Rattle.transfer.specs.Tables.{finished_at}
use Rattle.edit_session.specs.Work.{AreFound, new_core, some_of}
use Rattle.edit_session.proofs.Gathering.{callees_there}
use Rattle.edit_session.proofs.Keeping.{row_is}
use Rattle.edit_session.proofs.work.Work.callees.Goals as goal

pub row-requires : goal.row-requires
row-requires c =
    row_there (new_core c.args.self.now) (rows_in c.args.self.now.rows.now) c.args.method c.requires.analysed
    c.requires.right.rows_are.rows_are

pub finished_of-requires : goal.finished_of-requires
finished_of-requires c =
    subst (λ (table : List (Option SharedFinished)). AreFound table c.row.result.now) (sym c.as_slice.ensures.value)
    (subst (AreFound c.args.self.now.finished.items) (sym c.row.ensures) c.requires.callees)

pub returns : goal.returns
returns c =
    let q = new_core c.args.self.now in
    let m = c.args.method in
    let row = row_of (rows_of q) m in
    let same : c.row.result.now ≡ row = c.row.ensures ∙ row_is c.args.self.now m c.requires in
    callees_there q c.args.self.now.finished.items c.requires.right.table m c.in_ok-callees.callees.items
    c.row.result.now c.requires.analysed same
    (c.in_ok-callees.ensures
    ∙ ap (λ (table : List (Option SharedFinished)). map (finished_at table) c.row.result.now) c.as_slice.ensures.value)
