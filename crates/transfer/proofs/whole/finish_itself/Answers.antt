use Rattle.std.proofs.Common.{ap, sym, subst}
use Rattle.std.specs.Arc.{arc_value}
use Rattle.core_code.specs.Program.{core}
use Rattle.transfer.specs.Tables.{IsFinished, IsTable}
use Rattle.transfer.proofs.Every.{kept-table}
use Rattle.transfer.proofs.whole.finish_itself.Goals as goal

pub returns : goal.returns
returns c =
    let program = core (arc_value c.args.program.now) in
    let m = c.args.method in
    let made = c.in_ok-analyse in
    let kept = c.in_ok-clone.field-0 in
    let finished : IsFinished program m made.field-0 =
    record { method = made.ensures.method; program_is = ap core made.ensures.program } in
    let held : IsFinished program m (arc_value c.in_ok-finished.finished) =
    subst (IsFinished program m) (sym c.in_ok-finished.ensures.ok) finished in
    record {
      made = held;
      table = subst (IsTable program) (sym c.keep.ensures)
          (kept-table program c.args.table.now.items m kept c.requires.table
          (subst (IsFinished program m) (sym c.in_ok-clone.ensures.cases) held));
    }
