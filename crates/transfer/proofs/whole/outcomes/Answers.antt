use Rattle.std.proofs.Common.{length, sym, subst}
use Rattle.std.specs.Arc.{arc_value}
use Rattle.core_code.specs.declared.program.Program.{Program}
use Rattle.core_code.specs.Program.{core}
use Rattle.core_code.specs.CalleeRows.{AreRowsOf}
use Rattle.transfer.specs.Tables.{IsTable}
use Rattle.transfer.proofs.Every.{empty-table}
use Rattle.transfer.proofs.whole.outcomes.Goals as goal

pub gathered-requires : goal.gathered-requires
gathered-requires c =
    let program = core (arc_value c.args.program.now) in
    record {
      rows = subst (λ (p : Program). AreRowsOf (core p) c.in-Ok.rows) c.deref.ensures c.in-Ok.ensures;
      table = subst (IsTable program) (sym c.in-Ok-empty.ensures) (empty-table program (length c.methods.result.now));
    }

pub returns : goal.returns
returns c = c.gathered.ensures
