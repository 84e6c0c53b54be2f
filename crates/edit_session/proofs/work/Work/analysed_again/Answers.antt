use Rattle.std.proofs.Common.{sym, ap, subst}
use Rattle.core_code.specs.Program.{core}
use Rattle.transfer.specs.Callees.{AreCallees}
use Rattle.edit_session.specs.Work.{new_core}
use Rattle.edit_session.proofs.work.Work.analysed_again.Goals as goal

pub analyse-requires-clause-analysed : goal.analyse-requires-clause-analysed
analyse-requires-clause-analysed c = c.requires.analysed

pub analyse-requires-clause-callees : goal.analyse-requires-clause-callees
analyse-requires-clause-callees c =
    subst (AreCallees (new_core c.args.self.now) c.args.method) (sym c.as_slice.ensures.value) c.in_ok-callees.ensures

pub returns : goal.returns
returns c =
    record {
      method = c.in_ok-finished.ensures.method;
      program_is = ap core c.in_ok-finished.ensures.program;
    }
