use Rattle.std.proofs.Common.{suc, arith}
use Rattle.core_code.specs.Calls.{rank_of}
use Rattle.core_code.specs.Program.{core}
use Rattle.core_ways.specs.Ways.{trip_of}
use Rattle.core_ways.proofs.AloneMethods.{AreRight, callees-run, calls-pass, code-there, may_call, method-runs}
use Rattle.core_ways.proofs.AloneTo.{runs-to}
use Rattle.core_ways.proofs.laws.parts_run.Goals as goal

pub returns-clause-methods : goal.returns-clause-methods
returns-clause-methods c p m analysed =
    method-runs (core p) (record { ranks = p.ranks_there; calls = p.calls_right; ends = p.ends_by_return })
    (suc (rank_of (core p) m)) m (omega arith) analysed

pub returns-clause-sites : goal.returns-clause-sites
returns-clause-sites c p m method site o is analysed at ends =
    let right : AreRight (core p) = record { ranks = p.ranks_there; calls = p.calls_right; ends = p.ends_by_return } in
    runs-to (core p) (trip_of (core p)) (may_call (core p) m) (callees-run (core p) right m) site o method.code
    (calls-pass (core p) right m method is (code-there (core p) m method is analysed)) at ends
