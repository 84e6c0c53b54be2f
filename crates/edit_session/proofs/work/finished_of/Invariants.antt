use Rattle.std.proofs.Common.{◌≡◌, ◌++◌, drop, map}
use Rattle.transfer.specs.Tables.{finished_at}
use Rattle.edit_session.specs.Work.{some_of}
use Rattle.edit_session.proofs.work.finished_of.Given as goal

abbrev pub invariant-loop-method : goal.invariant-loop-method
invariant-loop-method l =
    map some_of l.made.items ++ map (finished_at l.table) (drop l.method-index l.methods) ≡
    map (finished_at l.table) l.methods
