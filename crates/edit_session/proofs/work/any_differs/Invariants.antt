use Rattle.std.proofs.Common.{◌≡◌, drop}
use Rattle.std.specs.List.{list_any}
use Rattle.edit_session.specs.Work.{flag_at}
use Rattle.edit_session.proofs.work.any_differs.Given as goal

-- none so far is another
abbrev pub invariant-loop-method : goal.invariant-loop-method
invariant-loop-method l =
    list_any (flag_at l.differs) l.methods ≡ list_any (flag_at l.differs) (drop l.method-index l.methods)
