use Rattle.edit_session.proofs.ByLevel.{IsFilled}
use Rattle.edit_session.proofs.lists.lists_by_level.Given as goal

abbrev pub invariant-loop-number : goal.invariant-loop-number
invariant-loop-number l = IsFilled l.levels l.number l.rows
