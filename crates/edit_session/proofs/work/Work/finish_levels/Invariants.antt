use Rattle.edit_session.proofs.Through.{IsGoing}
use Rattle.edit_session.proofs.work.Work.finish_levels.Given as goal

abbrev pub invariant-loop-level : goal.invariant-loop-level
invariant-loop-level l = IsGoing l.initial.self l.levels l.level l.self l.lists
