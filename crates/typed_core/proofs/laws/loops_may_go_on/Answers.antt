use Rattle.typed_core.proofs.Heads.{sound-first, sound-above}
use Rattle.typed_core.proofs.Resumed.{resumed-exact}
use Rattle.typed_core.proofs.laws.loops_may_go_on.Goals as goal

pub returns-clause-first : goal.returns-clause-first
returns-clause-first c = sound-first

pub returns-clause-exact : goal.returns-clause-exact
returns-clause-exact c = resumed-exact

pub returns-clause-later : goal.returns-clause-later
returns-clause-later c = sound-above
