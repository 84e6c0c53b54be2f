use Rattle.summary_store.proofs.Keeping.{right_of}
use Rattle.summary_store.proofs.locked.Locked.close.Goals as goal

pub returns-clause-right : goal.returns-clause-right
returns-clause-right g c = right_of c.self.invariant.0 c.self.view_is
