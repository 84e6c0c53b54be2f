use Rattle.std.proofs.Common.{refl}
use Rattle.summary_store.proofs.moves.rouse.Goals as goal

pub returns-then-list_of-eq-IDLE : goal.returns-then-list_of-eq-IDLE
returns-then-list_of-eq-IDLE c = record {
  list = c.list_of.result;
  there = c.list_of.ensures;
  idle = λ e. c.move_to.ensures;
  others = λ e. absurd (e c.if-list_of-eq-IDLE.true);
}

pub returns-else-list_of-eq-IDLE : goal.returns-else-list_of-eq-IDLE
returns-else-list_of-eq-IDLE c = record {
  list = c.list_of.result;
  there = c.list_of.ensures;
  idle = λ e. absurd (c.if-list_of-eq-IDLE.false e);
  others = λ e. refl;
}
