use Rattle.std.proofs.Common.{not, sym, ap}
use Rattle.owner_domain.specs.SameNumber.{same_number-itself}
use Rattle.owner_domain.proofs.meeting.meet_value.Goals as goal

pub returns-then-eq-clause-changed : goal.returns-then-eq-clause-changed
returns-then-eq-clause-changed c = sym (ap not (same_number-itself c.args.mine.now))
