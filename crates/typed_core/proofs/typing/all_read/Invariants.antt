use Rattle.typed_core.proofs.Answering.{AreReadTo}
use Rattle.typed_core.proofs.typing.all_read.Given as goal

abbrev pub invariant-loop-number : goal.invariant-loop-number
invariant-loop-number l = AreReadTo l.count l.reached l.all l.number l.flags.items
