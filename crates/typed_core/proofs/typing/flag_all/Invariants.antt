use Rattle.std.proofs.Common.{take}
use Rattle.typed_core.specs.Reaching.{AreFlagged}
use Rattle.typed_core.proofs.typing.flag_all.Given as goal

abbrev pub invariant-loop-class : goal.invariant-loop-class
invariant-loop-class l = AreFlagged (take l.class-index l.classes) l.fn.flags l.flags
