use Rattle.std.proofs.Common.{map}
use Rattle.core_code.specs.Core.{method_of}
use Rattle.typed_core.proofs.Entries.{AreEntering}
use Rattle.typed_core.proofs.reaching.entries.Given as goal

abbrev pub invariant-loop-number : goal.invariant-loop-number
invariant-loop-number l = AreEntering l.class (map method_of l.methods) l.number l.reach
