use Rattle.std.proofs.Common.{length}
use Rattle.core_lowering_parts.proofs.groups.+fork.Given as goal

abbrev pub decreases-forked : goal.decreases-forked
decreases-forked l = length l.options.items
