use Rattle.std.proofs.Common.{◌≡◌, take, length}
use Rattle.core_lowering_context.specs.Seen.{FindsAll}
use Rattle.core_lowering_context.proofs.variables.leave.Given as goal

abbrev pub invariant-loop-list : goal.invariant-loop-list
invariant-loop-list l =
    record {
      finds : FindsAll l.by_name l.list.items;
      front : take l.at l.list.items ≡ take l.at l.initial.list.items;
    }

abbrev pub decreases-loop-list : goal.decreases-loop-list
decreases-loop-list l = length l.list.items
