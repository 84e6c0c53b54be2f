use Rattle.std.proofs.Common.{◌≡◌, map, drop}
use Rattle.core_lowering_drafts.specs.Ahead.{item_of, rest_of, shape, shapes}
use Rattle.core_lowering_drafts.specs.EndSets.{seen_asked}
use Rattle.core_lowering_drafts.proofs.ahead.look_ahead.Given as goal

abbrev pub invariant-loop-i : goal.invariant-loop-i
invariant-loop-i l =
    record {
      ahead : l.ahead.items ≡ shapes (map item_of (drop l.i l.items)) (seen_asked l.asked);
      behind : l.behind ≡ shape (rest_of (map item_of (drop l.i l.items)) (seen_asked l.asked));
    }
