use Rattle.std.proofs.Common.{◌≡◌, ◌≤◌, take}
use Rattle.core_lowering_drafts.specs.Drafts.{in_order}
use Rattle.core_lowering_drafts.specs.EndSets.{seen_asked}
use Rattle.core_lowering_drafts.specs.Groups.{fallen}
use Rattle.core_lowering_drafts.specs.Only.{only}
use Rattle.core_lowering_drafts.proofs.groups.reached.Given as goal

abbrev pub invariant-loop-start : goal.invariant-loop-start
invariant-loop-start l =
    record {
      within : l.start.count ≤ l.fn.count;
      code : only (in_order (fallen (take l.start.count l.groups))) (seen_asked l.start.asked)
          ≡ only (in_order (fallen (take l.fn.count l.groups))) (seen_asked l.fn.asked);
    }

abbrev pub decreases-loop-start : goal.decreases-loop-start
decreases-loop-start l = l.start.count
