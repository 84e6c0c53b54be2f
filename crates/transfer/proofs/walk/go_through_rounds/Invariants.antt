use Rattle.std.proofs.Common.{◌-◌}
use Rattle.access_paths.specs.Table.{GoesOn}
use Rattle.owner_domain.specs.Numbered.{read_state}
use Rattle.core_code.specs.Tree.{tree_of, Loop}
use Rattle.transfer_loops.specs.Rounds.{rounds_of}
use Rattle.transfer_steps.specs.Contexts.{given, flow_in}
use Rattle.transfer.specs.Heights.{IsHighEnough, AreSound}
use Rattle.transfer_steps.specs.Numbered.{read_found, read_heads, AreHeadsInRange, IsFlowOf}
use Rattle.transfer.proofs.Ways.{AreRounds}
use Rattle.transfer.proofs.walk.go_through_rounds.Given as goal

abbrev pub invariant-loop-round : goal.invariant-loop-round
invariant-loop-round l =
    let old = l.fn.notes in
    let now = l.notes in
    let start = read_state old.table l.fn.state in
    let here = read_state now.table l.state in
    record {
      rounds : AreRounds (flow_in l.context (tree_of l.body)) (rounds_of start) (rounds_of start - l.round) start here
          (read_found old.table old.found) (read_found now.table now.found);
      high : IsHighEnough (Loop (tree_of l.body)) here;
      sound : AreSound (given l.context) (tree_of l.body) l.context.locked (read_heads now.table l.heads.items) here;
      numbers : IsFlowOf now.table l.state now.found;
      heads : AreHeadsInRange now.table l.heads.items;
      on : GoesOn old.table now.table;
    }
