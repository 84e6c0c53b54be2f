use Rattle.std.proofs.Common.{Bool, map, drop}
use Rattle.std.specs.Prelude.{Result}
use Rattle.access_paths.specs.Table.{GoesOn}
use Rattle.owner_domain.specs.declared.value.State.{State}
use Rattle.owner_domain.specs.Numbered.{read_state}
use Rattle.core_code.specs.Tree.{tree_of, in_sequence}
use Rattle.transfer_steps.specs.declared.found.Found.{Found}
use Rattle.transfer_steps.specs.declared.found.Stop.{Stop}
use Rattle.transfer_steps.specs.Contexts.{given, flow_in}
use Rattle.transfer_steps.specs.Noting.{IsWalk}
use Rattle.transfer_steps.specs.Numbered.{read_found}
use Rattle.transfer_steps.specs.Walks.{IsFlow}
use Rattle.transfer.specs.Heights.{IsHighEnough}
use Rattle.transfer.proofs.walk.+codes.Given as goal

-- what is done of the parts that are left, from here on, makes up the whole from the beginning on
abbrev pub invariant-go_through-loop-part : goal.invariant-go_through-loop-part
invariant-go_through-loop-part l =
    let rest = in_sequence (map tree_of (drop l.part-index l.parts)) in
    let all = in_sequence (map tree_of l.parts) in
    let old = l.fn.walk.notes in
    let now = l.walk.notes in
    record {
      high : IsHighEnough rest (read_state now.table l.state);
      leads : (here : State) (new : Found) (r : Result Bool Stop) →
          IsFlow (flow_in l.context rest (read_state now.table l.state)) here (read_found now.table now.found) new r →
          IsFlow (flow_in l.context all (read_state old.table l.fn.state)) here (read_found old.table old.found) new r;
      ready : IsWalk (given l.context) l.walk l.state;
      on : GoesOn old.table now.table;
    }
