use Rattle.std.proofs.Common.{◌≡◌, ◌-◌, ◌≤◌, ◌++◌}
use Rattle.core_code.specs.Program.{core}
use Rattle.witness_build_walks.specs.Walks.{IsWalk}
use Rattle.witness_build_walks.proofs.trunk.walk_up_to.Given as goal

-- it is a walk, and with the turns that are left its turns are those of the leg
abbrev pub invariant-loop-walk : goal.invariant-loop-walk
invariant-loop-walk l =
    record {
      walk : IsWalk (core l.program) l.walk;
      turns : l.walk.turns.items ++ l.rest ≡ l.leg.turns;
      steps : l.walk.steps ≤ l.leg.steps;
      thread : l.walk.thread ≡ l.fn.walk.thread;
      method : l.walk.method ≡ l.fn.walk.method;
    }

abbrev pub decreases-loop-walk : goal.decreases-loop-walk
decreases-loop-walk l = l.leg.steps - l.walk.steps
