use Rattle.std.proofs.Common.{◌≡◌, ◌+◌, ◌*◌, map, drop, max}
use denote.Param.Weighed.{most}
use Rattle.java_tree.specs.declared.expressions.Expression.{size-Expression}
use Rattle.core_lowering_rules.specs.Trees.{pack_exprs, pack_inits}
use Rattle.core_lowering_rules.specs.TreesOf.{expr_of, init_of}
use Rattle.core_lowering_rules.specs.Sought as wanted
use Rattle.core_lowering_locks.specs.Seen.{sought_seen}
use Rattle.core_lowering_locks.proofs.sought_values.+sought_values.Given as goal

-- it depends on what is left
abbrev pub invariant-do_exprs_stand-loop-e : goal.invariant-do_exprs_stand-loop-e
invariant-do_exprs_stand-loop-e l =
    wanted.do_exprs_stand (sought_seen l.sought) (pack_exprs (map expr_of (drop l.e-index l.all)))
    ≡ wanted.do_exprs_stand (sought_seen l.sought) (pack_exprs (map expr_of l.all))

abbrev pub invariant-do_inits_stand-loop-item : goal.invariant-do_inits_stand-loop-item
invariant-do_inits_stand-loop-item l =
    wanted.do_items_stand (sought_seen l.sought) (pack_inits (map init_of (drop l.item-index l.items)))
    ≡ wanted.do_items_stand (sought_seen l.sought) (pack_inits (map init_of l.items))

abbrev pub decreases-does_stand : goal.decreases-does_stand
decreases-does_stand l = 4 * goal.size-does_stand l + 0

abbrev pub decreases-does_left_stand : goal.decreases-does_left_stand
decreases-does_left_stand l = 4 * goal.size-does_left_stand l + 0

abbrev pub decreases-do_exprs_stand : goal.decreases-do_exprs_stand
decreases-do_exprs_stand l = 4 * goal.size-do_exprs_stand l + 2

abbrev pub decreases-does_init_stand : goal.decreases-does_init_stand
decreases-does_init_stand l = 4 * goal.size-does_init_stand l + 1

abbrev pub decreases-do_inits_stand : goal.decreases-do_inits_stand
decreases-do_inits_stand l = 4 * goal.size-do_inits_stand l + 2

abbrev pub decreases-do_items_stand : goal.decreases-do_items_stand
decreases-do_items_stand l = 4 * goal.size-do_items_stand l + 1

abbrev pub decreases-does_assignment_stand : goal.decreases-does_assignment_stand
decreases-does_assignment_stand l = 4 * (max (size-Expression l.a.now) (size-Expression l.b.now)) + 3

abbrev pub decreases-does_either_stand : goal.decreases-does_either_stand
decreases-does_either_stand l = 4 * (max (size-Expression l.a.now) (size-Expression l.b.now)) + 3

abbrev pub decreases-does_call_on_stand : goal.decreases-does_call_on_stand
decreases-does_call_on_stand l = 4 * (max (size-Expression l.e.now) (most size-Expression l.all.now)) + 3

abbrev pub decreases-does_referred_stand : goal.decreases-does_referred_stand
decreases-does_referred_stand l = 4 * goal.size-does_referred_stand l + 1

abbrev pub decreases-does_call_stand : goal.decreases-does_call_stand
decreases-does_call_stand l = 4 * goal.size-does_call_stand l + 0

abbrev pub decreases-does_new_stand : goal.decreases-does_new_stand
decreases-does_new_stand l = 4 * goal.size-does_new_stand l + 0
