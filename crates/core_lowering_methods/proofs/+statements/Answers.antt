mod Blocks
mod Loops
mod Switches
mod Tries
use Rattle.core_lowering_methods.proofs.+statements.Goals as goal
use Rattle.core_lowering_methods.proofs.+statements.Answers.Blocks as blocks
use Rattle.core_lowering_methods.proofs.+statements.Answers.Loops as loops
use Rattle.core_lowering_methods.proofs.+statements.Answers.Switches as switches
use Rattle.core_lowering_methods.proofs.+statements.Answers.Tries as tries

pub statements::lower_statements-loop-item-preserved : goal.statements::lower_statements-loop-item-preserved
statements::lower_statements-loop-item-preserved = blocks.statements::lower_statements-loop-item-preserved

pub statements::lower_statements-returns-clause-context : goal.statements::lower_statements-returns-clause-context
statements::lower_statements-returns-clause-context = blocks.statements::lower_statements-returns-clause-context

pub statements::lower_statements-returns-clause-code : goal.statements::lower_statements-returns-clause-code
statements::lower_statements-returns-clause-code = blocks.statements::lower_statements-returns-clause-code

pub statements::lower_if-returns-clause-context : goal.statements::lower_if-returns-clause-context
statements::lower_if-returns-clause-context = blocks.statements::lower_if-returns-clause-context

pub statements::lower_if-returns-clause-code : goal.statements::lower_if-returns-clause-code
statements::lower_if-returns-clause-code = blocks.statements::lower_if-returns-clause-code

pub statements::lower_if_else-returns-clause-context : goal.statements::lower_if_else-returns-clause-context
statements::lower_if_else-returns-clause-context = blocks.statements::lower_if_else-returns-clause-context

pub statements::lower_if_else-returns-clause-code : goal.statements::lower_if_else-returns-clause-code
statements::lower_if_else-returns-clause-code = blocks.statements::lower_if_else-returns-clause-code

pub statements::lower_sync-returns-clause-context : goal.statements::lower_sync-returns-clause-context
statements::lower_sync-returns-clause-context = blocks.statements::lower_sync-returns-clause-context

pub statements::lower_sync-returns-clause-code : goal.statements::lower_sync-returns-clause-code
statements::lower_sync-returns-clause-code = blocks.statements::lower_sync-returns-clause-code

pub statements::lower_block-returns-clause-context : goal.statements::lower_block-returns-clause-context
statements::lower_block-returns-clause-context = blocks.statements::lower_block-returns-clause-context

pub statements::lower_block-returns-clause-code : goal.statements::lower_block-returns-clause-code
statements::lower_block-returns-clause-code = blocks.statements::lower_block-returns-clause-code

pub loops::lower_round-returns-clause-context : goal.loops::lower_round-returns-clause-context
loops::lower_round-returns-clause-context = loops.loops::lower_round-returns-clause-context

pub loops::lower_round-returns-clause-code : goal.loops::lower_round-returns-clause-code
loops::lower_round-returns-clause-code = loops.loops::lower_round-returns-clause-code

pub loops::lower_round-returns-clause-exit : goal.loops::lower_round-returns-clause-exit
loops::lower_round-returns-clause-exit = loops.loops::lower_round-returns-clause-exit

pub loops::lower_round-returns-clause-has_break : goal.loops::lower_round-returns-clause-has_break
loops::lower_round-returns-clause-has_break = loops.loops::lower_round-returns-clause-has_break

pub loops::lower_while-returns-clause-context : goal.loops::lower_while-returns-clause-context
loops::lower_while-returns-clause-context = loops.loops::lower_while-returns-clause-context

pub loops::lower_while-returns-clause-code : goal.loops::lower_while-returns-clause-code
loops::lower_while-returns-clause-code = loops.loops::lower_while-returns-clause-code

pub loops::lower_do-returns-clause-context : goal.loops::lower_do-returns-clause-context
loops::lower_do-returns-clause-context = loops.loops::lower_do-returns-clause-context

pub loops::lower_do-returns-clause-code : goal.loops::lower_do-returns-clause-code
loops::lower_do-returns-clause-code = loops.loops::lower_do-returns-clause-code

pub loops::lower_for-returns-clause-context : goal.loops::lower_for-returns-clause-context
loops::lower_for-returns-clause-context = loops.loops::lower_for-returns-clause-context

pub loops::lower_for-returns-clause-code : goal.loops::lower_for-returns-clause-code
loops::lower_for-returns-clause-code = loops.loops::lower_for-returns-clause-code

pub loops::lower_elements-returns-clause-context : goal.loops::lower_elements-returns-clause-context
loops::lower_elements-returns-clause-context = loops.loops::lower_elements-returns-clause-context

pub loops::lower_elements-returns-clause-code : goal.loops::lower_elements-returns-clause-code
loops::lower_elements-returns-clause-code = loops.loops::lower_elements-returns-clause-code

pub loops::lower_for_each-returns-clause-context : goal.loops::lower_for_each-returns-clause-context
loops::lower_for_each-returns-clause-context = loops.loops::lower_for_each-returns-clause-context

pub loops::lower_for_each-returns-clause-code : goal.loops::lower_for_each-returns-clause-code
loops::lower_for_each-returns-clause-code = loops.loops::lower_for_each-returns-clause-code

pub loops::lower_named-returns-clause-context : goal.loops::lower_named-returns-clause-context
loops::lower_named-returns-clause-context = loops.loops::lower_named-returns-clause-context

pub loops::lower_named-returns-clause-code : goal.loops::lower_named-returns-clause-code
loops::lower_named-returns-clause-code = loops.loops::lower_named-returns-clause-code

pub switches::lower_group-returns-clause-context : goal.switches::lower_group-returns-clause-context
switches::lower_group-returns-clause-context = switches.switches::lower_group-returns-clause-context

pub switches::lower_group-returns-clause-kept : goal.switches::lower_group-returns-clause-kept
switches::lower_group-returns-clause-kept = switches.switches::lower_group-returns-clause-kept

pub switches::lower_group-returns-clause-made : goal.switches::lower_group-returns-clause-made
switches::lower_group-returns-clause-made = switches.switches::lower_group-returns-clause-made

pub switches::lower_groups-loop-group-preserved : goal.switches::lower_groups-loop-group-preserved
switches::lower_groups-loop-group-preserved = switches.switches::lower_groups-loop-group-preserved

pub switches::lower_groups-returns-clause-context : goal.switches::lower_groups-returns-clause-context
switches::lower_groups-returns-clause-context = switches.switches::lower_groups-returns-clause-context

pub switches::lower_groups-returns-clause-kept : goal.switches::lower_groups-returns-clause-kept
switches::lower_groups-returns-clause-kept = switches.switches::lower_groups-returns-clause-kept

pub switches::lower_groups-returns-clause-made : goal.switches::lower_groups-returns-clause-made
switches::lower_groups-returns-clause-made = switches.switches::lower_groups-returns-clause-made

pub switches::lower_switch-returns-clause-context : goal.switches::lower_switch-returns-clause-context
switches::lower_switch-returns-clause-context = switches.switches::lower_switch-returns-clause-context

pub switches::lower_switch-returns-clause-code : goal.switches::lower_switch-returns-clause-code
switches::lower_switch-returns-clause-code = switches.switches::lower_switch-returns-clause-code

pub tries::lower_first-returns-clause-context : goal.tries::lower_first-returns-clause-context
tries::lower_first-returns-clause-context = tries.tries::lower_first-returns-clause-context

pub tries::lower_first-returns-clause-code : goal.tries::lower_first-returns-clause-code
tries::lower_first-returns-clause-code = tries.tries::lower_first-returns-clause-code

pub tries::lower_finally-returns-clause-context : goal.tries::lower_finally-returns-clause-context
tries::lower_finally-returns-clause-context = tries.tries::lower_finally-returns-clause-context

pub tries::lower_finally-returns-clause-code : goal.tries::lower_finally-returns-clause-code
tries::lower_finally-returns-clause-code = tries.tries::lower_finally-returns-clause-code

pub tries::lower_finally-returns-in_err-exit-clause-context :
    goal.tries::lower_finally-returns-in_err-exit-clause-context
tries::lower_finally-returns-in_err-exit-clause-context = tries.tries::lower_finally-returns-in_err-exit-clause-context

pub tries::lower_finally-returns-in_err-lower_first-clause-context :
    goal.tries::lower_finally-returns-in_err-lower_first-clause-context
tries::lower_finally-returns-in_err-lower_first-clause-context =
    tries.tries::lower_finally-returns-in_err-lower_first-clause-context

pub tries::lower_finally-returns-in_err-pass_clauses-clause-context :
    goal.tries::lower_finally-returns-in_err-pass_clauses-clause-context
tries::lower_finally-returns-in_err-pass_clauses-clause-context =
    tries.tries::lower_finally-returns-in_err-pass_clauses-clause-context

pub tries::lower_finally-returns-in_err-lower_block-clause-context :
    goal.tries::lower_finally-returns-in_err-lower_block-clause-context
tries::lower_finally-returns-in_err-lower_block-clause-context =
    tries.tries::lower_finally-returns-in_err-lower_block-clause-context

pub tries::lower_try-returns-in-Some-clause-context : goal.tries::lower_try-returns-in-Some-clause-context
tries::lower_try-returns-in-Some-clause-context = tries.tries::lower_try-returns-in-Some-clause-context

pub tries::lower_try-returns-in-Some-clause-code : goal.tries::lower_try-returns-in-Some-clause-code
tries::lower_try-returns-in-Some-clause-code = tries.tries::lower_try-returns-in-Some-clause-code

pub tries::lower_try-returns-in_ok-lower_first-in-None-clause-context :
    goal.tries::lower_try-returns-in_ok-lower_first-in-None-clause-context
tries::lower_try-returns-in_ok-lower_first-in-None-clause-context =
    tries.tries::lower_try-returns-in_ok-lower_first-in-None-clause-context

pub tries::lower_try-returns-in_ok-lower_first-in-None-clause-code :
    goal.tries::lower_try-returns-in_ok-lower_first-in-None-clause-code
tries::lower_try-returns-in_ok-lower_first-in-None-clause-code =
    tries.tries::lower_try-returns-in_ok-lower_first-in-None-clause-code

pub tries::lower_locked-lower_block-requires : goal.tries::lower_locked-lower_block-requires
tries::lower_locked-lower_block-requires = tries.tries::lower_locked-lower_block-requires

pub tries::lower_locked-pass_clauses-requires : goal.tries::lower_locked-pass_clauses-requires
tries::lower_locked-pass_clauses-requires = tries.tries::lower_locked-pass_clauses-requires

pub tries::lower_locked-returns-clause-context : goal.tries::lower_locked-returns-clause-context
tries::lower_locked-returns-clause-context = tries.tries::lower_locked-returns-clause-context

pub tries::lower_locked-returns-clause-code : goal.tries::lower_locked-returns-clause-code
tries::lower_locked-returns-clause-code = tries.tries::lower_locked-returns-clause-code

pub tries::pass_clauses-loop-clause-preserved : goal.tries::pass_clauses-loop-clause-preserved
tries::pass_clauses-loop-clause-preserved = tries.tries::pass_clauses-loop-clause-preserved

pub tries::pass_clauses-returns-clause-context : goal.tries::pass_clauses-returns-clause-context
tries::pass_clauses-returns-clause-context = tries.tries::pass_clauses-returns-clause-context

pub tries::pass_clause-returns-clause-kept : goal.tries::pass_clause-returns-clause-kept
tries::pass_clause-returns-clause-kept = tries.tries::pass_clause-returns-clause-kept

pub tries::pass_clause-returns-clause-context : goal.tries::pass_clause-returns-clause-context
tries::pass_clause-returns-clause-context = tries.tries::pass_clause-returns-clause-context
