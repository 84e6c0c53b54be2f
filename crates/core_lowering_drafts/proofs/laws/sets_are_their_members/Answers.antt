use Rattle.core_lowering_drafts.proofs.SameEnds.{only-alike, onto-alike, meets-alike, meet-same, then-same, within-same}
use Rattle.core_lowering_drafts.proofs.SameEnds.{behind-same}
use Rattle.core_lowering_drafts.proofs.laws.sets_are_their_members.Goals as goal

pub returns-clause-code : goal.returns-clause-code
returns-clause-code c = only-alike

pub returns-clause-onto : goal.returns-clause-onto
returns-clause-onto c = onto-alike

pub returns-clause-met : goal.returns-clause-met
returns-clause-met c = meets-alike

pub returns-clause-do_meet : goal.returns-clause-do_meet
returns-clause-do_meet c = meet-same

pub returns-clause-in_order : goal.returns-clause-in_order
returns-clause-in_order c = then-same

pub returns-clause-within : goal.returns-clause-within
returns-clause-within c = within-same

pub returns-clause-behind : goal.returns-clause-behind
returns-clause-behind c = behind-same
