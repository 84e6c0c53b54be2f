use Rattle.std.proofs.Common.{refl, rules}
use Rattle.core_lowering_drafts.specs.Written.{code_of, room_of}
use Rattle.core_lowering_drafts.proofs.written.Written.limit.Goals as goal

pub returns-clause-code : goal.returns-clause-code
unfolding code_of
returns-clause-code c = refl

pub returns-clause-room : goal.returns-clause-room
unfolding room_of
returns-clause-room c = search rules

pub returns-clause-before : goal.returns-clause-before
unfolding room_of
returns-clause-before c = search rules
