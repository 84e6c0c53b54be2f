use Rattle.std.proofs.Common.{refl, rules}
use Rattle.core_lowering_drafts.specs.Written.{code_of, room_of}
use Rattle.core_lowering_drafts.proofs.written.Written.enter.Goals as goal

pub returns-clause-code : goal.returns-clause-code
unfolding code_of
returns-clause-code c = refl

pub returns-clause-room : goal.returns-clause-room
unfolding room_of
returns-clause-room c = search rules

pub returns-in_err-self-clause-room : goal.returns-in_err-self-clause-room
unfolding room_of
returns-in_err-self-clause-room c = search rules
