use Rattle.std.proofs.Common.{rules}
use Rattle.core_lowering_drafts.specs.Rooms.{room_behind}
use Rattle.core_lowering_drafts.specs.Written.{code_of, room_of}
use Rattle.core_lowering_drafts.proofs.written.Written.op.Goals as goal

pub returns-clause-code : goal.returns-clause-code
unfolding code_of
returns-clause-code c = c.in_ok-put_op.ensures.code

pub returns-clause-room : goal.returns-clause-room
unfolding room_of room_behind
returns-clause-room c = search rules

pub returns-in_err-self-clause-room : goal.returns-in_err-self-clause-room
unfolding room_of room_behind
returns-in_err-self-clause-room c = search rules
