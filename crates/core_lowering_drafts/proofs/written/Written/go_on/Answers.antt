use Rattle.std.proofs.Common.{refl}
use Rattle.core_lowering_drafts.specs.Written.{code_of, room_of}
use Rattle.core_lowering_drafts.proofs.written.Written.go_on.Goals as goal

pub returns-clause-code : goal.returns-clause-code
unfolding code_of
returns-clause-code c = refl

pub returns-clause-room : goal.returns-clause-room
unfolding room_of
returns-clause-room c = refl
