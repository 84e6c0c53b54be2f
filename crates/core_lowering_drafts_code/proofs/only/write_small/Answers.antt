use Rattle.std.proofs.Common.{Ok, rules}
use Rattle.core_lowering_drafts.specs.Drafts.{in_order}
use Rattle.core_lowering_drafts.specs.Only.{all_ends, only}
use Rattle.core_lowering_drafts.specs.Written.{room_of}
use Rattle.core_lowering_drafts.proofs.Rooms.{tells-size}
use Rattle.core_lowering_drafts_code.proofs.only.write_small.Goals as goal

pub returns-in_err-write-clause-size : goal.returns-in_err-write-clause-size
returns-in_err-write-clause-size c =
    tells-size c.args.tokens (only (in_order c.args.draft.now) all_ends) (room_of c.write.new.written)
    c.from_residual.result (search rules)

pub returns-clause-size : goal.returns-clause-size
returns-clause-size c =
    tells-size c.args.tokens (only (in_order c.args.draft.now) all_ends) (room_of c.write.new.written)
    (Ok c.in_ok-write.field-0) (search rules)
