use Rattle.std.proofs.Common.{◌≡◌, ◌-◌, drop, length}
use Rattle.core_lowering_drafts.specs.Ahead.{closed}
use Rattle.core_lowering_drafts.specs.Rooms.{left_rooms}
use Rattle.core_lowering_drafts.specs.Written.{code_of, room_of}
use Rattle.core_lowering_drafts_code.proofs.only.close.Given as goal

abbrev pub invariant-loop-i : goal.invariant-loop-i
invariant-loop-i l =
    record {
      code : code_of l.written ≡ closed (drop l.i l.marks) (code_of l.fn.written);
      room : room_of l.written ≡ left_rooms (length l.marks - l.i) (room_of l.fn.written);
    }
