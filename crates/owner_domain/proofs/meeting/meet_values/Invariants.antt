use Rattle.std.proofs.Common.{◌≡◌, ◌≤◌, ◌||◌, length, drop}
use Rattle.owner_domain.specs.Numbered.{joined_numbers}
use Rattle.owner_domain.proofs.MetValues.{made_of, changed_slots}
use Rattle.owner_domain.proofs.meeting.meet_values.Given as goal

abbrev pub invariant-loop-slot : goal.invariant-loop-slot
invariant-loop-slot l =
    record {
      values : made_of l.slot l.mine.items l.others ≡ joined_numbers l.fn.mine.items l.others;
      changed : (l.changed || changed_slots (drop l.slot l.mine.items) (drop l.slot l.others)) ≡
          changed_slots l.fn.mine.items l.others;
      room : length l.mine.items ≤ length l.others;
      end : l.slot-end ≡ length l.mine.items;
    }
