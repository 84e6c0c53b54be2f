use Rattle.std.proofs.Common.{◌≡◌, ◌≤◌, ◌||◌, length, drop}
use Rattle.typed_core.specs.States.{joined_kinds}
use Rattle.typed_core.proofs.MetKinds.{made_of, changed_places}
use Rattle.typed_core.proofs.states.meet_kinds.Given as goal

abbrev pub invariant-loop-slot : goal.invariant-loop-slot
invariant-loop-slot l =
    record {
      kinds : made_of l.slot l.mine.items l.others ≡ joined_kinds l.fn.mine.items l.others;
      changed : (l.changed || changed_places (drop l.slot l.mine.items) (drop l.slot l.others)) ≡
          changed_places l.fn.mine.items l.others;
      room : length l.mine.items ≤ length l.others;
      end : l.slot-end ≡ length l.mine.items;
    }
