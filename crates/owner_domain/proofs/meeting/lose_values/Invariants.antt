use Rattle.std.proofs.Common.{◌≡◌, ◌++◌, drop}
use Rattle.owner_domain.specs.Numbered.{lost_numbers}
use Rattle.owner_domain.proofs.meeting.lose_values.Given as goal

abbrev pub invariant-loop-slot : goal.invariant-loop-slot
invariant-loop-slot l =
    l.lost.items ++ lost_numbers (drop l.slot l.mine) (drop l.slot l.others) ≡ l.initial.lost.items ++
    lost_numbers l.mine l.others
