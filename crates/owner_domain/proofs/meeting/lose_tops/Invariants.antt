use Rattle.std.proofs.Common.{◌≡◌, ◌++◌, drop, reverse}
use Rattle.owner_domain.specs.Numbered.{lost_numbers}
use Rattle.owner_domain.proofs.meeting.lose_tops.Given as goal

abbrev pub invariant-loop-slot : goal.invariant-loop-slot
invariant-loop-slot l =
    l.lost.items ++ lost_numbers (drop l.slot (reverse l.mine)) (drop l.slot (reverse l.others)) ≡ l.initial.lost.items
    ++ lost_numbers (reverse l.mine) (reverse l.others)
