use Rattle.std.proofs.Common.{◌≡◌, Some, take}
use Rattle.transfer_ties.specs.Partners.{accesses_in}
use Rattle.transfer_ties.proofs.staying.accesses_stay.Given as goal

abbrev pub invariant-loop-access : goal.invariant-loop-access
invariant-loop-access l = accesses_in l.ties (take l.access-index l.accesses) ≡ Some (take l.access-index l.accesses)
