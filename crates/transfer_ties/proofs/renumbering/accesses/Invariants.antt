use Rattle.std.proofs.Common.{◌≡◌, Some, map, take}
use Rattle.transfer_ties.specs.Partners.{all_given, access_in}
use Rattle.transfer_ties.proofs.renumbering.accesses.Given as goal

abbrev pub invariant-loop-one : goal.invariant-loop-one
invariant-loop-one l = all_given (map (access_in l.ties) (take l.one-index l.one-items)) ≡ Some l.made.items
