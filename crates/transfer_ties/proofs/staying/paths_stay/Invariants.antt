use Rattle.std.proofs.Common.{◌≡◌, Some, take}
use Rattle.transfer_ties.specs.Partners.{paths_in}
use Rattle.transfer_ties.proofs.staying.paths_stay.Given as goal

abbrev pub invariant-loop-path : goal.invariant-loop-path
invariant-loop-path l = paths_in l.ties (take l.path-index l.paths) ≡ Some (take l.path-index l.paths)
