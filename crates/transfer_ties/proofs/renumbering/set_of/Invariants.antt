use Rattle.std.proofs.Common.{◌≡◌, Some, take}
use Rattle.transfer_ties.specs.Names.{set_of}
use Rattle.transfer_ties.proofs.renumbering.set_of.Given as goal

abbrev pub invariant-loop-one : goal.invariant-loop-one
invariant-loop-one l = set_of l.ties (take l.one-index l.paths) ≡ Some l.made
