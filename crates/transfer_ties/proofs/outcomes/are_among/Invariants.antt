use Rattle.std.proofs.Common.{◌≡◌, drop}
use Rattle.std.specs.FinSet as set
use Rattle.std.specs.List.{list_all}
use Rattle.transfer_ties.proofs.outcomes.are_among.Given as goal

abbrev pub invariant-loop-path : goal.invariant-loop-path
invariant-loop-path l =
    list_all (set.contains l.others) (drop l.path-index l.path-items) ≡ list_all (set.contains l.others) l.path-items
