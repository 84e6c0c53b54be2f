use Rattle.std.proofs.Common.{◌≡◌, drop, length}
use Rattle.transfer_ties.specs.Names.{same_kinds}
use Rattle.transfer_ties.proofs.kinds.same_kinds.Given as goal

abbrev pub invariant-loop-old : goal.invariant-loop-old
invariant-loop-old l =
    let seen = length l.yielded in
    same_kinds l.classes (drop seen l.olds) (drop seen l.news) ≡ same_kinds l.classes l.olds l.news
