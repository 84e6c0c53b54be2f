use Rattle.std.proofs.Common.{◌≡◌, drop, length}
use Rattle.transfer_ties.specs.Names.{same_records}
use Rattle.transfer_ties.proofs.outcomes.same_records.Given as goal

abbrev pub invariant-loop-old : goal.invariant-loop-old
invariant-loop-old l =
    let seen = length l.yielded in
    same_records l.ties (drop seen l.olds) (drop seen l.news) ≡ same_records l.ties l.olds l.news
