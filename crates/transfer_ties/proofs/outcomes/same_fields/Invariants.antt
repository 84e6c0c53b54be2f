use Rattle.std.proofs.Common.{◌≡◌, drop, length}
use Rattle.transfer_ties.specs.Names.{same_fields}
use Rattle.transfer_ties.proofs.outcomes.same_fields.Given as goal

abbrev pub invariant-loop-old : goal.invariant-loop-old
invariant-loop-old l =
    let seen = length l.yielded in
    same_fields l.ties (drop seen l.olds) (drop seen l.news) ≡ same_fields l.ties l.olds l.news
