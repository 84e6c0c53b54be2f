use Rattle.std.proofs.Common.{◌≡◌, ◌+◌, ◌*◌, drop, length}
use denote.Param.Weighed.{most}
use Rattle.std.specs.Cmp.Lexicographic.{pointwise}
use Rattle.core_code.specs.declared.code.Code.{size-Code}
use Rattle.core_code.specs.Program.{core}
use Rattle.transfer_ties.proofs.Layers.{same_part}
use Rattle.transfer_ties.proofs.codes.+same.Given as goal

abbrev pub invariant-same_parts-loop-old : goal.invariant-same_parts-loop-old
invariant-same_parts-loop-old l =
    let seen = length l.yielded in
    let same = same_part (core l.both.older.now) (core l.both.newer.now) in
    pointwise same (drop seen l.olds) (drop seen l.news) ≡ pointwise same l.olds l.news

abbrev pub decreases-same_code : goal.decreases-same_code
decreases-same_code l = 2 * size-Code l.old.now

abbrev pub decreases-same_parts : goal.decreases-same_parts
decreases-same_parts l = 2 * most size-Code l.olds.now + 1
