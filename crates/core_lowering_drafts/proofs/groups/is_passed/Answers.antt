use Rattle.std.proofs.Common.{◌<◌, arith}
use Rattle.core_lowering_drafts.specs.EndSets.{seen, seen_asked}
use Rattle.core_lowering_drafts.proofs.Passed.{read-passed}
use Rattle.core_lowering_drafts.proofs.groups.is_passed.Goals as goal

pub returns-in-Some : goal.returns-in-Some
returns-in-Some c =
    let found = c.in-Some.ensures.lookup in
    let some : 1 < c.args.count = omega (arith, c.if-count-lt2.false) in
    λ h. read-passed c.groups.inside.drafts.items c.args.groups.now c.deref.result.now c.args.count c.in-Some.group.now
    (seen_asked c.args.asked) (seen c.ends.result.now) c.meet.result c.groups.view_is c.deref.ensures.value some
    found.3.0 found.1 c.ends.ensures c.meet.ensures h
