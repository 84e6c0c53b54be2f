use Rattle.std.proofs.Common.{refl}
use Rattle.std.specs.List.{flat_map}
use Rattle.core_lowering_rules.specs.Programs.{skipped_member}
use Rattle.core_lowering.proofs.Loops.{flat_map-step}
use Rattle.racer_base.proofs.Lists.{ended}
use Rattle.core_lowering.proofs.skipped.push_members.Goals as goal

pub loop-member-preserved : goal.loop-member-preserved
loop-member-preserved c =
    flat_map-step skipped_member c.args.members.now c.loop-member.member-index _ c.loop-member.places.items _ _
    c.loop-member-test.true c.member-item.is c.in_ok-push_member.ensures c.loop-member.invariant

pub returns : goal.returns
returns c =
    ended (flat_map skipped_member) c.args.members.now c.loop-member.member-index c.loop-member.places.items _ refl
    c.loop-member-test.false c.loop-member.invariant
