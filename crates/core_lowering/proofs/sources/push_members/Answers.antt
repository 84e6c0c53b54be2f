use Rattle.std.proofs.Common.{map, refl}
use Rattle.std.specs.List.{flat_map}
use Rattle.core_lowering.specs.Parts.{part_of, member_parts}
use Rattle.core_lowering.proofs.Loops.{flat_map-step}
use Rattle.racer_base.proofs.Lists.{ended}
use Rattle.core_lowering.proofs.sources.push_members.Goals as goal

pub loop-member-preserved : goal.loop-member-preserved
loop-member-preserved c =
    flat_map-step (member_parts c.args.members.now) c.args.members.now c.loop-member.member-index _
    (map part_of c.loop-member.parts.items) _ _ c.loop-member-test.true c.member-item.is c.in_ok-push_member.ensures
    c.loop-member.invariant

pub returns : goal.returns
returns c =
    ended (flat_map (member_parts c.args.members.now)) c.args.members.now c.loop-member.member-index
    (map part_of c.loop-member.parts.items) _ refl c.loop-member-test.false c.loop-member.invariant
