use Rattle.std.proofs.Common.{refl}
use Rattle.std.specs.List.{flat_map}
use Rattle.core_lowering_rules.specs.Methods.{member_begun}
use Rattle.core_lowering_context.specs.Drafts.{code_of}
use Rattle.racer_base.proofs.Lists.{ended, turn}
use Rattle.core_lowering_expressions.proofs.fields.begin_members.Goals as goal

pub loop-member-preserved : goal.loop-member-preserved
loop-member-preserved c =
    let one = member_begun c.args.context.now in
    turn (flat_map one) one c.args.members.now c.loop-member.member-index _ (code_of c.loop-member.draft) _ _
    (λ m ms. refl) c.loop-member-test.true c.member-item.is c.in_ok-begin_member.ensures c.loop-member.invariant

pub returns : goal.returns
returns c =
    ended (flat_map (member_begun c.args.context.now)) c.args.members.now c.loop-member.member-index
    (code_of c.loop-member.draft) _ refl c.loop-member-test.false c.loop-member.invariant
