use Rattle.std.proofs.Common.{refl, ◌∙◌, arith}
use Rattle.std.specs.List.{flat_map}
use Rattle.java_resolver.specs.Declarations.{class_names, member_methods}
use Rattle.racer_base.proofs.Lists.{at_end, one_turn}
use Rattle.java_resolver.proofs.methods.push_members.Goals as goal

pub loop-member-preserved : goal.loop-member-preserved
loop-member-preserved c =
    let made = member_methods (class_names c.args.classes.now) c.args.class in
    one_turn (flat_map made) made c.args.members.now c.loop-member.member-index c.member-item.result
    c.loop-member.methods.items c.push_member.new.methods.items (λ m ms. refl) c.loop-member-test.true c.member-item.is
    c.in_ok-push_member.ensures
    ∙ c.loop-member.invariant

pub returns : goal.returns
returns c =
    at_end (flat_map (member_methods (class_names c.args.classes.now) c.args.class)) c.args.members.now
    c.loop-member.member-index c.loop-member.methods.items refl (omega (arith, c.loop-member-test.false))
    ∙ c.loop-member.invariant
