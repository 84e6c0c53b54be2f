use Rattle.std.proofs.Common.{sym, ◌∙◌}
use Rattle.java_resolver.specs.Declarations.{member_is_constructor}
use Rattle.java_resolver.proofs.Searches.{passed, found, missed}
use Rattle.java_resolver.proofs.methods.any_is_constructor.Goals as goal

pub loop-member-preserved : goal.loop-member-preserved
loop-member-preserved c =
    passed member_is_constructor c.args.members.now c.loop-member.member-index c.member-item.result
    c.loop-member-test.true c.member-item.is (sym c.member_is_constructor.ensures ∙ c.if-member_is_constructor.false)
    c.loop-member.invariant

pub returns-then-member_is_constructor : goal.returns-then-member_is_constructor
returns-then-member_is_constructor c =
    found member_is_constructor c.args.members.now c.loop-member.member-index c.member-item.result
    c.loop-member-test.true c.member-item.is (sym c.member_is_constructor.ensures ∙ c.if-member_is_constructor.true)
    c.loop-member.invariant

pub returns : goal.returns
returns c =
    missed member_is_constructor c.args.members.now c.loop-member.member-index c.loop-member-test.false
    c.loop-member.invariant
