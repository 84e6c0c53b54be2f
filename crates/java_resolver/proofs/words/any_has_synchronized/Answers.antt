use Rattle.std.proofs.Common.{sym, ◌∙◌}
use Rattle.java_resolver.specs.Declarations.{has_synchronized}
use Rattle.java_resolver.proofs.Searches.{passed, found, missed}
use Rattle.java_resolver.proofs.words.any_has_synchronized.Goals as goal

pub loop-member-preserved : goal.loop-member-preserved
loop-member-preserved c =
    passed has_synchronized c.args.members.now c.loop-member.member-index c.member-item.result
    c.loop-member-test.true c.member-item.is (sym c.has_synchronized.ensures ∙ c.if-has_synchronized.false)
    c.loop-member.invariant

pub returns-then-has_synchronized : goal.returns-then-has_synchronized
returns-then-has_synchronized c =
    found has_synchronized c.args.members.now c.loop-member.member-index c.member-item.result
    c.loop-member-test.true c.member-item.is (sym c.has_synchronized.ensures ∙ c.if-has_synchronized.true)
    c.loop-member.invariant

pub returns : goal.returns
returns c =
    missed has_synchronized c.args.members.now c.loop-member.member-index c.loop-member-test.false
    c.loop-member.invariant
