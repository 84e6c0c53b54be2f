use Rattle.std.proofs.Common.{sym}
use Rattle.java_resolver.proofs.SecondOnes.{none_added}
use Rattle.java_resolver.proofs.with_any.add_second.Goals as goal

pub add_behind-requires : goal.add_behind-requires
add_behind-requires c = c.if-method.true

pub returns-then-method : goal.returns-then-method
returns-then-method c = c.add_behind.ensures

pub returns : goal.returns
returns c = none_added c.args.first.now c.args.second.now c.args.method.now c.args.index (sym c.if-method.false)
