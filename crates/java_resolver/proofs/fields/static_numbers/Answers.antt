use Rattle.std.proofs.Common.{true}
use Rattle.java_resolver.specs.Indexes.{field_at}
use Rattle.java_resolver.proofs.FirstOnes.{finds_next}
use Rattle.java_resolver.proofs.fields.static_numbers.Goals as goal

pub loop-index-preserved : goal.loop-index-preserved
loop-index-preserved c =
    finds_next (field_at true) c.loop-index.numbers c.add_static.new.numbers c.args.fields.now c.loop-index.index
    c.index-fields-index.result c.loop-index-test.true c.index-fields-index.is
    c.loop-index.invariant c.in_ok-add_static.ensures
