use Rattle.java_resolver.specs.declared.infos.MethodInfo.{MethodInfo}
use Rattle.java_resolver.specs.Indexes.{method_with_any_at}
use Rattle.java_resolver.proofs.FirstOnes.{finds_next}
use Rattle.java_resolver.proofs.SecondOnes.{finds_second}
use Rattle.java_resolver.proofs.with_any.with_any_numbers.Goals as goal

pub loop-index-preserved : goal.loop-index-preserved
loop-index-preserved c =
    let method : MethodInfo = c.index-methods-index.result in
    let index = c.loop-index.index in
    let methods = c.args.methods.now in
    let are = c.loop-index.invariant in (
      finds_next method_with_any_at c.loop-index.first c.add_first.new.first methods index method
          c.loop-index-test.true c.index-methods-index.is are.0 c.in_ok-add_first.ensures,
      finds_second c.loop-index.first c.loop-index.second c.add_second.new.second methods index method
          c.loop-index-test.true c.index-methods-index.is are c.in_ok-add_second.ensures,
    )
