use Rattle.std.proofs.Common.{ℕ, ap, ◌∙◌}
use Rattle.std.specs.Prelude.{bytes_eq, ◌&&◌}
use Rattle.java_resolver.specs.declared.infos.MethodInfo.{MethodInfo}
use Rattle.keyed_numbers.specs.Numbers.{key_eq}
use Rattle.java_resolver.specs.Indexes.{method_at}
use Rattle.java_resolver.proofs.FirstOnes.{finds_next, element_added}
use Rattle.java_resolver.proofs.methods.method_numbers.Goals as goal

pub loop-index-preserved : goal.loop-index-preserved
loop-index-preserved c =
    let method : MethodInfo = c.index-methods-index.result in
    let index = c.loop-index.index in
    finds_next method_at c.loop-index.numbers c.add_number.new.numbers c.args.methods.now index method
    c.loop-index-test.true c.index-methods-index.is c.loop-index.invariant
    (element_added method_at c.loop-index.numbers c.add_number.new.numbers method index c.as_str.result.now
    method.name (method.class.0, c.in_ok-count.count) c.as_str.ensures
    (λ other k.
    ap (λ (n : ℕ). key_eq (method.class.0, n) k && bytes_eq method.name other)
    (c.in_ok-count.ensures ∙ c.len.ensures))
    c.in_ok-add_number.ensures)
