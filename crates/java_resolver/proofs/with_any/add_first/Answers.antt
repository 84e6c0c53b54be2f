use Rattle.std.proofs.Common.{sym, ap}
use Rattle.std.specs.Prelude.{Bool, bytes_eq, ◌&&◌}
use Rattle.std.proofs.lemmas.Result.{on_ok_weaker}
use Rattle.keyed_numbers.specs.Numbers.{Key, key_eq}
use Rattle.java_resolver.specs.Indexes.{method_with_any_at}
use Rattle.java_resolver.proofs.FirstOnes.{element_added, nothing_added}
use Rattle.java_resolver.proofs.with_any.add_first.Goals as goal

pub returns-then-method : goal.returns-then-method
returns-then-method c =
    let method = c.args.method.now in
    let key : Key = (0, method.class.0) in
    on_ok_weaker c.add_number.result
    (λ adds.
    element_added method_with_any_at c.args.first.now c.add_number.new.numbers method c.args.index
    c.as_str.result.now method.name key c.as_str.ensures
    (λ other k. ap (λ (b : Bool). b && (key_eq key k && bytes_eq method.name other)) (sym c.if-method.true))
    adds)
    c.add_number.ensures

pub returns : goal.returns
returns c =
    let method = c.args.method.now in
    nothing_added method_with_any_at c.args.first.now method c.args.index
    (λ name key.
    ap (λ (b : Bool). b && (key_eq (0, method.class.0) key && bytes_eq method.name name)) (sym c.if-method.false))
