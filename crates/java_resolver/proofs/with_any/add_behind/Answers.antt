use Rattle.std.proofs.Common.{sym, ap, ◌∙◌, is_some}
use Rattle.std.specs.Prelude.{List, ℕ}
use Rattle.std.proofs.lemmas.Result.{on_ok_weaker}
use Rattle.keyed_numbers.specs.Numbers.{number_at}
use Rattle.java_resolver.proofs.SecondOnes.{first_added, second_added}
use Rattle.java_resolver.proofs.with_any.add_behind.Goals as goal

pub returns-then-is_some : goal.returns-then-is_some
returns-then-is_some c =
    let method = c.args.method.now in
    on_ok_weaker c.add_number.result
    (λ adds.
    second_added c.args.first.now c.args.second.now c.add_number.new.numbers method c.args.index
    c.as_str-name.result.now c.as_str-name.ensures c.requires
    (sym (ap is_some c.number_at.ensures) ∙ sym c.is_some.ensures ∙ c.if-is_some.true)
    adds)
    c.add_number.ensures

pub returns : goal.returns
returns c =
    let method = c.args.method.now in
    let first = c.args.first.now in
    first_added first c.args.second.now method c.args.index c.requires
    (ap (λ (text : List ℕ). is_some (number_at first text (0, method.class.0))) (sym c.as_str-name.ensures)
    ∙ sym (ap is_some c.number_at.ensures) ∙ sym c.is_some.ensures ∙ c.if-is_some.false)
