use Rattle.std.proofs.Common.{sym, ◌∙◌}
use Rattle.std.proofs.lemmas.Result.{on_ok_weaker}
use Rattle.transfer_ties.proofs.Numbers.{adds_classless, adds_method, adds_unread}
use Rattle.transfer_ties.proofs.making.add_method.Goals as goal

pub returns-then-is_some : goal.returns-then-is_some
returns-then-is_some c =
    adds_unread c.args.classes.now c.args.method.now c.args.numbers.now c.args.number
    (sym c.is_some.ensures ∙ c.if-is_some.true)

pub returns-in_default : goal.returns-in_default
returns-in_default c =
    adds_classless c.args.classes.now c.args.method.now c.args.numbers.now c.args.number (sym c.in_default.ensures)

pub returns : goal.returns
returns c =
    on_ok_weaker c.add_number.result
    (λ adds. adds_method c.args.classes.now c.args.method.now c.args.numbers.now c.add_number.new.numbers
    c.args.number c.in-Some.class c.in_ok-number_of.field-0 c.as_str.result.now c.as_str.ensures
    (sym c.is_some.ensures ∙ c.if-is_some.false) (sym c.in-Some.ensures) (c.in_ok-number_of.ensures ∙ c.len.ensures)
    adds)
    c.add_number.ensures
