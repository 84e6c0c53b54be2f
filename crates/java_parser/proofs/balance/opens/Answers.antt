use Rattle.std.proofs.Common.{[], map, sym, ◌∙◌}
use Rattle.java_parser.specs.OpenBrackets.{open_onto}
use Rattle.java_parser.proofs.OpenStack.{open_push, opens_more, closes_innermost}
use Rattle.java_parser.proofs.balance.opens.Goals as goal

pub returns-then-is_opening : goal.returns-then-is_opening
returns-then-is_opening c =
    let old = c.args.stack.now.items in
    rw (c.in_ok-push.ensures.items, open_push (λ t. t.now) old c.args.token [])
    (opens_more (open_onto (map (λ t. t.now) old) []) c.args.token.now
    (sym c.is_opening.ensures ∙ c.if-is_opening.true))

pub returns-in-Some : goal.returns-in-Some
returns-in-Some c =
    let left = c.pop.new.self.items in
    rw (c.is_pair.ensures, c.in-Some.ensures.items, open_push (λ t. t.now) left c.in-Some.opening [])
    (closes_innermost c.in-Some.opening.now c.args.token.now (open_onto (map (λ t. t.now) left) [])
    (sym c.is_opening.ensures ∙ c.if-is_opening.false) (sym c.is_closing.ensures ∙ c.if-not-is_closing.false))
