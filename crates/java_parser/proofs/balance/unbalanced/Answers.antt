use Rattle.std.proofs.Common.{◌≡◌, ◌≤◌, [], map, length, drop, ap, sym, ◌∙◌, arith}
use Rattle.std.proofs.lemmas.List.{drop_all}
use Rattle.java_parser_grammar.specs.Brackets.{unbalanced}
use Rattle.java_parser.specs.OpenBrackets.{open_onto}
use Rattle.java_parser.proofs.OpenStack.{open_push, open_at_end}
use Rattle.java_parser.proofs.OpenSteps.{unfit_ends, fits_on, none_at_end}
use Rattle.java_parser.proofs.balance.unbalanced.Goals as goal

pub returns-then-not-branch : goal.returns-then-not-branch
returns-then-not-branch c =
    let at = c.loop-token in
    unfit_ends c.args.tokens.now at.token-index c.token-item.result (open_onto (map (λ t. t.now) at.open.items) []) _ _
    (unbalanced [] c.args.tokens.now) c.loop-token-test.true c.token-item.is c.if-not-branch.true c.in_ok-opens.ensures
    at.invariant

pub loop-token-preserved : goal.loop-token-preserved
loop-token-preserved c =
    let at = c.loop-token in
    fits_on c.args.tokens.now at.token-index c.token-item.result (open_onto (map (λ t. t.now) at.open.items) []) _ _
    (unbalanced [] c.args.tokens.now) c.loop-token-test.true c.token-item.is c.if-not-branch.false c.in_ok-opens.ensures
    at.invariant

pub returns-in-Some : goal.returns-in-Some
returns-in-Some c =
    let all = c.loop-token.open.items in
    let left = c.pop.new.self.items in
    let tokens = c.args.tokens.now in
    let done : length tokens ≤ c.loop-token.token-index = omega (arith, c.loop-token-test.false) in
    let none : drop c.loop-token.token-index tokens ≡ [] = drop_all c.loop-token.token-index tokens done in
    open_at_end (open_onto (map (λ t. t.now) all) []) c.in-Some.opening.now (open_onto (map (λ t. t.now) left) [])
    (unbalanced [] tokens)
    (ap (λ l. open_onto (map (λ t. t.now) l) []) c.in-Some.ensures.items ∙ open_push (λ t. t.now) left c.in-Some.opening
    [])
    (ap (unbalanced (open_onto (map (λ t. t.now) all) [])) (sym none) ∙ c.loop-token.invariant)

pub returns : goal.returns
returns c =
    let all = c.loop-token.open.items in
    let tokens = c.args.tokens.now in
    let done : length tokens ≤ c.loop-token.token-index = omega (arith, c.loop-token-test.false) in
    let none : drop c.loop-token.token-index tokens ≡ [] = drop_all c.loop-token.token-index tokens done in
    none_at_end (λ t. t.now) all c.pop.new.self.items _ (unbalanced [] tokens) c.in-None.ensures.cases.0
    c.in-None.ensures.items c.in-None.ensures.rest
    (ap (unbalanced (open_onto (map (λ t. t.now) all) [])) (sym none) ∙ c.loop-token.invariant)
