use Rattle.std.proofs.Common.{sym, ap, map, ◌∙◌}
use Rattle.java_parser_grammar.specs.ExpressionReading.{read_at}
use Rattle.java_parser_types.specs.Tokens.{spelled}
use Rattle.java_tree.specs.View.{expr_of}
use Rattle.java_tree.specs.Formed.{is_run}
use Rattle.java_parser_methods.proofs.PassedOn.{tested_no, tested_yes}
use Rattle.java_parser_methods.proofs.heads.run.Goals as goal

pub returns-then-not-is_run-clause-gives : goal.returns-then-not-is_run-clause-gives
returns-then-not-is_run-clause-gives c =
    tested_no (read_at c.args.limit 0 (map spelled c.args.tokens.now))
    (expr_of c.in_ok-run.run'.tree.value, map spelled c.in_ok-run.rest.now) (λ x. is_run x.0)
    c.in_ok-run.ensures.gives
    (ap (λ t. is_run (expr_of t)) (sym c.deref.ensures) ∙ sym c.is_run.ensures ∙ c.if-not-is_run.true)

pub returns-clause-gives : goal.returns-clause-gives
returns-clause-gives c =
    tested_yes (read_at c.args.limit 0 (map spelled c.args.tokens.now))
    (expr_of c.in_ok-run.run'.tree.value, map spelled c.in_ok-run.rest.now) (λ x. is_run x.0)
    c.in_ok-run.ensures.gives
    (ap (λ t. is_run (expr_of t)) (sym c.deref.ensures) ∙ sym c.is_run.ensures ∙ c.if-not-is_run.false)
