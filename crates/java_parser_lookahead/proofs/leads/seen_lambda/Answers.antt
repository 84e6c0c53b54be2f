use Rattle.std.proofs.Common.{map, sym, ◌∙◌}
use Rattle.java_parser_types.specs.Tokens.{spelled}
use Rattle.java_parser_lookahead.proofs.FirstClosing.{lambda_decides}
use Rattle.java_parser_lookahead.proofs.leads.seen_lambda.Goals as goal

pub returns-in-Some : goal.returns-in-Some
returns-in-Some c =
    lambda_decides c.args.tokens.now c.token-item.result (map spelled c.in-Some.behind.now) c.in-len1-up.len_at_least
    c.token-item.is (sym c.is_sign.ensures ∙ c.if-is_sign.true) c.in-Some.ensures
    ∙ sym c.begins_with.ensures
