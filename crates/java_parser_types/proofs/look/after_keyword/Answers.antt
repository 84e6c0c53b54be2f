use Rattle.std.proofs.Common.{sym, ◌∙◌}
use Rattle.java_parser_types.proofs.KeptTokens.{keyword_behind}
use Rattle.java_parser_types.proofs.look.after_keyword.Goals as goal

pub returns-in-len1-up-clause-places : goal.returns-in-len1-up-clause-places
returns-in-len1-up-clause-places c = keyword_behind c.args.text.now c.args.tokens.now c.token-item.result
    c.in-len1-up.len_at_least c.token-item.is (sym c.is_keyword.ensures ∙ c.if-is_keyword.true)
