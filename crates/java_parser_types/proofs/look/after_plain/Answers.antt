use Rattle.std.proofs.Common.{sym, ap, ◌∙◌}
use Rattle.java_tree.specs.Formed.{is_plain_word}
use Rattle.java_parser_types.proofs.KeptTokens.{plain_behind}
use Rattle.java_parser_types.proofs.look.after_plain.Goals as goal
use Rattle.java_parser_types.proofs.look.after_plain.Goals.{in-Keyword, in_default-matches}

pub returns-in-len1-up-clause-places : goal.returns-in-len1-up-clause-places
returns-in-len1-up-clause-places c =
    let text = c.as_bytes.ensures.value ∙ c.as_str.ensures in
    elim c.match-matches.branch [
      | in-Keyword w ↦ plain_behind c.args.tokens.now c.token-item.result c.in-len1-up.len_at_least c.token-item.is
          w.in-Keyword.is (sym (c.is_plain_word.ensures ∙ ap is_plain_word text) ∙ c.if-is_plain_word.true)
      | in_default-matches w ↦ absurd cc
    ]
