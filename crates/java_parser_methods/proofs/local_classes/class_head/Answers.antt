use Rattle.std.proofs.Common.{sym, ◌∙◌}
use Rattle.java_parser_methods.proofs.ClassLoops.{head_places}
use Rattle.java_parser_methods.proofs.local_classes.class_head.Goals as goal

pub returns-in-len2-up-clause-places : goal.returns-in-len2-up-clause-places
returns-in-len2-up-clause-places c =
    head_places c.args.tokens.now c.word-item.result c.name-item.result c.in-len2-up.len_at_least c.word-item.is
    c.name-item.is (sym c.is_keyword.ensures ∙ c.if-is_keyword.true) (sym c.is_name.ensures ∙ c.if-is_name.true)
