use Rattle.std.proofs.Common.{sym, ◌∙◌, refl}
use Rattle.java_parser_methods.proofs.heads.expression_until.Goals as goal

pub returns-then-begins_with-clause-gives : goal.returns-then-begins_with-clause-gives
returns-then-begins_with-clause-gives c =
    rw (sym c.begins_with.ensures ∙ c.if-begins_with.true) refl

pub returns-clause-gives : goal.returns-clause-gives
returns-clause-gives c =
    rw (sym c.begins_with.ensures ∙ c.if-begins_with.false, c.in_ok-value.ensures.gives) refl
