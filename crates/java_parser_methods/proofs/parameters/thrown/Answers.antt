use Rattle.std.proofs.Common.{refl, sym, ◌∙◌}
use Rattle.java_parser_methods.proofs.parameters.thrown.Goals as goal

pub returns-then-not-is_named-clause-gives : goal.returns-then-not-is_named-clause-gives
returns-then-not-is_named-clause-gives c =
    rw (c.in_ok-kind.ensures.gives, sym c.is_named.ensures ∙ c.if-not-is_named.true) refl

pub returns-clause-gives : goal.returns-clause-gives
returns-clause-gives c =
    rw (c.in_ok-kind.ensures.gives, sym c.is_named.ensures ∙ c.if-not-is_named.false) refl
