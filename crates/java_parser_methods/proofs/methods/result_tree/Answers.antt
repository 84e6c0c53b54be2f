use Rattle.std.proofs.Common.{refl, sym, ◌∙◌}
use Rattle.java_parser_grammar.specs.MethodReading.{result_at}
use Rattle.java_parser_methods.proofs.methods.result_tree.Goals as goal

pub returns-then-is_constructor-clause-gives : goal.returns-then-is_constructor-clause-gives
unfolding result_at
returns-then-is_constructor-clause-gives c =
    rw (sym c.is_constructor.ensures ∙ c.if-is_constructor.true) refl

pub returns-in-Some-clause-gives : goal.returns-in-Some-clause-gives
unfolding result_at
returns-in-Some-clause-gives c =
    rw (sym c.is_constructor.ensures ∙ c.if-is_constructor.false, c.in-Some.ensures.gives) refl

pub returns-clause-gives : goal.returns-clause-gives
unfolding result_at
returns-clause-gives c =
    rw (
      sym c.is_constructor.ensures ∙ c.if-is_constructor.false,
      c.in_default.ensures.gives,
      c.in_ok-kind.ensures.gives,
    ) refl
