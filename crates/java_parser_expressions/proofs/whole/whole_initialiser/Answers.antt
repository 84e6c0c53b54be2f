use Rattle.std.proofs.Common.{◌∙◌, [], sym, subst}
use Rattle.java_tree.specs.KeptPlaces.{Places, AreAt}
use Rattle.java_parser_expressions.proofs.TokensLeft.{some_left, all_taken, none_kept}
use Rattle.java_parser_expressions.proofs.whole.whole_initialiser.Goals as goal

pub returns-then-not-is_empty-clause-gives : goal.returns-then-not-is_empty-clause-gives
returns-then-not-is_empty-clause-gives c =
    rw c.in_ok-value.ensures.gives (some_left _ c.in_ok-value.rest.now (sym c.is_empty.ensures
    ∙ c.if-not-is_empty.true))

pub returns-clause-gives : goal.returns-clause-gives
returns-clause-gives c =
    rw (c.in_ok-value.ensures.gives, c.into_inner.ensures) (all_taken _ c.in_ok-value.rest.now (sym c.is_empty.ensures
    ∙ c.if-not-is_empty.false))

pub returns-clause-places : goal.returns-clause-places
returns-clause-places c =
    rw c.into_inner.ensures (c.in_ok-value.ensures.places [] (subst (λ (ps : Places). AreAt [] ps)
    (sym (none_kept c.in_ok-value.rest.now (sym c.is_empty.ensures ∙ c.if-not-is_empty.false))) tt))
