use Rattle.std.proofs.Common.{sym, ◌∙◌, arith, length}
use Rattle.java_parser_methods.specs.HeadReading.{head_at}
use Rattle.java_parser_methods.proofs.PassedOn.{within_back}
use Rattle.java_tree.specs.KeptPlaces.{kept}
use Rattle.java_parser_methods.specs.HeadView.{head_places}
use Rattle.java_parser_types.proofs.LedMarks.{read_from}
use Rattle.java_parser_methods.proofs.heads.head.Goals as goal

pub returns-then-looks_local-clause-gives : goal.returns-then-looks_local-clause-gives
unfolding head_at
returns-then-looks_local-clause-gives c =
    rw (c.in_ok-rest.ensures.gives, sym c.looks_local.ensures ∙ c.if-looks_local.true) c.typed_head.ensures.gives

pub returns-else-looks_local-clause-gives : goal.returns-else-looks_local-clause-gives
unfolding head_at
returns-else-looks_local-clause-gives c =
    rw (c.in_ok-rest.ensures.gives, sym c.looks_local.ensures ∙ c.if-looks_local.false) c.untyped.ensures.gives

pub returns-then-looks_local-clause-places : goal.returns-then-looks_local-clause-places
returns-then-looks_local-clause-places c =
    read_from c.typed_head.result (λ x. head_places x.0) (λ x. kept x.1.now) (kept c.args.tokens.now) (kept
    c.in_ok-rest.rest.now) c.in_ok-rest.ensures.places c.typed_head.ensures.places

pub returns-then-looks_local-clause-shorter : goal.returns-then-looks_local-clause-shorter
returns-then-looks_local-clause-shorter c =
    within_back c.typed_head.result (λ x. length x.1.now) _ _
    (omega (arith, c.in_ok-rest.ensures.shorter)) c.typed_head.ensures.shorter

pub typed_head-requires-clause-few : goal.typed_head-requires-clause-few
typed_head-requires-clause-few c =
    omega (arith, c.requires.few, c.in_ok-rest.ensures.shorter)

pub returns-else-looks_local-clause-places : goal.returns-else-looks_local-clause-places
returns-else-looks_local-clause-places c =
    read_from c.untyped.result (λ x. head_places x.0) (λ x. kept x.1.now) (kept c.args.tokens.now) (kept
    c.in_ok-rest.rest.now) c.in_ok-rest.ensures.places c.untyped.ensures.places

pub returns-else-looks_local-clause-shorter : goal.returns-else-looks_local-clause-shorter
returns-else-looks_local-clause-shorter c =
    within_back c.untyped.result (λ x. length x.1.now) _ _
    (omega (arith, c.in_ok-rest.ensures.shorter)) c.untyped.ensures.shorter

pub untyped-requires-clause-few : goal.untyped-requires-clause-few
untyped-requires-clause-few c =
    omega (arith, c.requires.few, c.in_ok-rest.ensures.shorter)
