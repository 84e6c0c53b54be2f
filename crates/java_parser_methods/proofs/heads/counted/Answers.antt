use Rattle.std.proofs.Common.{refl, arith, map, option_map}
use Rattle.java_parser_methods.specs.HeadReading.{counted_head_at}
use Rattle.java_tree.specs.KeptPlaces.{kept, maybe_puts, each_puts, expr_places, start_places}
use Rattle.java_parser_types.proofs.LedMarks.{both_led, from_equal, part_led, to_equal}
use Rattle.java_parser_methods.proofs.heads.counted.Goals as goal

pub returns-clause-gives : goal.returns-clause-gives
unfolding counted_head_at
returns-clause-gives c =
    rw (
      c.in_ok-rest.ensures.gives,
      c.in_ok-condition.ensures.gives,
      c.in_ok-rest-2.ensures.gives,
      c.in_ok-updates.ensures.gives,
      c.in_ok-rest-3.ensures.gives,
    ) refl

pub returns-clause-places : goal.returns-clause-places
returns-clause-places c =
    part_led (start_places c.args.start.value) (λ rest. (maybe_puts (option_map (λ e. expr_places e.value)
    c.in_ok-condition.condition)) ((each_puts (map expr_places c.in_ok-updates.updates.items)) rest)) (kept
    c.args.tokens.now) (kept c.in_ok-rest-3.rest.now) (from_equal (λ rest. (maybe_puts (option_map (λ e. expr_places
    e.value) c.in_ok-condition.condition)) ((each_puts (map expr_places c.in_ok-updates.updates.items)) rest)) (kept
    c.args.tokens.now) (kept c.in_ok-rest.rest.now) (kept c.in_ok-rest-3.rest.now) c.in_ok-rest.ensures.places
    (both_led (maybe_puts (option_map (λ e. expr_places e.value) c.in_ok-condition.condition)) (each_puts (map
    expr_places c.in_ok-updates.updates.items)) (kept c.in_ok-rest.rest.now) (kept c.in_ok-rest-2.rest.now) (kept
    c.in_ok-rest-3.rest.now) (to_equal (maybe_puts (option_map (λ e. expr_places e.value) c.in_ok-condition.condition))
    (kept c.in_ok-rest.rest.now) (kept c.in_ok-condition.rest.now) (kept c.in_ok-rest-2.rest.now)
    c.in_ok-rest-2.ensures.places c.in_ok-condition.ensures.places) (to_equal (each_puts (map expr_places
    c.in_ok-updates.updates.items)) (kept c.in_ok-rest-2.rest.now) (kept c.in_ok-updates.rest.now) (kept
    c.in_ok-rest-3.rest.now) c.in_ok-rest-3.ensures.places c.in_ok-updates.ensures.places)))

pub returns-clause-shorter : goal.returns-clause-shorter
returns-clause-shorter c =
    omega (
      arith,
      c.in_ok-rest.ensures.shorter,
      c.in_ok-condition.ensures.shorter,
      c.in_ok-rest-2.ensures.shorter,
      c.in_ok-updates.ensures.shorter,
      c.in_ok-rest-3.ensures.shorter,
    )

pub expression_until-requires-clause-few : goal.expression_until-requires-clause-few
expression_until-requires-clause-few c =
    omega (arith, c.requires.few, c.in_ok-rest.ensures.shorter)

pub runs_until-requires-clause-few : goal.runs_until-requires-clause-few
runs_until-requires-clause-few c =
    omega (
      arith,
      c.requires.few,
      c.in_ok-rest.ensures.shorter,
      c.in_ok-condition.ensures.shorter,
      c.in_ok-rest-2.ensures.shorter,
    )
