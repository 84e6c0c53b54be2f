use Rattle.std.proofs.Common.{refl, arith}
use Rattle.java_parser_methods.specs.HeadReading.{each_head_at}
use Rattle.java_tree.specs.KeptPlaces.{kept, expr_places}
use Rattle.java_parser_methods.specs.HeadView.{each_places}
use Rattle.java_parser_types.proofs.LedMarks.{part_led, to_equal}
use Rattle.java_parser_methods.proofs.heads.each.Goals as goal

pub returns-clause-gives : goal.returns-clause-gives
unfolding each_head_at
returns-clause-gives c =
    rw (c.in_ok-all.ensures.gives, c.in_ok-rest.ensures.gives) refl

pub returns-clause-shorter : goal.returns-clause-shorter
returns-clause-shorter c =
    omega (arith, c.in_ok-all.ensures.shorter, c.in_ok-rest.ensures.shorter)

pub returns-clause-places : goal.returns-clause-places
returns-clause-places c =
    part_led (each_places c.args.variable.value) (expr_places c.in_ok-all.all.tree.value) (kept c.args.tokens.now)
    (kept c.in_ok-rest.rest.now) (to_equal (expr_places c.in_ok-all.all.tree.value) (kept c.args.tokens.now) (kept
    c.in_ok-all.rest.now) (kept c.in_ok-rest.rest.now) c.in_ok-rest.ensures.places c.in_ok-all.ensures.places)
