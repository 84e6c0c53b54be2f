use Rattle.std.proofs.Common.{map}
use Rattle.java_tree.specs.KeptPlaces.{kept, expr_places, some_onto, ty_places}
use Rattle.java_tree.specs.Trees.{InstanceOf}
use Rattle.java_tree.specs.View.{expr_of, ty_of}
use Rattle.java_parser_types.proofs.LedMarks.{part_led, some_led}
use Rattle.java_parser_types.specs.Tokens.{spelled}
use Rattle.java_parser_expressions.proofs.LastCalls.{grown_places}
use Rattle.java_parser_expressions.proofs.turns.tested.Goals as goal

pub returns-clause-places : goal.returns-clause-places
returns-clause-places c =
    let left = expr_places c.args.left.tree.value in
    let kind = ty_places c.in_ok-kind.kind.tree in
    let here = kept c.args.tokens.now in
    let at = kept c.in_ok-kind.rest.now in
    grown_places c.instance_of.result c.args.limit (InstanceOf (expr_of c.args.left.tree.value)
    (ty_of c.in_ok-kind.kind.tree)) (map spelled c.in_ok-kind.rest.now) left (λ rest. left (some_onto kind rest)) here
    at c.instance_of.ensures.gives (part_led left (some_onto kind) here at (some_led kind at here
    c.in_ok-kind.ensures.places)) c.instance_of.ensures.places c.instance_of.ensures.behind
