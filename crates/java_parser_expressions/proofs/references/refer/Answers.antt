use Rattle.std.proofs.Common.{map, option_map}
use Rattle.java_tree.specs.KeptPlaces.{kept, expr_places, name_or_new, types_places}
use Rattle.java_tree.specs.Trees.{Reference}
use Rattle.java_tree.specs.View.{expr_of, name_of, types_of}
use Rattle.java_parser_types.proofs.LedMarks.{part_led}
use Rattle.java_parser_types.specs.Tokens.{spelled}
use Rattle.java_parser_expressions.proofs.LastCalls.{grown_places}
use Rattle.java_parser_expressions.proofs.references.refer.Goals as goal

pub returns-clause-places : goal.returns-clause-places
returns-clause-places c =
    let to = c.in_ok-to.to in
    let left = expr_places c.args.left.tree.value in
    let here = kept c.args.tokens.now in
    let end = kept c.in_ok-to.rest.now in
    grown_places c.referred.result c.args.limit (Reference (expr_of c.args.left.tree.value)
    (types_of to.types.trees to.types.glued) (option_map name_of to.name)) (map spelled c.in_ok-to.rest.now) left
    (λ marks. left (types_places to.types.trees (name_or_new to.name marks))) here end c.referred.ensures.gives
    (part_led left (λ marks. types_places to.types.trees (name_or_new to.name marks)) here end
    c.in_ok-to.ensures.places) c.referred.ensures.places c.referred.ensures.behind
