use Rattle.std.proofs.Common.{◌∙◌, rules}
use Rattle.java_tree.specs.declared.expressions.Expression.TheFolds.{the_lemmas}
use Rattle.java_tree.specs.KeptPlaces.{kept, expr_places, name_or_new, some_onto, ty_places, types_places}
use Rattle.java_parser_types.proofs.LedMarks.{from_equal, led_made_through, part_led}
use Rattle.java_parser_expressions.proofs.LastCalls.{puts_as}
use Rattle.java_parser_expressions.proofs.references.type_reference.Goals as goal

pub returns-clause-places : goal.returns-clause-places
returns-clause-places c =
    let to = c.in_ok-to.to in
    let kind = some_onto (ty_places c.args.kind.tree) in
    let here = kept c.args.tokens.now in
    let end = kept c.in_ok-to.rest.now in
    led_made_through c.before-2.result (λ x. expr_places x.0.tree.value) (λ x. kept x.1.now) kind
    (λ marks. kind (types_places to.types.trees (name_or_new to.name marks))) here end
    (part_led kind (λ marks. types_places to.types.trees (name_or_new to.name marks)) here end
    (from_equal (λ marks. types_places to.types.trees (name_or_new to.name marks)) here (kept c.in_ok-rest.rest.now)
    end c.in_ok-rest.ensures.places c.in_ok-to.ensures.places)) (puts_as c.before-2.result
    (λ x. expr_places x.0.tree.value) (expr_places c.in_ok-tree.tree)
    (λ marks. kind (types_places to.types.trees (name_or_new to.name marks))) c.before-2.ensures.places
    (λ marks. c.in_ok-tree.ensures.places marks ∙ search (rules, the_lemmas))) c.before-2.ensures.behind
