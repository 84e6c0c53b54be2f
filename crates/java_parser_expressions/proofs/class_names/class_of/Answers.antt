use Rattle.std.proofs.Common.{map}
use Rattle.java_tree.specs.KeptPlaces.{each_puts, expr_places, name_places}
use Rattle.java_parser_expressions.proofs.LastCalls.{puts_as}
use Rattle.java_parser_expressions.proofs.class_names.class_of.Goals as goal

pub returns-clause-places : goal.returns-clause-places
returns-clause-places c =
    puts_as _ (λ x. expr_places x.0.tree.value) (expr_places c.in_ok-tree.tree) (each_puts (map name_places
    c.args.names.items)) c.before-2.ensures.places c.in_ok-tree.ensures.places
