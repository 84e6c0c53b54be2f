use Rattle.java_tree.specs.KeptPlaces.{stmt_places}
use Rattle.java_parser_methods.specs.HeadView.{head_places}
use Rattle.java_parser_methods.proofs.PassedOn.{puts_same}
use Rattle.java_parser_methods.proofs.nodes.headed.Goals as goal

pub returns-clause-places : goal.returns-clause-places
returns-clause-places c =
    puts_same c.boxed.result (λ x. stmt_places x.0.value) (stmt_places c.headed_statement.result) (λ ms. head_places
    c.args.head (stmt_places c.args.body.value ms)) c.headed_statement.ensures.places c.boxed.ensures.places
