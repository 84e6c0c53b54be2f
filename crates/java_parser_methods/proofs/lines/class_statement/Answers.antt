use Rattle.java_tree.specs.KeptPlaces.{kept, stmt_places}
use Rattle.java_parser_methods.specs.ClassReading.{class_places}
use Rattle.java_parser_types.proofs.LedMarks.{led_made}
use Rattle.java_parser_methods.proofs.lines.class_statement.Goals as goal

pub returns-clause-places : goal.returns-clause-places
returns-clause-places c =
    led_made c.class_declared.result (λ x. stmt_places x.0.value) (λ x. kept x.1.now) (class_places
    c.in_ok-class.class) (kept c.args.tokens.now) (kept c.in_ok-class.rest.now) c.in_ok-class.ensures.places
    c.class_declared.ensures.places c.class_declared.ensures.behind
