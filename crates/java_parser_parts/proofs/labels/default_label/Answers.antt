use Rattle.java_tree.specs.KeptPlaces.{kept}
use Rattle.java_parser_types.proofs.LedMarks.{from_equal, to_equal}
use Rattle.java_parser_parts.proofs.labels.default_label.Goals as goal

pub returns-clause-places : goal.returns-clause-places
returns-clause-places c =
    to_equal (λ rest. rest) (kept c.args.tokens.now) (kept c.in_ok-rest.rest.now) (kept c.in_ok-rest-2.rest.now)
    c.in_ok-rest-2.ensures.places (from_equal (λ rest. rest) (kept c.args.tokens.now) (kept c.in_ok-rest.rest.now)
    (kept c.in_ok-rest.rest.now) c.in_ok-rest.ensures.places (λ rest at. at))
