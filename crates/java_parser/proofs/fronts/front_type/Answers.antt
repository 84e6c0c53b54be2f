use Rattle.java_tree.specs.KeptPlaces.{ty_places}
use Rattle.java_tree.specs.View.{ty_of}
use Rattle.java_parser.proofs.DeclaredFields.{type_gives, type_front}
use Rattle.java_parser.proofs.fronts.front_type.Goals as goal

pub returns-clause-gives : goal.returns-clause-gives
returns-clause-gives c =
    type_gives c.args.tokens.now c.cut.result.0.now c.cut.result.1.now c.in_ok-kind.left.now
    (ty_of c.in_ok-kind.kind.tree) c.cut.ensures.parts c.cut.ensures.size c.in_ok-kind.ensures.gives

pub returns-clause-front : goal.returns-clause-front
returns-clause-front c =
    type_front c.args.tokens.now c.cut.result.0.now c.cut.result.1.now c.in_ok-kind.left.now
    (ty_of c.in_ok-kind.kind.tree) (ty_places c.in_ok-kind.kind.tree) c.cut.ensures.parts c.cut.ensures.size
    c.in_ok-kind.ensures.gives c.in_ok-kind.ensures.places
