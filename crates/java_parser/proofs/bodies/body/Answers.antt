use Rattle.java_parser_grammar.specs.Pieces.{items_of}
use Rattle.java_parser.proofs.FirstMember.{last_of_all}
use Rattle.java_parser.proofs.bodies.body.Goals as goal

pub loop-item-init : goal.loop-item-init
loop-item-init c = last_of_all (items_of c.args.tokens.now)
