use Rattle.java_parser_grammar.proofs.CountedMembers.{types_counted}
use Rattle.java_parser_grammar.proofs.laws.counts.tokens_are_counted.Goals as goal

pub returns : goal.returns
returns c = λ tokens u is. types_counted _ u.classes u.skipped is.types
