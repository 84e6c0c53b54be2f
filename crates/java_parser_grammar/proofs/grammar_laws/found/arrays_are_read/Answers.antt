use Rattle.java_parser_grammar.proofs.FoundExpressions.{array_found}
use Rattle.java_parser_grammar.proofs.grammar_laws.found.arrays_are_read.Goals as goal

pub returns : goal.returns
returns c = array_found
