use Rattle.java_parser_grammar.proofs.FoundExpressions.{init_found}
use Rattle.java_parser_grammar.proofs.grammar_laws.found.inits_are_read.Goals as goal

pub returns : goal.returns
returns c = init_found
