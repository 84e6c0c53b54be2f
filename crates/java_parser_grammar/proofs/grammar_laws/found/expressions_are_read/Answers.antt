use Rattle.java_parser_grammar.proofs.FoundExpressions.{expression_found}
use Rattle.java_parser_grammar.proofs.grammar_laws.found.expressions_are_read.Goals as goal

pub returns : goal.returns
returns c = expression_found
