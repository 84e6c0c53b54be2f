use Rattle.java_parser_grammar.proofs.FoundJava.{statement_is_read}
use Rattle.java_parser_grammar.proofs.grammar_laws.found.statements_are_read.Goals as goal

pub returns : goal.returns
returns c = statement_is_read
