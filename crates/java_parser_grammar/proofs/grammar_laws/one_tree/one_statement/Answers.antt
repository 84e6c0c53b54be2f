use Rattle.java_parser_grammar.proofs.FoundJava.{one_java_statement}
use Rattle.java_parser_grammar.proofs.grammar_laws.one_tree.one_statement.Goals as goal

pub returns : goal.returns
returns c = one_java_statement
