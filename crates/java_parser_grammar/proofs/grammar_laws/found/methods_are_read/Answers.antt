use Rattle.java_parser_grammar.proofs.FoundJava.{method_is_read}
use Rattle.java_parser_grammar.proofs.grammar_laws.found.methods_are_read.Goals as goal

pub returns : goal.returns
returns c = method_is_read
