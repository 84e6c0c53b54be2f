use Rattle.java_parser_grammar.proofs.FoundExpressions.{one_array}
use Rattle.java_parser_grammar.proofs.grammar_laws.one_tree.one_array.Goals as goal

pub returns : goal.returns
returns c = one_array
