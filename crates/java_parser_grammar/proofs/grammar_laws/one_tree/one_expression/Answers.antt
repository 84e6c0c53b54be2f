use Rattle.java_parser_grammar.proofs.FoundExpressions.{one_expression}
use Rattle.java_parser_grammar.proofs.grammar_laws.one_tree.one_expression.Goals as goal

pub returns : goal.returns
returns c = one_expression
