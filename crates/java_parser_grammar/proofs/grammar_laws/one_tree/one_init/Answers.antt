use Rattle.java_parser_grammar.proofs.FoundExpressions.{one_init}
use Rattle.java_parser_grammar.proofs.grammar_laws.one_tree.one_init.Goals as goal

pub returns : goal.returns
returns c = one_init
