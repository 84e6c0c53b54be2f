use Rattle.java_parser_grammar.proofs.ListedVariables.{one_list}
use Rattle.java_parser_grammar.proofs.grammar_laws.one_tree.one_list_of_variables.Goals as goal

pub returns : goal.returns
returns c = one_list
