use Rattle.java_parser_grammar.proofs.FoundTypes.{one_type}
use Rattle.java_parser_grammar.proofs.grammar_laws.one_tree.one_type.Goals as goal

pub returns : goal.returns
returns c = one_type
