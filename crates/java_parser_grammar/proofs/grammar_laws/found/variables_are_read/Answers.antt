use Rattle.java_parser_grammar.proofs.ListedVariables.{variables_are_found, variables_end_tokens}
use Rattle.java_parser_grammar.proofs.grammar_laws.found.variables_are_read.Goals as goal

pub returns-clause-before : goal.returns-clause-before
returns-clause-before c = variables_are_found

pub returns-clause-at_the_end : goal.returns-clause-at_the_end
returns-clause-at_the_end c = variables_end_tokens
