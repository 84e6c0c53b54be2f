use Rattle.java_parser_grammar.proofs.NoAngles.{ends_no_types}
use Rattle.java_parser_grammar.proofs.laws.forms.no_types_end_in_expressions.Goals as goal

pub returns : goal.returns
returns c = ends_no_types
