use Rattle.java_parser_grammar.proofs.FoundTypes.{ty_found}
use Rattle.java_parser_grammar.proofs.grammar_laws.found.types_are_read.Goals as goal

pub returns : goal.returns
returns c = λ t f n rest fits less point brackets. ty_found t f n rest fits (record {
  less = less;
  point = point;
  brackets = brackets;
})
