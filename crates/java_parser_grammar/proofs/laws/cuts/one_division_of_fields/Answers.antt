use Rattle.java_parser_grammar.proofs.OneDivision.{one_division}
use Rattle.java_parser_grammar.proofs.laws.cuts.one_division_of_fields.Goals as goal

pub returns : goal.returns
returns c = record {
  pieces = λ ts ps qs vs ws a b. (one_division c.one_list_of_variables.ensures ts ps qs vs ws a b).pieces;
  variables = λ ts ps qs vs ws a b. (one_division c.one_list_of_variables.ensures ts ps qs vs ws a b).variables;
}
