use Rattle.std.proofs.Common.{length, ap, arith}
use Rattle.java_parser_grammar.proofs.ListedVariables.{got_variables}
use Rattle.java_parser_grammar.proofs.LongerStatements.{list_shorter}
use Rattle.java_parser_grammar.proofs.grammar_laws.sound.read_variables.Goals as goal

pub returns-clause-some : goal.returns-clause-some
returns-clause-some c = λ n ts vs rest e. (got_variables n ts vs rest e).formed.0

pub returns-clause-formed : goal.returns-clause-formed
returns-clause-formed c = λ n ts vs rest e. (got_variables n ts vs rest e).formed.1

pub returns-clause-small : goal.returns-clause-small
returns-clause-small c = λ n ts vs rest e. (got_variables n ts vs rest e).small

pub returns-clause-spelled : goal.returns-clause-spelled
returns-clause-spelled c = λ n ts vs rest e. (got_variables n ts vs rest e).spelled

pub returns-clause-shorter : goal.returns-clause-shorter
returns-clause-shorter c =
    λ n ts vs rest e. (let g = got_variables n ts vs rest e in
    omega (arith, ap length g.spelled, list_shorter vs g.formed.0 g.formed.1 rest))
