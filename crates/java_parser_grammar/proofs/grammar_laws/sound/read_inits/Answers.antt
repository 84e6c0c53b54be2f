use Rattle.std.proofs.Common.{length, ap, arith}
use Rattle.java_parser_grammar.specs.ExpressionReading.{init_at}
use Rattle.java_parser_grammar.proofs.SoundLists.{GotInit}
use Rattle.java_parser_grammar.proofs.SoundExpressions.{variable_sound}
use Rattle.java_parser_grammar.proofs.Lengths.{init_longer}
use Rattle.java_parser_grammar.proofs.Ensuring.{of_equation}
use Rattle.java_parser_grammar.proofs.grammar_laws.sound.read_inits.Goals as goal

pub returns-clause-formed : goal.returns-clause-formed
returns-clause-formed c = λ n ts i rest e. (of_equation (GotInit n ts) (init_at n ts) (i, rest) (variable_sound n ts)
    e).formed

pub returns-clause-small : goal.returns-clause-small
returns-clause-small c = λ n ts i rest e. (of_equation (GotInit n ts) (init_at n ts) (i, rest) (variable_sound n ts)
    e).small

pub returns-clause-spelled : goal.returns-clause-spelled
returns-clause-spelled c = λ n ts i rest e. (of_equation (GotInit n ts) (init_at n ts) (i, rest) (variable_sound n ts)
    e).spelled

pub returns-clause-shorter : goal.returns-clause-shorter
returns-clause-shorter c =
    λ n ts i rest e. (let g = (of_equation (GotInit n ts) (init_at n ts) (i, rest) (variable_sound n ts) e) in
    omega (arith, ap length g.spelled, init_longer i g.formed rest))
