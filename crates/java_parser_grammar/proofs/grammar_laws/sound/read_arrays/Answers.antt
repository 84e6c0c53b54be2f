use Rattle.std.proofs.Common.{length, ap, arith}
use Rattle.java_parser_grammar.specs.ExpressionReading.{array_at}
use Rattle.java_parser_grammar.proofs.SoundLists.{GotArray}
use Rattle.java_parser_grammar.proofs.SoundExpressions.{array_sound}
use Rattle.java_parser_grammar.proofs.Lengths.{array_longer}
use Rattle.java_parser_grammar.proofs.Ensuring.{of_equation}
use Rattle.java_parser_grammar.proofs.grammar_laws.sound.read_arrays.Goals as goal

pub returns-clause-formed : goal.returns-clause-formed
returns-clause-formed c = λ n ts a rest e. (of_equation (GotArray n ts) (array_at n ts) (a, rest) (array_sound n ts)
    e).formed

pub returns-clause-small : goal.returns-clause-small
returns-clause-small c = λ n ts a rest e. (of_equation (GotArray n ts) (array_at n ts) (a, rest) (array_sound n ts)
    e).small

pub returns-clause-spelled : goal.returns-clause-spelled
returns-clause-spelled c = λ n ts a rest e. (of_equation (GotArray n ts) (array_at n ts) (a, rest) (array_sound n ts)
    e).spelled

pub returns-clause-shorter : goal.returns-clause-shorter
returns-clause-shorter c =
    λ n ts a rest e. (let g = (of_equation (GotArray n ts) (array_at n ts) (a, rest) (array_sound n ts) e) in
    omega (arith, ap length g.spelled, array_longer a g.formed rest))
