use Rattle.std.proofs.Common.{length, ap, arith}
use Rattle.java_parser_grammar.specs.ExpressionReading.{read_at}
use Rattle.java_parser_grammar.proofs.SoundLists.{Got}
use Rattle.java_parser_grammar.proofs.SoundExpressions.{read_sound}
use Rattle.java_parser_grammar.proofs.Lengths.{longer}
use Rattle.java_parser_grammar.proofs.Ensuring.{of_equation}
use Rattle.java_parser_grammar.proofs.grammar_laws.sound.read_expressions.Goals as goal

pub returns-clause-formed : goal.returns-clause-formed
returns-clause-formed c = λ n l ts a rest e. (of_equation (Got n l ts) (read_at n l ts) (a, rest) (read_sound n l ts)
    e).formed

pub returns-clause-high : goal.returns-clause-high
returns-clause-high c =
    λ n l ts a rest low e. (of_equation (Got n l ts) (read_at n l ts) (a, rest) (read_sound n l ts) e).high low

pub returns-clause-small : goal.returns-clause-small
returns-clause-small c = λ n l ts a rest e. (of_equation (Got n l ts) (read_at n l ts) (a, rest) (read_sound n l ts)
    e).small

pub returns-clause-spelled : goal.returns-clause-spelled
returns-clause-spelled c = λ n l ts a rest e. (of_equation (Got n l ts) (read_at n l ts) (a, rest) (read_sound n l ts)
    e).spelled

pub returns-clause-shorter : goal.returns-clause-shorter
returns-clause-shorter c =
    λ n l ts a rest e. (let g = (of_equation (Got n l ts) (read_at n l ts) (a, rest) (read_sound n l ts) e) in
    omega (arith, ap length g.spelled, longer a g.formed rest))
