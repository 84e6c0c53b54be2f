-- The readers of expressions, types and what variables begin with are sound.
use Rattle.std.proofs.Common.{◌≤◌, arith}
use Rattle.java_tree.specs.Operators.{conditional_level}
use Rattle.java_tree.specs.Spelling.{ty_onto, expr_onto, init_onto}
use Rattle.java_tree.specs.Formed.{FormedTy, FormedExpr, FormedInit, level}
use Rattle.java_tree.specs.Nesting.{ty_nesting, expr_nesting, init_nesting}
use Rattle.java_parser_grammar.specs.TypeReading.{ty_at}
use Rattle.java_parser_grammar.specs.ExpressionReading.{read_at, init_at}
use Rattle.java_parser_grammar.specs.JavaReaders.{method_readers}
use Rattle.java_parser_grammar.proofs.Ensuring.{weaker}
use Rattle.java_parser_grammar.proofs.SoundExpressions.{read_sound, variable_sound}
use Rattle.java_parser_grammar.proofs.SoundLists.{Got, GotInit}
use Rattle.java_parser_grammar.proofs.SoundParts.{AreSound}
use Rattle.java_parser_grammar.proofs.SoundSteps.{GotOne}
use Rattle.java_parser_grammar.proofs.SoundTypes.{GotTy, ty_sound}

pub java_sound : AreSound method_readers
java_sound = record {
  expr = λ n ts. weaker (Got n 0 ts) (GotOne FormedExpr expr_nesting expr_onto n ts) (read_at n 0 ts)
      (λ x g. record { formed = g.formed; small = g.small; spelled = g.spelled }) (read_sound n 0 ts);
  conditional = λ n ts. weaker (Got n conditional_level ts) (GotOne (λ e. FormedExpr e × (conditional_level ≤ level e))
      expr_nesting expr_onto n ts) (read_at n conditional_level ts)
      (λ x g. record { formed = (g.formed, g.high (omega arith)); small = g.small; spelled = g.spelled })
      (read_sound n conditional_level ts);
  ty = λ n ts. weaker (GotTy n ts) (GotOne FormedTy ty_nesting ty_onto n ts) (ty_at n ts)
      (λ x g. record { formed = g.formed; small = g.small; spelled = g.spelled }) (ty_sound n ts);
  init = λ n ts. weaker (GotInit n ts) (GotOne FormedInit init_nesting init_onto n ts) (init_at n ts)
      (λ x g. record { formed = g.formed; small = g.small; spelled = g.spelled }) (variable_sound n ts);
}
