use Rattle.std.proofs.Common.{arith}
use Rattle.java_parser_methods.proofs.type_parameters.type_parameters.Goals as goal

pub returns-clause-shorter : goal.returns-clause-shorter
returns-clause-shorter c =
    omega (
      arith,
      c.in-Some.ensures.shorter,
      c.in_ok-angled.ensures.shorter,
      c.in_ok-modifiers.ensures.shorter,
    )
