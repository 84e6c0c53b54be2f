use Rattle.std.proofs.Common.{arith}
use Rattle.java_parser_types.proofs.AngleLoop.{other_sign}
use Rattle.java_parser_types.proofs.angles.sign_step.Goals as goal

pub returns-in_default : goal.returns-in_default
returns-in_default c = other_sign c.args.text.now (λ one. absurd (omega (arith, one, c.in_default.len_below)))

pub returns-in_default-2 : goal.returns-in_default-2
returns-in_default-2 c = other_sign c.args.text.now (λ one. absurd (omega (arith, one, c.in_default.len_at_least)))
