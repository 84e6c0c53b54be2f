use Rattle.std.proofs.Common.{ap, Err}
use Rattle.java_parser.proofs.members.declared.Goals as goal

pub returns-in-Err-Unformed : goal.returns-in-Err-Unformed
returns-in-Err-Unformed c = λ class. (
  c.in-Err-Unformed.ensures.none (ap Err c.in-Err-Unformed.field-0-is),
  c.requires.begins,
)
