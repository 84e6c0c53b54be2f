use Rattle.std.proofs.Common.{arith}
use Rattle.java_parser_methods.proofs.ClassLoops.{some_awaited}
use Rattle.java_parser_methods.proofs.local_classes.is_outside.Goals as goal

pub returns-in-len1-up : goal.returns-in-len1-up
returns-in-len1-up c = some_awaited c.args.open.now (omega (arith, c.in-len1-up.len_at_least))
