use Rattle.std.proofs.Common.{arith}
use Rattle.java_parser_parts.proofs.SeenParts.{some_clause}
use Rattle.java_parser_parts.proofs.try_parts.has_clause.Goals as goal

pub returns-in-len1-up : goal.returns-in-len1-up
returns-in-len1-up c = some_clause c.args.clauses.now (omega (arith, c.in-len1-up.len_at_least))
