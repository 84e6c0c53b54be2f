use Rattle.std.proofs.Common.{◌≡◌, ◌++◌, drop}
use Rattle.java_parser.proofs.results.add_copies.Given as goal

abbrev pub invariant-loop-token : goal.invariant-loop-token
invariant-loop-token l = l.copies.items ++ drop l.token-index l.tokens ≡ l.initial.copies.items ++ l.tokens
