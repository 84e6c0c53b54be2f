use Rattle.std.proofs.Common.{◌≡◌, length}
use Rattle.java_parser_grammar.specs.Heads.{has_synchronized}
use Rattle.java_parser_methods.proofs.words.has_synchronized.Given as goal

abbrev pub invariant-loop-token : goal.invariant-loop-token
invariant-loop-token l = has_synchronized l.rest ≡ has_synchronized l.tokens

abbrev pub decreases-loop-token : goal.decreases-loop-token
decreases-loop-token l = length l.rest
