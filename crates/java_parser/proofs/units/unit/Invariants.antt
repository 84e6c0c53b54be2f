use Rattle.std.proofs.Common.{map, drop}
use Rattle.java_parser.proofs.UnitSteps.{ReadSoFar}
use Rattle.java_parser.proofs.units.unit.Given as goal

abbrev pub invariant-loop-tokens : goal.invariant-loop-tokens
invariant-loop-tokens l = ReadSoFar (map (λ t. t.now) l.types) l.unit (map (λ t. t.now) (drop l.tokens-index l.types))
