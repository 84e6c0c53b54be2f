use Rattle.std.proofs.Common.{map, drop}
use Rattle.java_parser_grammar.specs.Members.{members_of}
use Rattle.java_parser_grammar.specs.Units.{IsMember}
use Rattle.java_parser.proofs.Zips.{Zips}
use Rattle.java_parser.proofs.members.members.Given as goal

abbrev pub invariant-loop-tokens : goal.invariant-loop-tokens
invariant-loop-tokens l = Zips (IsMember l.class) (members_of l.body) l.members (map (λ m. m.now)
    (drop l.tokens-index l.tokens-items))
