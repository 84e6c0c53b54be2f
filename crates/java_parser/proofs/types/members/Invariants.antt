use Rattle.std.proofs.Common.{◌≡◌, ◌++◌, not, map, length}
use Rattle.std.specs.Prelude.{filter}
use Rattle.java_parser_grammar.specs.Members.{is_lone, members_of}
use Rattle.java_parser.specs.Members.{cut_of}
use Rattle.java_parser.proofs.types.members.Given as goal

abbrev pub invariant-loop-member : goal.invariant-loop-member
invariant-loop-member l = map (λ m. m.now) l.members.items ++ filter (λ m. not (is_lone m)) (cut_of l.rest)
    ≡ members_of l.body

abbrev pub decreases-loop-member : goal.decreases-loop-member
decreases-loop-member l = length l.rest
