use Rattle.std.proofs.Common.{◌≡◌, codes, length}
use Rattle.std.specs.List.{list_any}
use Rattle.java_parser_grammar.specs.Tokens.{begins_word}
use Rattle.java_parser_grammar.specs.Pieces.{items_of}
use Rattle.java_parser.proofs.counts.has_static.Given as goal

abbrev pub invariant-loop-item : goal.invariant-loop-item
invariant-loop-item l = list_any (begins_word (codes "static")) (items_of l.rest)
    ≡ list_any (begins_word (codes "static")) (items_of l.front)

abbrev pub decreases-loop-item : goal.decreases-loop-item
decreases-loop-item l = length l.rest
