use Rattle.std.proofs.Common.{◌≡◌, map, length}
use Rattle.java_parser_grammar.specs.Tokens.{is_keyword_of}
use Rattle.java_parser_grammar.specs.Pieces.{pieces_of}
use Rattle.java_parser_grammar.specs.Members.{behind_words}
use Rattle.java_parser.proofs.forms.behind_words.Given as goal

abbrev pub invariant-loop-piece : goal.invariant-loop-piece
invariant-loop-piece l = behind_words (is_keyword_of (map (λ word. word.now) l.words)) (pieces_of l.rest)
    ≡ behind_words (is_keyword_of (map (λ word. word.now) l.words)) (pieces_of l.tokens)

abbrev pub decreases-loop-piece : goal.decreases-loop-piece
decreases-loop-piece l = length l.rest
