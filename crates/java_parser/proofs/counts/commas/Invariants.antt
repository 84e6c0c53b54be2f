use Rattle.std.proofs.Common.{◌≡◌, ◌+◌, ◌≤◌, length}
use Rattle.java_parser_grammar.specs.Pieces.{items_of}
use Rattle.java_parser_grammar.specs.Heads.{commas_among}
use Rattle.java_parser.proofs.counts.commas.Given as goal

abbrev pub invariant-loop-item : goal.invariant-loop-item
invariant-loop-item l = record {
  counted : l.count + commas_among l.angles (items_of l.rest) ≡ commas_among 0 (items_of l.tokens);
  few : l.count + length l.rest ≤ length l.tokens;
  shallow : l.angles + length l.rest ≤ length l.tokens;
}

abbrev pub decreases-loop-item : goal.decreases-loop-item
decreases-loop-item l = length l.rest
