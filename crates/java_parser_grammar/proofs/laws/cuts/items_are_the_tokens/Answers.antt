use Rattle.java_parser_grammar.proofs.Joined.{joined_items, joined_pieces}
use Rattle.java_parser_grammar.proofs.laws.cuts.items_are_the_tokens.Goals as goal

pub returns : goal.returns
returns c = record { items = λ ts. joined_items 0 ts; pieces = λ ts. joined_pieces ts }
