-- No public contract rests on this: how many tokens stand before the first cut.
use Rattle.std.specs.Prelude.{ℕ, suc, ◌==◌, List, [], ◌∷◌, if◌then◌else◌}
use Rattle.java_lexer.specs.declared.token.Token.{Token}
use Rattle.java_parser_grammar.specs.Brackets.{depth_behind}

-- how many tokens the first item has, where so many brackets are open
abbrev pub item_size : ℕ → List Token → ℕ
item_size n [] = 0
item_size n (t ∷ ts) = if depth_behind n t == 0 then 1 else suc (item_size (depth_behind n t) ts)
