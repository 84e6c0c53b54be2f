-- No public contract rests on this: whether a class that is made goes on.
use Rattle.std.specs.Prelude.{List, Option, None, codes, if◌then◌else◌}
use Rattle.java_tree.specs.declared.words.Spelled.{Spelled}
use Rattle.java_tree.specs.Trees.{Part}
use Rattle.java_parser_grammar.specs.Taking.{after_sign}
use Rattle.java_parser_grammar.specs.TypeReading.{is_diamond}

-- the tokens behind the point that goes on from a part, where one does: none does from a part with `< >`
abbrev pub point_behind : Part → List Spelled → Option (List Spelled)
point_behind p ts = if is_diamond p then None else after_sign (codes ".") ts
