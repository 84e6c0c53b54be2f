-- A contract of a public call rests on this: the choice between a lambda, a cast and parentheses by the first
-- parenthesis behind a `(` (JLS 15.16, 15.27).
use Rattle.std.specs.Prelude.{Bool, false, ◌&&◌, List, [], ◌∷◌, Option, Some, None, is_none, codes, if◌then◌else◌}
use Rattle.java_tree.specs.declared.words.Spelled.{Spelled}
use Rattle.java_tree.specs.Brackets.{is_sign}

-- the tokens behind the first `)`, where no `(` stands before it: a type has neither
unfoldable pub behind_first : List Spelled → Option (List Spelled)
behind_first [] = None
behind_first (t ∷ ts) =
    if is_sign (codes "(") t then None
    else (if is_sign (codes ")") t then Some ts else behind_first ts)

-- whether a `(` is in front, and the first parenthesis behind it is no `)`
abbrev pub nests : List Spelled → Bool
nests [] = false
nests (t ∷ ts) = is_sign (codes "(") t && is_none (behind_first ts)
