-- A contract of a public call rests on this: items outside brackets, and annotations among them (JLS 9.7).
use Rattle.std.specs.Prelude.{ℕ, zero, suc, ◌-◌, ◌==◌, ◌&&◌, Bool, false, List, [], ◌∷◌, map, length, take, codes}
use Rattle.std.specs.Prelude.{if◌then◌else◌}
use Rattle.java_lexer.specs.declared.token.Token.{Token}
use Rattle.java_parser_grammar.specs.Tokens.{is_name, begins, begins_sign}
use Rattle.java_parser_grammar.specs.Cuts.{with_cut, joined}
use Rattle.java_parser_grammar.specs.Brackets.{depth_behind}

-- a token that is no bracket, or a pair of brackets with what stands in it; a test of its first token is one of it
abbrev pub Item : Type 0
Item = List Token

-- the items of tokens, where so many brackets are open: cut where none is
abbrev pub items_from : (open_brackets : ℕ) → List Token → List Item
items_from n [] = []
items_from n (t ∷ ts) = with_cut (depth_behind n t == 0) t (items_from (depth_behind n t) ts)

abbrev pub items_of : List Token → List Item
items_of ts = items_from 0 ts

-- the tokens between the first and the last
abbrev pub inside : List Token → List Token
inside [] = []
inside (t ∷ ts) = take (length ts - 1) ts

-- ---- annotations

-- how many items go on with an annotation behind one of its names: points with names, and then parentheses
abbrev pub more_of_annotation : List Item → ℕ
more_of_annotation [] = 0
more_of_annotation (i ∷ []) = if begins_sign (codes "(") i then 1 else 0
more_of_annotation (i ∷ j ∷ is) =
    if begins_sign (codes ".") i && begins is_name j then suc (suc (more_of_annotation is))
    else (if begins_sign (codes "(") i then 1 else 0)

-- how many items go on with what the first begins: an annotation begins with `@` and a name
abbrev pub more_of_piece : List Item → ℕ
more_of_piece (i ∷ j ∷ is) = if begins_sign (codes "@") i && begins is_name j then suc (more_of_annotation is) else 0
more_of_piece _ = 0

-- how many items of its piece stand behind the first of these: it begins a piece, or is one of so many that were left
abbrev pub left_behind : (left : ℕ) → List Item → ℕ
left_behind zero is = more_of_piece is
left_behind (suc left) is = left

-- cut where none of a piece is left
abbrev pub cut_pieces : (left : ℕ) → List Item → List (List Item)
cut_pieces left [] = []
cut_pieces left (i ∷ is) =
    with_cut (left_behind left (i ∷ is) == 0) i (cut_pieces (left_behind left (i ∷ is)) is)

-- an item outside annotations, or all items of one annotation
abbrev pub Piece : Type 0
Piece = List Token

-- an annotation wherever one begins, as long as it goes on
abbrev pub pieces_of : List Token → List Piece
pieces_of ts = map joined (cut_pieces 0 (items_of ts))

-- an `@` alone is none
abbrev pub is_annotation : Piece → Bool
is_annotation (t ∷ u ∷ ts) = begins_sign (codes "@") (t ∷ u ∷ ts)
is_annotation _ = false
