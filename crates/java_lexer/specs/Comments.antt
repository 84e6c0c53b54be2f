-- A contract of a public call rests on this: `lex`. Comments (JLS 3.7) and line ends (JLS 3.4).
use Rattle.std.specs.Prelude.{ℕ, Bool, false, not, ◌&&◌, ◌||◌, List, [], ◌∷◌, length, drop, codes, nat_eq, ◌==◌}
use Rattle.std.specs.Prelude.{if◌then◌else◌}
use Rattle.std.specs.Str.{byte}
use Rattle.std.specs.List.{list_all, starts_with}

-- an LF or a CR (JLS 3.4)
abbrev pub is_line_end : ℕ → Bool
is_line_end b = b == byte "\n" || b == byte "\r"

abbrev pub is_inline : ℕ → Bool
is_inline b = not (is_line_end b)

-- `//` up to the line's end
abbrev pub is_line_comment : List ℕ → Bool
is_line_comment bytes = starts_with nat_eq bytes (codes "//") && list_all is_inline (drop 2 bytes)

abbrev pub closes : List ℕ → Bool
closes bytes = starts_with nat_eq bytes (codes "*/")

-- the first `*/` is the end
abbrev pub ends_closed : List ℕ → Bool
ends_closed [] = false
ends_closed (b ∷ bs) = if closes (b ∷ bs) then length bs == 1 else ends_closed bs

-- `/*` up to the next `*/`
abbrev pub is_block_comment : List ℕ → Bool
is_block_comment bytes = starts_with nat_eq bytes (codes "/*") && ends_closed (drop 2 bytes)

abbrev pub is_comment : List ℕ → Bool
is_comment bytes = is_line_comment bytes || is_block_comment bytes
