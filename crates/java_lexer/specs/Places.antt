-- A contract of a public call rests on this: `lex`. Places in a text: lines and columns from 1,
-- columns in bytes. A CR, an LF and a CR LF each end a line (JLS 3.4).
use Rattle.std.specs.Prelude.{◌≡◌, ◌≤◌, ℕ, ◌+◌, Bool, true, false, List, ◌==◌, if◌then◌else◌}
use Rattle.std.specs.Str.{byte}
use Rattle.std.specs.List.{fold}
use Rattle.racer_base.specs.declared.ids.FileId.{FileId}
use Rattle.racer_base.specs.declared.ids.Place.{Place}
use Rattle.java_lexer.specs.declared.spot.Spot.{Spot}

-- where a text begins
abbrev pub begin : Spot
begin = record { line = 1; column = 1; after_return = false }

-- the first column of the next line
abbrev pub next_line : Spot → Bool → Spot
next_line spot after_return = record { line = spot.line + 1; column = 1; after_return = after_return }

-- behind an LF: it ends the line, unless it belongs to the CR before it
abbrev pub line_feed : Spot → Spot
line_feed spot =
    if spot.after_return then record { line = spot.line; column = 1; after_return = false } else
    next_line spot false

-- behind one more byte
abbrev pub advance : Spot → ℕ → Spot
advance spot b =
    if b == byte "\r" then next_line spot true else
    (if b == byte "\n" then line_feed spot else
    record { line = spot.line; column = spot.column + 1; after_return = false })

-- behind these bytes
abbrev pub spot_behind : List ℕ → Spot
spot_behind bytes = fold advance begin bytes

abbrev pub place_at : FileId → Spot → Place
place_at file spot = record { file = file; line = spot.line; column = spot.column }

-- the place behind the first bytes of a file
abbrev pub place_behind : FileId → List ℕ → Place
place_behind file bytes = place_at file (spot_behind bytes)

-- the first of two places in one file is not behind the second
abbrev pub IsNotBehind : Place → Place → Type 0
IsNotBehind a b = (a.line ≤ b.line) × (a.line ≡ b.line → a.column ≤ b.column)
