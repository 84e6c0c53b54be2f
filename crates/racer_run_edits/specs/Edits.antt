-- A contract of a public call rests on this: the edits that a file has, or where it has none.
use Rattle.std.specs.Prelude.{ℕ, suc, Bool, not, ◌&&◌, List, [], ◌∷◌, Option, None, Some, Result, Ok, Err}
use Rattle.std.specs.Prelude.{bytes_eq, length, nat_eq, nat_lt, if◌then◌else◌}
use Rattle.std.specs.List.{after_first, before_first, list_any}
use Rattle.std.specs.Str.{is_utf8}
use Rattle.racer_base.specs.Outside.{same_name}
use Rattle.racer_base.specs.declared.limits.TheConstants.{MAX_FILE_BYTES}
use Rattle.racer_run_edits.specs.declared.edit_lines.TheConstants.{MAX_EDITS}

-- the file of this name gets what stands in that one
pub record Edit : Type 0 where
  pub file : List ℕ
  pub content : List ℕ

-- why a file has no edits: it is too long, or this line of it, counted from 1, is none
pub data NoEdits : Type 0 where
  TooLong : NoEdits
  BadLine : (line : ℕ) → NoEdits

-- a byte before what stands behind it: it begins a line where nothing does
abbrev pub begun : ℕ → List (List ℕ) → List (List ℕ)
begun b [] = (b ∷ []) ∷ []
begun b (line ∷ lines) = (b ∷ line) ∷ lines

-- the lines of a text: each ends at a line feed, which is 10 and the last one may lack
unfoldable pub lines : List ℕ → List (List ℕ)
lines [] = []
lines (b ∷ bs) = if nat_eq b 10 then [] ∷ lines bs else begun b (lines bs)

-- a space is 32
abbrev pub is_space : ℕ → Bool
is_space b = nat_eq b 32

-- a name that may stand in a line
abbrev pub is_word : List ℕ → Bool
is_word name = not (bytes_eq name []) && not (list_any is_space name) && is_utf8 name

-- a line is the name of a source, one space, and a name
abbrev pub is_edit : List (List ℕ) → List ℕ → Bool
is_edit sources line =
    list_any is_space line && is_word (before_first is_space line) && is_word (after_first is_space line)
    && list_any (same_name (before_first is_space line)) sources

abbrev pub edit_of : List ℕ → Edit
edit_of line = record { file = before_first is_space line; content = after_first is_space line }

-- an edit before others, where these are edits
abbrev pub put : Edit → Result (List Edit) NoEdits → Result (List Edit) NoEdits
put edit (Ok edits) = Ok (edit ∷ edits)
put edit (Err why) = Err why

-- the edits of these lines, of which the first has this number
abbrev pub edits_from : List (List ℕ) → ℕ → List (List ℕ) → Result (List Edit) NoEdits
edits_from sources n [] = Ok []
edits_from sources n (line ∷ lines) =
    if nat_lt MAX_EDITS n then Err (BadLine n)
    else if is_edit sources line then put (edit_of line) (edits_from sources (suc n) lines)
    else Err (BadLine n)

-- the edits of a file with these bytes, in a folder with these sources
abbrev pub edits_in : List (List ℕ) → List ℕ → Result (List Edit) NoEdits
edits_in sources bytes =
    if nat_lt MAX_FILE_BYTES (length bytes) then Err TooLong else edits_from sources 1 (lines bytes)
