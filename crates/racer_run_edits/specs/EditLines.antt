-- A contract of a public call rests on this: `edits_in`. The edits of a file, as the code has them.
use Rattle.std.specs.Prelude.{◌≡◌, ℕ, ◌<◌, Bool, true, false, List, [], ◌∷◌, Option, None, Some, Result, Ok, Err}
use Rattle.std.specs.Prelude.{MatchOption, length, map, nat_eq, Vec}
use Rattle.std.specs.Global.{Global}
use Rattle.std.specs.Borrow.{Bor}
use Rattle.racer_run_edits.specs.declared.edit_lines.EditLine.{EditLine}
use Rattle.racer_run_edits.specs.declared.edit_lines.EditsFault.{EditsFault}
use Rattle.racer_run_edits.specs.declared.edit_lines.EditsFault.TheVariants as fault
use Rattle.racer_run_edits.specs.Edits.{Edit, NoEdits, TooLong, BadLine, edit_of, edits_in, is_edit, is_word, lines}

abbrev pub byte_is : ℕ → ℕ → Bool
byte_is wanted b = nat_eq b wanted

abbrev pub seen : EditLine → Edit
seen edit = record { file = edit.file.now; content = edit.content.now }

abbrev pub views : Bor (List ℕ) × Bor (List ℕ) → List ℕ × List ℕ
views parts = (parts.0.now, parts.1.now)

-- the first line and the text behind it, which is shorter
abbrev pub lines_cut : List ℕ → Option (List ℕ × List ℕ) → Type 0
lines_cut text None = text ≡ []
lines_cut text (Some parts) = (lines text ≡ parts.0 ∷ lines parts.1) × (length parts.1 < length text)

abbrev pub word_in : List ℕ → Option (List ℕ) → Type 0
word_in bytes found = MatchOption found (is_word bytes ≡ false) (λ word. (is_word bytes ≡ true) × (word ≡ bytes))

abbrev pub IsEdit : List (List ℕ) → List ℕ → Option EditLine → Type 0
IsEdit sources line found = MatchOption found (is_edit sources line ≡ false)
    (λ edit. (is_edit sources line ≡ true) × (seen edit ≡ edit_of line))

-- what is answered for the edits of a file
abbrev pub AreEdits : List (List ℕ) → List ℕ → Result (Vec EditLine Global) EditsFault → Type 0
AreEdits sources bytes (Ok edits) = edits_in sources bytes ≡ Ok (map seen edits.items)
AreEdits sources bytes (Err fault.TooLong) = edits_in sources bytes ≡ Err TooLong
AreEdits sources bytes (Err (fault.BadLine n)) = edits_in sources bytes ≡ Err (BadLine n)
AreEdits sources bytes (Err fault.Memory) = Unit {0}
