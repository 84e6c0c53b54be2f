-- One use of a label: the row that it adds, and that a second one fails.
use Rattle.std.proofs.Common.{◌≡◌, ◌||◌, Bool, true, false, List, [], ◌∷◌, ◌++◌, Some, None, map, codes, bytes_eq}
use Rattle.std.proofs.Common.{refl, ap, ◌∙◌}
use Rattle.std.proofs.lemmas.Bool.{or_parts}
use Rattle.std.proofs.lemmas.List.{append-nil}
use Rattle.clap.specs.Walk.{Row, Text, more_values, reading_by, has_row, at_row, without, with_values, used}
use Rattle.clap.specs.Walk.{values_or_missing}
use Rattle.clap.specs.Faults.{use_fault}
use Rattle.clap.specs.declared.builder.value_parser.Reading.{Reading}
use Rattle.clap.specs.declared.parser.matches.ValueSource.TheVariants.{CommandLine}
use Rattle.racer_words.specs.Uses.{Word, Label, Folder, Workers, Replay, Made, Edits, Json, Summaries, History, name_of}
use Rattle.racer_words.specs.Uses.{Containers, Typed}
use Rattle.racer_words.specs.Uses.{takes_value, Use, one, has}
use Rattle.racer_words.specs.Command.{fails}
use Rattle.racer_words.proofs.BuiltRules.{built_rule}

-- the word of an option or the folder, and that of a flag
abbrev pub due_word : Bool → Word → Word
due_word true word = word
due_word false word = codes "true"

abbrev pub row_of_use : Use → Row
row_of_use u = record {
  id = name_of u.label;
  values = due_word (takes_value u.label) u.word ∷ [];
  count = None;
  source = Some CommandLine;
  reading = reading_by (built_rule u.label);
}

abbrev pub rows_of_uses : List Use → List Row
rows_of_uses = map row_of_use

pub has_rows : (l : Label) (us : List Use) → has_row (name_of l) (rows_of_uses us) ≡ has l us
has_rows l [] = refl
has_rows l (u ∷ us) = ap (λ b. bytes_eq (name_of u.label) (name_of l) || b) (has_rows l us)

pub at_end : (id : Text) (change : Row → List Row) (missing rows : List Row) → has_row id rows ≡ false
    → at_row id change missing rows ≡ rows ++ missing
at_end id change missing [] e = refl
at_end id change missing (r ∷ rs) e =
    rw (or_parts (bytes_eq r.id id) (has_row id rs) e).0 (ap (λ more. r ∷ more)
    (at_end id change missing rs (or_parts (bytes_eq r.id id) (has_row id rs) e).1))

kept : (id : Text) (rows : List Row) → has_row id rows ≡ false → without id rows ≡ rows
kept id rows e = at_end id (λ _. []) [] rows e ∙ append-nil rows

set_row : (id : Text) (how : Reading) (values : List Text) (rows : List Row) → has_row id rows ≡ false
    → with_values id how CommandLine values (without id rows) ≡ rows ++ record {
      id = id;
      values = values;
      count = None;
      source = Some CommandLine;
      reading = how;
    } ∷ []
set_row id how values rows e = rw (kept id rows e) (at_end id (more_values CommandLine values) (record {
  id = id;
  values = values;
  count = None;
  source = Some CommandLine;
  reading = how;
} ∷ []) rows e)

-- a use with a value, or one of a flag
abbrev pub Fits : Label → List Text → Word → Type 0
Fits l values word = values_or_missing (built_rule l) values ≡ word ∷ []

set_as : (l : Label) (values : List Text) (rows : List Row) → used (built_rule l) values rows
    ≡ with_values (name_of l) (reading_by (built_rule l)) CommandLine (values_or_missing (built_rule l) values)
    (without (name_of l) rows)
set_as Folder values rows = refl
set_as Workers values rows = refl
set_as Replay values rows = refl
set_as Made values rows = refl
set_as Edits values rows = refl
set_as Json values rows = refl
set_as Summaries values rows = refl
set_as History values rows = refl
set_as Containers values rows = refl
set_as Typed values rows = refl

pub used_row : (l : Label) (values : List Text) (word : Word) (rows : List Row)
    → Fits l values (due_word (takes_value l) word) → has_row (name_of l) rows ≡ false
    → used (built_rule l) values rows ≡ rows ++ row_of_use (one l word) ∷ []
used_row l values word rows fits e = set_as l values rows ∙ rw fits
    (set_row (name_of l) (reading_by (built_rule l)) (due_word (takes_value l) word ∷ []) rows e)

-- the values that are given for an option or the folder, and for a flag
abbrev pub given_values : Bool → Word → List Text
given_values true word = word ∷ []
given_values false word = []

pub fits : (l : Label) (word : Word) → Fits l (given_values (takes_value l) word) (due_word (takes_value l) word)
fits Folder word = refl
fits Workers word = refl
fits Replay word = refl
fits Made word = refl
fits Edits word = refl
fits Json word = refl
fits Summaries word = refl
fits History word = refl
fits Containers word = refl
fits Typed word = refl

pub first_use : (l : Label) (word : Word) (rows : List Row) → has_row (name_of l) rows ≡ false
    → use_fault false (built_rule l) (given_values (takes_value l) word) rows ≡ []
first_use Folder word rows e = rw e refl
first_use Workers word rows e = rw e refl
first_use Replay word rows e = rw e refl
first_use Made word rows e = rw e refl
first_use Edits word rows e = rw e refl
first_use Json word rows e = rw e refl
first_use Summaries word rows e = rw e refl
first_use History word rows e = rw e refl
first_use Containers word rows e = rw e refl
first_use Typed word rows e = rw e refl

pub second_use : (l : Label) (word : Word) (rows : List Row) → has_row (name_of l) rows ≡ true
    → fails (use_fault false (built_rule l) (given_values (takes_value l) word) rows) ≡ true
second_use Folder word rows e = rw e refl
second_use Workers word rows e = rw e refl
second_use Replay word rows e = rw e refl
second_use Made word rows e = rw e refl
second_use Edits word rows e = rw e refl
second_use Json word rows e = rw e refl
second_use Summaries word rows e = rw e refl
second_use History word rows e = rw e refl
second_use Containers word rows e = rw e refl
second_use Typed word rows e = rw e refl

-- an option without a value
pub no_value : (l : Label) (rows : List Row) → takes_value l ≡ true
    → fails (use_fault false (built_rule l) [] rows) ≡ true
no_value Folder rows e = refl
no_value Workers rows e = refl
no_value Replay rows e = refl
no_value Made rows e = refl
no_value Edits rows e = refl
no_value Json rows e = absurd (cc e)
no_value Summaries rows e = absurd (cc e)
no_value History rows e = absurd (cc e)
no_value Containers rows e = absurd (cc e)
no_value Typed rows e = absurd (cc e)
