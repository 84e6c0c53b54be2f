-- A contract of a public call rests on this: what stands on a command line.
use Rattle.std.specs.Prelude.{ℕ, Bool, true, false, not, ◌&&◌, ◌||◌, ◌==◌, List, [], ◌∷◌, Option, None, Some, ◌++◌}
use Rattle.std.specs.Prelude.{map, find, codes, bytes_eq, option_map, if◌then◌else◌}
use Rattle.std.specs.Prelude.{option_and_then}
use Rattle.std.specs.List.{list_any, before_first, after_first}

abbrev pub Word : Type 0
Word = List ℕ

-- the folder, the options with a value, and the flags
pub data Label : Type 0 where
  Folder : Label
  Workers : Label
  Replay : Label
  Made : Label
  Json : Label
  Summaries : Label
  History : Label
  Containers : Label
  Edits : Label
  Typed : Label

abbrev pub name_of : Label → Word
name_of Folder = codes "FOLDER"
name_of Workers = codes "workers"
name_of Replay = codes "replay"
name_of Made = codes "made"
name_of Json = codes "json"
name_of Summaries = codes "summaries"
name_of History = codes "history"
name_of Containers = codes "containers"
name_of Edits = codes "edits"
name_of Typed = codes "typed"

abbrev pub takes_value : Label → Bool
takes_value Json = false
takes_value Summaries = false
takes_value History = false
takes_value Containers = false
takes_value Typed = false
takes_value _ = true

-- all that have a name
abbrev pub labels : List Label
labels = Workers ∷ Replay ∷ Made ∷ Edits ∷ Json ∷ Summaries ∷ History ∷ Containers ∷ Typed ∷ []

abbrev pub label_of : Word → Option Label
label_of name = find (λ l. bytes_eq (name_of l) name) labels

-- the folder or an option with its word, or a flag with the word `true`
pub record Use : Type 0 where
  pub label : Label
  pub word : Word

abbrev pub one : Label → Word → Use
one l word = record { label = l; word = word }

-- a minus sign is 45, an equals sign 61
abbrev pub begins_with_minus : Word → Bool
begins_with_minus [] = false
begins_with_minus (b ∷ bs) = b == 45

-- a word that is neither an option nor a flag
abbrev pub is_plain : Word → Bool
is_plain word = not (begins_with_minus word) || bytes_eq word (codes "-")

-- what stands behind one minus sign
abbrev pub behind_minus : Word → Option Word
behind_minus [] = None
behind_minus (b ∷ bs) = if b == 45 then Some bs else None

-- the name behind two minus signs, and the value behind its first `=`, where one stands
abbrev pub long_part : Word → Word × Option Word
long_part text = (
  before_first (λ b. b == 61) text,
  if list_any (λ b. b == 61) text then Some (after_first (λ b. b == 61) text) else None,
)

abbrev pub long_name : Word → Option (Word × Option Word)
long_name word = option_map long_part (option_and_then behind_minus (behind_minus word))

-- one use before others, where these are uses
abbrev pub put : Label → Word → Option (List Use) → Option (List Use)
put l word = option_map (λ us. one l word ∷ us)

-- `--name=value` or `--name` with a name of these, and the words behind it, where the option of a name waits for its
-- value or none does
abbrev pub valued : Option Label → Option Word → (Option Label → Option (List Use)) → Option (List Use)
valued None value rest = None
valued (Some l) (Some value) rest = if takes_value l then put l value (rest None) else None
valued (Some l) None rest = if takes_value l then rest (Some l) else put l (codes "true") (rest None)

abbrev pub begun : Word → Option (Word × Option Word) → (Option Label → Option (List Use)) → Option (List Use)
begun word (Some p) rest = valued (label_of p.0) p.1 rest
begun word None rest = if is_plain word then put Folder word (rest None) else None

-- what words are uses of; behind `--` each word is a folder
unfoldable pub uses : Option Label → List Word → Option (List Use)
uses None [] = Some []
uses None (word ∷ words) =
    if bytes_eq word (codes "--") then Some (map (one Folder) words) else begun word (long_name word)
    (λ w. uses w words)
uses (Some l) [] = None
uses (Some l) (word ∷ words) = if is_plain word then put l word (uses None words) else None

abbrev pub has : Label → List Use → Bool
has l us = list_any (λ u. bytes_eq (name_of u.label) (name_of l)) us

-- none of the uses repeats an earlier one
unfoldable pub differ : List Use → List Use → Bool
differ earlier [] = true
differ earlier (u ∷ us) = not (has u.label earlier) && differ (earlier ++ u ∷ []) us

-- the uses that the words are, where none of them repeats an earlier one
abbrev pub read : List Word → Option (List Use)
read words = option_and_then (λ us. if differ [] us then Some us else None) (uses None words)

-- the word that was given
abbrev pub given : Label → List Use → Option Word
given l us = option_map (λ u. u.word) (find (λ u. bytes_eq (name_of u.label) (name_of l)) us)

-- all that stands on the line, whatever its order
pub record Line : Type 0 where
  pub folder : Option Word
  pub workers : Option Word
  pub replay : Option Word
  pub made : Option Word
  pub edits : Option Word
  pub json : Bool
  pub summaries : Bool
  pub history : Bool
  pub containers : Bool
  pub typed : Bool

abbrev pub line_of : List Use → Line
line_of us = record {
  folder = given Folder us;
  workers = given Workers us;
  replay = given Replay us;
  made = given Made us;
  edits = given Edits us;
  json = has Json us;
  summaries = has Summaries us;
  history = has History us;
  containers = has Containers us;
  typed = has Typed us;
}

abbrev pub line : List Word → Option Line
line words = option_map line_of (read words)
