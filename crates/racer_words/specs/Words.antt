-- A contract of a public call rests on this: what the words of a command line ask for.
use Rattle.std.specs.Prelude.{ℕ, Bool, not, ◌&&◌, ◌||◌, List, [], ◌∷◌, Option, None, Some, codes, bytes_eq}
use Rattle.std.specs.Prelude.{is_some, option_map, option_and_then, if◌then◌else◌}
use Rattle.std.specs.List.{list_all, list_any}
use Rattle.container_cells.specs.declared.cell.Containers.{Containers}
use Rattle.container_cells.specs.declared.cell.Containers.TheVariants.{Opaque, WithCells}
use Rattle.race_report_modes.specs.declared.Format.{Format}
use Rattle.race_report_modes.specs.declared.Format.TheVariants.{Text, Json as AsJson}
use Rattle.race_report_modes.specs.declared.Mode.{Mode}
use Rattle.racer_words_numbers.specs.Numbers.{up_to, workers_of}
use Rattle.racer_words.specs.Uses.{Word, Line, Label, Folder, Workers, Json, Summaries, History, labels, name_of, line}
use Rattle.racer_words.specs.Uses.{Replay as LabelReplay, Made as LabelMade, Containers as LabelContainers, Typed}
use Rattle.racer_words.specs.Uses.{Edits as LabelEdits}

-- a report on the folder of this name, by so many workers, with their history or without, with the typings of its
-- classes or without, where containers are this
pub record WantedReport : Type 0 where
  pub folder : Word
  pub mode : Mode
  pub workers : ℕ
  pub history : Bool
  pub containers : Containers
  pub typed : Bool

-- the replay of the witness in this file of the folder of this name, where containers are this
pub record WantedReplay : Type 0 where
  pub folder : Word
  pub witness : Word
  pub containers : Containers

-- a report in numbers on a folder made of so many classes, by so many workers
pub record WantedMade : Type 0 where
  pub number : ℕ
  pub workers : ℕ

-- the edits in this file of the folder of this name, one after the other
pub record WantedEdits : Type 0 where
  pub folder : Word
  pub edits : Word

pub data Request : Type 0 where
  ReportOn : WantedReport → Request
  ReplayOf : WantedReplay → Request
  MadeOf : WantedMade → Request
  EditsOf : WantedEdits → Request

-- a name of a folder or a file
abbrev pub is_name : Word → Bool
is_name word = not (bytes_eq word []) && not (bytes_eq word (codes "-"))

-- ---- what may stand beside what

-- a command line asks for a report, for the replay of a witness, for a made folder, or for a session of edits
pub data Form : Type 0 where
  ForReport : Form
  ForReplay : Form
  ForMade : Form
  ForEdits : Form

-- the table: what may stand on a command line of each form
abbrev pub stands_on : Form → List Label
stands_on ForReport = Folder ∷ Workers ∷ Json ∷ Summaries ∷ History ∷ LabelContainers ∷ Typed ∷ []
stands_on ForReplay = Folder ∷ LabelReplay ∷ LabelContainers ∷ []
stands_on ForMade = LabelMade ∷ Workers ∷ []
stands_on ForEdits = Folder ∷ LabelEdits ∷ []

-- the form of a line, by the option that stands there for it
abbrev pub form_of : Line → Form
form_of line =
    if is_some line.made then ForMade else if is_some line.replay then ForReplay
    else if is_some line.edits then ForEdits else ForReport

abbrev pub is_given : Line → Label → Bool
is_given line Folder = is_some line.folder
is_given line Workers = is_some line.workers
is_given line LabelReplay = is_some line.replay
is_given line LabelMade = is_some line.made
is_given line Json = line.json
is_given line Summaries = line.summaries
is_given line History = line.history
is_given line LabelContainers = line.containers
is_given line LabelEdits = is_some line.edits
is_given line Typed = line.typed

abbrev pub may_stand : Form → Label → Bool
may_stand form label = list_any (λ l. bytes_eq (name_of l) (name_of label)) (stands_on form)

-- all that stands on the line may stand there
abbrev pub is_right : Line → Label → Bool
is_right line label = not (is_given line label) || may_stand (form_of line) label

abbrev pub stands_right : Line → Bool
stands_right line = list_all (is_right line) (Folder ∷ labels)

-- ---- what is asked for

abbrev pub format_of : Bool → Format
format_of json = if json then AsJson else Text

abbrev pub mode_of : Line → Mode
mode_of line = record { format = format_of line.json; summaries = line.summaries }

abbrev pub containers_of : Bool → Containers
containers_of given = if given then WithCells else Opaque

abbrev pub report_by : Line → Word → ℕ → Request
report_by line folder workers =
    ReportOn (record {
      folder = folder;
      mode = mode_of line;
      workers = workers;
      history = line.history;
      containers = containers_of line.containers;
      typed = line.typed;
    })

-- a report on the folder
abbrev pub report : Line → Word → Option Request
report line folder = if is_name folder then option_map (report_by line folder) (workers_of line.workers) else None

-- the replay of a witness of the folder
abbrev pub replay : Containers → Word → Word → Option Request
replay containers folder witness =
    if is_name folder && is_name witness
    then Some (ReplayOf (record { folder = folder; witness = witness; containers = containers }))
    else None

abbrev pub made_by : ℕ → ℕ → Request
made_by number workers = MadeOf (record { number = number; workers = workers })

-- a folder made of so many classes
abbrev pub made : Line → Word → Option Request
made line count = option_and_then (λ n. option_map (made_by n) (workers_of line.workers)) (up_to 800 count)

-- the edits in a file of the folder
abbrev pub edits : Word → Word → Option Request
edits folder file =
    if is_name folder && is_name file then Some (EditsOf (record { folder = folder; edits = file })) else None

-- what a line of this form asks for
abbrev pub asked_as : Form → Line → Option Request
asked_as ForReport line = option_and_then (report line) line.folder
asked_as ForReplay line =
    option_and_then (λ folder. option_and_then (replay (containers_of line.containers) folder) line.replay)
    line.folder
asked_as ForMade line = option_and_then (made line) line.made
asked_as ForEdits line = option_and_then (λ folder. option_and_then (edits folder) line.edits) line.folder

abbrev pub asked_by : Line → Option Request
asked_by line = if stands_right line then asked_as (form_of line) line else None

-- what the words ask for, if they are those of a command line
abbrev pub request_of : List Word → Option Request
request_of words = option_and_then asked_by (line words)
