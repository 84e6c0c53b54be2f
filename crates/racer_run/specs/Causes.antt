-- A contract of a public call rests on this: why a run ends with a status.
use Rattle.std.specs.Prelude.{◌≡◌, ◌⊎◌, ℕ, Bool, true, ◌<◌, ◌≤◌, IfSome, IsSomeAnd}
use Rattle.std.specs.Prelude.{List, Option, None, Some, String, length, map, take, string_bytes}
use Rattle.std.specs.FinMap.{contains_key}
use Rattle.std.specs.Global.{Global}
use Rattle.racer_base.specs.Outside.{Told, taken_and}
use Rattle.racer_run.specs.declared.output.RunOutput.{RunOutput}
use Rattle.racer_run.specs.declared.status.Status.{Status}
use Rattle.racer_run.specs.declared.status.Status.TheVariants.{Clean, Warned, Usage, FolderFault, SinkFault, Refused}
use Rattle.racer_run.specs.declared.status.Status.TheVariants.{Memory, NoRace, NotAWitness, NotEdits}
use Rattle.racer_words.specs.Words.{Request, ReportOn, ReplayOf, MadeOf, EditsOf, request_of}
use Rattle.racer_run.specs.Requests.{is_on_folder}
use Rattle.racer_run.specs.RunOutputs.{usage_text, fault_text, SaysReport}
use Rattle.racer_run.specs.Replays.{SaysReplay}
use Rattle.racer_run.specs.Made.{SaysMade}
use Rattle.racer_run.specs.Sessions.{SaysEdits, HasEdits}
use Rattle.racer_run.specs.Statuses.{is_report_status, is_replay_status, is_made_status, is_edits_status}

-- What can be seen of a call's words and folder: the words, what the folder tells, and its counts of faults.
pub record Invocation : Type 0 where
  pub words : List (List ℕ)
  pub told : Option Told
  pub before : ℕ
  pub after : ℕ

-- the words, and a folder before and after the call, as folders of its kind tell and count
abbrev pub asked_of : {F : Type 0} → (F → Option Told) → (F → ℕ) → List (String Global) → F → F → Invocation
asked_of told faults words old new =
    record { words = map string_bytes words; told = told old; before = faults old; after = faults new }

-- the request can be answered over a folder that tells this: it is the folder that is asked for, and a witness is one
-- of its files, or a file of edits, with each file that these name
abbrev pub IsFor : Request → Told → Type 0
IsFor (ReportOn wanted) told = wanted.folder ≡ told.name
IsFor (ReplayOf wanted) told = (wanted.folder ≡ told.name) × (contains_key told.files wanted.witness ≡ true)
IsFor (MadeOf wanted) told = Unit {0}
IsFor (EditsOf wanted) told = (wanted.folder ≡ told.name) × HasEdits told.files wanted.edits

-- the words make such a request
abbrev pub AsksFor : List (String Global) → Told → Type 0
AsksFor words told =
    (request : Request) × IsFor request told × (request_of (map string_bytes words) ≡ Some request)

-- What can be seen of its sink: the counts of faults, and the bytes taken where it tells them.
pub record Wrote : Type 0 where
  pub before : ℕ
  pub after : ℕ
  pub taken_before : Option (List ℕ)
  pub taken_after : Option (List ℕ)

-- a sink before and after the call, as sinks of its kind count and tell
abbrev pub wrote_of : {S : Type 0} → (S → ℕ) → (S → Option (List ℕ)) → S → S → Wrote
wrote_of faults taken old new =
    record { before = faults old; after = faults new; taken_before = taken old; taken_after = taken new }

-- the whole text was written
pub record IsWhole (wrote : Wrote) (text : List ℕ) : Type 0 where
  pub taken : wrote.taken_after ≡ taken_and wrote.taken_before text
  pub no_fault : wrote.after ≡ wrote.before

-- a front of the text was written, and then the sink failed
pub record IsFront (wrote : Wrote) (text : List ℕ) : Type 0 where
  pub many : ℕ
  pub front : many < length text
  pub taken : wrote.taken_after ≡ taken_and wrote.taken_before (take many text)
  pub fault : wrote.before < wrote.after

-- nothing was written
pub record IsNothing (wrote : Wrote) : Type 0 where
  pub taken : wrote.taken_after ≡ wrote.taken_before
  pub no_fault : wrote.after ≡ wrote.before

-- the words ask for nothing, and the folder was left alone
pub record IsUsage (asked : Invocation) (text : List ℕ) : Type 0 where
  pub nothing : request_of asked.words ≡ None
  pub line : text ≡ usage_text
  pub no_fault : asked.after ≡ asked.before

-- the words ask for something on a folder, and its count of faults rose
pub record IsFault (asked : Invocation) (text : List ℕ) : Type 0 where
  pub request : Request
  pub asks : request_of asked.words ≡ Some request
  pub on_folder : is_on_folder request ≡ true
  pub line : text ≡ fault_text
  pub fault : asked.before < asked.after

-- the folder that was entered is the one that is asked for
abbrev pub IsEntered : Request → Told → Type 0
IsEntered (ReportOn wanted) told = wanted.folder ≡ told.name
IsEntered (ReplayOf wanted) told = wanted.folder ≡ told.name
IsEntered (MadeOf wanted) told = Unit {0}
IsEntered (EditsOf wanted) told = wanted.folder ≡ told.name

-- this is what is said to a request, by what the folder tells
abbrev pub Says : Request → Option Told → RunOutput → Type 0
Says (ReportOn wanted) tells said = IfSome tells (λ told. SaysReport wanted told.files said)
Says (ReplayOf wanted) tells said = IfSome tells (λ told. SaysReplay wanted told.files said)
Says (MadeOf wanted) tells said = SaysMade wanted said
Says (EditsOf wanted) tells said = IfSome tells (λ told. SaysEdits wanted told.files said)

-- the statuses of what is said to a request
abbrev pub is_said_to : Request → Status → Bool
is_said_to (ReportOn wanted) = is_report_status
is_said_to (ReplayOf wanted) = is_replay_status
is_said_to (MadeOf wanted) = is_made_status
is_said_to (EditsOf wanted) = is_edits_status

-- the words make this request, the folder did not fail, and this is what is said
pub record IsSaid (status : Status) (asked : Invocation) (text : List ℕ) : Type 0 where
  pub request : Request
  pub asks : request_of asked.words ≡ Some request
  pub entered : IfSome asked.told (IsEntered request)
  pub said : Says request asked.told (record { status = status; text = text })
  pub fits : is_said_to request status ≡ true
  pub no_fault : asked.after ≡ asked.before

-- what each status comes from, but for those of the sink and of memory, and the text that is due then
abbrev pub IsDue : Status → Invocation → List ℕ → Type 0
IsDue Clean asked text = IsSaid Clean asked text
IsDue Warned asked text = IsSaid Warned asked text
IsDue Usage asked text = IsUsage asked text
IsDue FolderFault asked text = IsFault asked text
IsDue SinkFault asked text = ⊥
IsDue Refused asked text = IsSaid Refused asked text
IsDue Memory asked text = ⊥
IsDue NoRace asked text = IsSaid NoRace asked text
IsDue NotAWitness asked text = IsSaid NotAWitness asked text
IsDue NotEdits asked text = IsSaid NotEdits asked text

-- each text that may be due is at most so long
abbrev pub IsRoomFor : ℕ → Invocation → Type 0
IsRoomFor room asked = (status : Status) (text : List ℕ) → IsDue status asked text → length text ≤ room

-- the text that is due was written whole
pub record IsAnswer (status : Status) (asked : Invocation) (wrote : Wrote) : Type 0 where
  pub text : List ℕ
  pub due : IsDue status asked text
  pub whole : IsWhole wrote text

-- the sink failed before the text that was due was written whole
pub record IsCut (asked : Invocation) (wrote : Wrote) : Type 0 where
  pub status : Status
  pub text : List ℕ
  pub due : IsDue status asked text
  pub front : IsFront wrote text

-- why a run ends with this status
abbrev pub IsCause : Status → Invocation → Wrote → Type 0
IsCause Clean asked wrote = IsAnswer Clean asked wrote
IsCause Warned asked wrote = IsAnswer Warned asked wrote
IsCause Usage asked wrote = IsAnswer Usage asked wrote
IsCause FolderFault asked wrote = IsAnswer FolderFault asked wrote
IsCause SinkFault asked wrote = IsCut asked wrote
IsCause Refused asked wrote = IsAnswer Refused asked wrote
IsCause Memory asked wrote = IsNothing wrote
IsCause NoRace asked wrote = IsAnswer NoRace asked wrote
IsCause NotAWitness asked wrote = IsAnswer NotAWitness asked wrote
IsCause NotEdits asked wrote = IsAnswer NotEdits asked wrote

-- what is said to the request was written whole, and gives the status
pub record IsWholeAnswer (request : Request) (tells : Option Told) (status : Status) (wrote : Wrote) : Type 0 where
  pub said : RunOutput
  pub says : Says request tells said
  pub gives : status ≡ said.status
  pub whole : IsWhole wrote said.text

-- a made folder is asked for; or a folder that tells itself, and has the file of a witness that is asked for, or of
-- edits with what they name
abbrev pub CanAnswer : Request → Option Told → Type 0
CanAnswer (ReportOn wanted) tells = IsSomeAnd tells (IsFor (ReportOn wanted))
CanAnswer (ReplayOf wanted) tells = IsSomeAnd tells (IsFor (ReplayOf wanted))
CanAnswer (MadeOf wanted) tells = Unit {0}
CanAnswer (EditsOf wanted) tells = IsSomeAnd tells (IsFor (EditsOf wanted))

-- where the words make such a request, and no count rose, the answer is whole, or memory was refused
abbrev pub IsComplete : Status → Invocation → Wrote → Type 0
IsComplete status asked wrote =
    (request : Request) → request_of asked.words ≡ Some request → CanAnswer request asked.told
    → asked.after ≡ asked.before → wrote.after ≡ wrote.before
    → (status ≡ Memory) ⊎ IsWholeAnswer request asked.told status wrote
