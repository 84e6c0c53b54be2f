-- What bytes are in JSON, and what is said of a file that begins with them.
use Rattle.std.proofs.Common.{◌≡◌, ℕ, ◌+◌, ◌≤◌, Bool, true, false, cond, List, Option, Some, None, Result, Ok, Err}
use Rattle.std.proofs.Common.{codes, length, take, option_map, refl, sym, ap, ◌∙◌, nat_lt, arith, length-take}
use Rattle.std.specs.Str.{is_utf8}
use Rattle.std.proofs.lemmas.Bool.Decides.{nat_tests}
use Rattle.std.proofs.lemmas.List.{take_all}
use Rattle.std.proofs.lemmas.Str.{is_utf8-from_IsUtf8, IsUtf8-from_is_utf8}
use Rattle.serde_json.specs.Data.{Data}
use Rattle.serde_json.specs.Read.{read}
use Rattle.racer_base.specs.declared.limits.TheConstants.{MAX_FILE_BYTES}
use Rattle.core_code.specs.Core.{Core}
use Rattle.witness_text_files.specs.Answers.{IsJson, IsFileOf}
use Rattle.witness_text_files.specs.Files.{File, file_of}
use Rattle.witness_text_files.specs.declared.fault.Field.{Field}
use Rattle.witness_text.specs.Lines.{field_name}
use Rattle.witness_text.specs.Verdicts.{verdict}
use Rattle.racer_run.specs.declared.output.RunOutput.{RunOutput}
use Rattle.std.specs.FinMap.{get}
use Rattle.std.specs.Option.{IfSome}
use Rattle.racer_base.specs.Outside.{Told}
use Rattle.racer_sources.specs.Programs.{Accepted, IsSource}
use Rattle.witness_text.specs.declared.verdict.Verdict.{Verdict}
use Rattle.witness_text.specs.declared.verdict.Verdict.TheVariants.{Races, NoSuchEntry, NoSuchObject, NoSuchPath}
use Rattle.witness_text.specs.declared.verdict.Verdict.TheVariants.{StopsAt, NoConflict, OtherCell}
use Rattle.racer_run.specs.Replays.{SaysReplay, file_said, json_of, json_said, not_a_witness, replay_said, verdict_said}
use Rattle.racer_run.specs.Statuses.{is_replay_status}
use Rattle.racer_words.specs.Words.{WantedReplay}

pub json-of : (bytes : List ℕ) (d : Data) → IsJson bytes d → json_of bytes ≡ Some d
json-of bytes d json =
    ap (λ (b : Bool). cond b (read bytes) None) (is_utf8-from_IsUtf8 bytes json.0) ∙ json.1

json-none : (bytes : List ℕ) → ((d : Data) → IsJson bytes d → ⊥) → json_of bytes ≡ None
json-none bytes none = by (is_utf8 bytes) refl
  where
    reads : is_utf8 bytes ≡ true → (o : Option Data) → read bytes ≡ o → o ≡ None
    reads e None f = refl
    reads e (Some d) f = absurd (none d (IsUtf8-from_is_utf8 bytes e, f))

    by : (b : Bool) → is_utf8 bytes ≡ b → cond b (read bytes) None ≡ None
    by false e = refl
    by true e = reads e (read bytes) refl

-- ---- what is said of bytes

pub said-no_json : (program : Core) (bytes : List ℕ) → ((d : Data) → IsJson bytes d → ⊥)
    → json_said program (json_of bytes) ≡ not_a_witness (codes "json")
said-no_json program bytes none = ap (json_said program) (json-none bytes none)

pub said-other : (program : Core) (bytes : List ℕ) (field : Field)
    → (d : Data) × IsJson bytes d × (file_of d ≡ Err field)
    → json_said program (json_of bytes) ≡ not_a_witness (field_name field)
said-other program bytes field h =
    ap (json_said program) (json-of bytes h.0 h.1) ∙ ap (file_said program) h.2

pub said-file : (program : Core) (bytes : List ℕ) (file : File) → IsFileOf bytes file
    → json_said program (json_of bytes) ≡ verdict_said (verdict program file)
said-file program bytes file h =
    ap (json_said program) (json-of bytes h.0 h.1) ∙ ap (file_said program) h.2

-- ---- one byte more than a file may have tells that it is too long

said-by : (program : Core) (xs ys : List ℕ) → nat_lt MAX_FILE_BYTES (length xs) ≡ true
    → nat_lt MAX_FILE_BYTES (length ys) ≡ true → replay_said program xs ≡ replay_said program ys
said-by program xs ys e f =
    ap (λ (b : Bool). cond b (not_a_witness (codes "length")) (json_said program (json_of xs))) e
    ∙ sym (ap (λ (b : Bool). cond b (not_a_witness (codes "length")) (json_said program (json_of ys))) f)

still-long : (most : ℕ) (bytes : List ℕ) → nat_lt most (length bytes) ≡ true
    → nat_lt most (length (take (most + 1) bytes)) ≡ true
still-long most bytes e = let size = length-take (most + 1) bytes in grind (arith, nat_tests, size, e)

short : (most : ℕ) (bytes : List ℕ) → nat_lt most (length bytes) ≡ false → length bytes ≤ most + 1
short most bytes e = grind (arith, nat_tests, e)

pub not-long : (most : ℕ) (bytes : List ℕ) → length bytes ≤ most → nat_lt most (length bytes) ≡ false
not-long most bytes few = grind (arith, nat_tests, few)

pub taken-said : (program : Core) (bytes : List ℕ)
    → replay_said program (take (MAX_FILE_BYTES + 1) bytes) ≡ replay_said program bytes
taken-said program bytes = by (nat_lt MAX_FILE_BYTES (length bytes)) refl
  where
    by : (b : Bool) → nat_lt MAX_FILE_BYTES (length bytes) ≡ b
        → replay_said program (take (MAX_FILE_BYTES + 1) bytes) ≡ replay_said program bytes
    by true e =
        said-by program (take (MAX_FILE_BYTES + 1) bytes) bytes (still-long MAX_FILE_BYTES bytes e) e
    by false e =
        ap (replay_said program) (take_all (MAX_FILE_BYTES + 1) bytes (short MAX_FILE_BYTES bytes e))

-- a text that a folder reads up to one byte more is that of a file of its own
pub read-said : (program : Core) (o : Option (List ℕ)) (read : List ℕ)
    → option_map (take (MAX_FILE_BYTES + 1)) o ≡ Some read
    → (bytes : List ℕ) × (o ≡ Some bytes) × (replay_said program read ≡ replay_said program bytes)
read-said program None read e = absurd cc
read-said program (Some bytes) read e =
    let same : take (MAX_FILE_BYTES + 1) bytes ≡ read = cc in
    (bytes, refl, ap (replay_said program) (sym same) ∙ taken-said program bytes)

-- ---- the statuses of a replay, and what it says where the folder tells itself

verdict-status : (v : Verdict) → is_replay_status (verdict_said v).status ≡ true
verdict-status Races = refl
verdict-status NoSuchEntry = refl
verdict-status (NoSuchObject index) = refl
verdict-status NoSuchPath = refl
verdict-status (StopsAt leg step) = refl
verdict-status NoConflict = refl
verdict-status OtherCell = refl

file-status : (program : Core) (r : Result File Field) → is_replay_status (file_said program r).status ≡ true
file-status program (Ok file) = verdict-status (verdict program file)
file-status program (Err field) = refl

pub json-status : (program : Core) (o : Option Data) → is_replay_status (json_said program o).status ≡ true
json-status program None = refl
json-status program (Some d) = file-status program (file_of d)

pub replay-says : (tells : Option Told) (wanted : WantedReplay) (program : Core) (said : RunOutput) (read : List ℕ)
    → IfSome tells (λ told. IsSource wanted.containers told.files (Accepted program))
    → IfSome tells (λ told. option_map (take (MAX_FILE_BYTES + 1)) (get told.files wanted.witness) ≡ Some read)
    → said ≡ replay_said program read → IfSome tells (λ told. SaysReplay wanted told.files said)
replay-says None wanted program said read is bytes says = tt
replay-says (Some told) wanted program said read is bytes says =
    let file = read-said program (get told.files wanted.witness) read bytes in
    record { source = Accepted program; is = is; said_so = (file.0, file.1, says ∙ file.2) }
