-- What is said behind a program whose edits a file has, and to the request.
use Rattle.std.proofs.Common.{◌≡◌, ℕ, suc, ◌+◌, ◌≤◌, Bool, true, false, ◌&&◌, cond, nat_lt, List, [], ◌∷◌}
use Rattle.std.proofs.Common.{Option, None, Some, Result, Ok, Err, refl, sym, ap, subst, ◌∙◌, arith, length, take}
use Rattle.std.proofs.Common.{map, option_map, string_bytes, length-take}
use Rattle.std.specs.Prelude.{IfOk, All}
use Rattle.std.specs.FinMap.{contains_key, get}
use Rattle.std.specs.List.{after_first, before_first, list_all, list_any}
use Rattle.std.specs.Option.{IfSome}
use Rattle.std.proofs.lemmas.Bool.Decides.{nat_tests}
use Rattle.std.proofs.lemmas.List.{take_all}
use Rattle.std.proofs.lemmas.List.Elements.{All-nil, All-cons, All-head, All-tail}
use Rattle.container_cells.specs.declared.cell.Containers.TheVariants.{Opaque}
use Rattle.racer_base.specs.Outside.{Files, Told, same_name}
use Rattle.racer_base.specs.declared.limits.TheConstants.{MAX_FILE_BYTES}
use Rattle.racer_base.specs.declared.outside.FolderFault.{FolderFault}
use Rattle.core_code.specs.Core.{Core}
use Rattle.racer_sources.specs.Contents.{front}
use Rattle.racer_sources.specs.Finding.{FailsByMemory}
use Rattle.racer_sources.specs.Kept.{AreKept}
use Rattle.racer_sources.specs.Programs.{Refusal, Accepted, IsSource}
use Rattle.racer_sources.specs.Sources.{source_names}
use Rattle.racer_sources.specs.declared.source_files.SourceFiles.{SourceFiles}
use Rattle.racer_words.specs.Words.{WantedEdits}
use Rattle.witness_build_laws.specs.Headline.{AreConfirmed}
use Rattle.witness_text.specs.Replaying.{DoWitnessesReplay}
use Rattle.racer_run_edits.specs.declared.edit_lines.TheConstants.{MAX_EDITS}
use Rattle.racer_run_edits.specs.declared.edit_lines.EditLine.{EditLine}
use Rattle.racer_run_edits.specs.declared.edit_lines.EditsFault.{EditsFault}
use Rattle.racer_run_edits.specs.declared.edit_lines.EditsFault.TheVariants as fault
use Rattle.racer_run.specs.declared.output.RunOutput.{RunOutput}
use Rattle.racer_run.specs.declared.status.Status.TheVariants.{Refused}
use Rattle.racer_run_edits.specs.EditLines.{seen, AreEdits}
use Rattle.racer_run_edits.specs.Edits.{Edit, NoEdits, TooLong, BadLine, edit_of, edits_from, edits_in, is_edit, is_space}
use Rattle.racer_run_edits.specs.Edits.{is_word, lines, put}
use Rattle.racer_run.specs.Sessions.{AreEditsSaid, IsSessionSaid, SaysEdits, HasEdits}
use Rattle.racer_run.specs.Sessions.{AreThere, AreSourcesOf, IsThere, AreAllThere}
use Rattle.racer_run.specs.Sessions.{IsNotEdits}

-- ---- what is said behind a program

-- the edits of lines are of the sources
abbrev AreOf : List (List ℕ) → List Edit → Type 0
AreOf sources edits = All (λ (e : Edit). list_any (same_name e.file) sources ≡ true) edits

last_of : (a b c d : Bool) → (a && b && c && d) ≡ true → d ≡ true
last_of true true true d e = e
last_of true true false d e = absurd cc
last_of true false c d e = absurd cc
last_of false b c d e = absurd cc

named : (sources : List (List ℕ)) (line : List ℕ) → is_edit sources line ≡ true
    → list_any (same_name (edit_of line).file) sources ≡ true
named sources line e =
    last_of (list_any is_space line) (is_word (before_first is_space line)) (is_word (after_first is_space line))
    (list_any (same_name (before_first is_space line)) sources) e

put_named : (sources : List (List ℕ)) (line : List ℕ) (r : Result (List Edit) NoEdits) (edits : List Edit)
    → ((es : List Edit) → r ≡ Ok es → AreOf sources es) → is_edit sources line ≡ true
    → put (edit_of line) r ≡ Ok edits → AreOf sources edits
put_named sources line (Err why) edits rest is e = absurd cc
put_named sources line (Ok es) edits rest is e =
    let same : edit_of line ∷ es ≡ edits = cc in
    subst (AreOf sources) same
    (All-cons (λ (edit : Edit). list_any (same_name edit.file) sources ≡ true) (edit_of line) es
    (named sources line is) (rest es refl))

line_named : (sources : List (List ℕ)) (n : ℕ) (line : List ℕ) (r : Result (List Edit) NoEdits) (edits : List Edit)
    (many is : Bool) → ((es : List Edit) → r ≡ Ok es → AreOf sources es) → is_edit sources line ≡ is
    → cond many (Err (BadLine n)) (cond is (put (edit_of line) r) (Err (BadLine n))) ≡ Ok edits → AreOf sources edits
line_named sources n line r edits true is rest test e = absurd cc
line_named sources n line r edits false true rest test e = put_named sources line r edits rest test e
line_named sources n line r edits false false rest test e = absurd cc

edits_named : (sources : List (List ℕ)) (n : ℕ) (lines : List (List ℕ)) (edits : List Edit)
    → edits_from sources n lines ≡ Ok edits → AreOf sources edits
edits_named sources n [] edits e =
    let same : ◌≡◌ {A = List Edit} [] edits = cc in
    subst (AreOf sources) same (All-nil (λ (edit : Edit). list_any (same_name edit.file) sources ≡ true))
edits_named sources n (line ∷ lines) edits e =
    line_named sources n line (edits_from sources (suc n) lines) edits (nat_lt MAX_EDITS n) (is_edit sources line)
    (λ es f. edits_named sources (suc n) lines es f) refl e

file_named : (sources : List (List ℕ)) (bytes : List ℕ) (edits : List Edit) (long : Bool)
    → cond long (Err TooLong) (edits_from sources 1 (lines bytes)) ≡ Ok edits → AreOf sources edits
file_named sources bytes edits true e = absurd cc
file_named sources bytes edits false e = edits_named sources 1 (lines bytes) edits e

all_seen : (P : Edit → Type 0) (edits : List EditLine) → All P (map seen edits) → All (λ e. P (seen e)) edits
all_seen P [] are = All-nil (λ (e : EditLine). P (seen e))
all_seen P (edit ∷ edits) are =
    All-cons (λ (e : EditLine). P (seen e)) edit edits (All-head P (seen edit) (map seen edits) are)
    (all_seen P edits (All-tail P (seen edit) (map seen edits) are))

pub sources_named : (kept : SourceFiles) (bytes : List ℕ) (edits : List EditLine)
    → edits_in (map string_bytes kept.names.items) bytes ≡ Ok (map seen edits) → AreSourcesOf edits kept
sources_named kept bytes edits e =
    let names = map string_bytes kept.names.items in
    all_seen (λ (edit : Edit). list_any (same_name edit.file) names ≡ true) edits
    (file_named names bytes (map seen edits) (nat_lt MAX_FILE_BYTES (length bytes)) e)

pub edits_said : {E : Type 0} (o : Option Told) (r : Result RunOutput E) (program : Core) (kept : SourceFiles)
    (bytes : List ℕ) (edits : List EditLine)
    → edits_in (map string_bytes kept.names.items) bytes ≡ Ok (map seen edits)
    → IfOk r (λ said. IfSome o (λ (t : Told). AreKept t.files kept
    → AreEditsSaid t.files program (map seen edits) said))
    → IfOk r (λ said. IfSome o (λ (t : Told). AreKept t.files kept
    → IsSessionSaid t.files program (edits_in (source_names t.files) bytes) said))
edits_said o (Err e) program kept bytes edits are said = tt
edits_said None (Ok s) program kept bytes edits are said = tt
edits_said (Some t) (Ok s) program kept bytes edits are said =
    λ kept_are. subst (λ (answer : Result (List Edit) NoEdits). IsSessionSaid t.files program answer s)
    (sym are ∙ ap (λ (names : List (List ℕ)). edits_in names bytes) kept_are.names) (said kept_are)

and_first : (a b : Bool) → (a && b) ≡ true → a ≡ true
and_first true b e = refl
and_first false b e = e

and_second : (a b : Bool) → (a && b) ≡ true → b ≡ true
and_second true b e = e
and_second false b e = absurd cc

all_there : (files : Files) (edits : List Edit) → list_all (λ (e : Edit). contains_key files e.content) edits ≡ true
    → AreAllThere files edits
all_there files [] e = All-nil (IsThere files)
all_there files (edit ∷ edits) e =
    All-cons (IsThere files) edit edits (and_first (contains_key files edit.content) _ e)
    (all_there files edits (and_second (contains_key files edit.content) _ e))

pub edits_steady : (o : Option Told) (r : Result RunOutput FolderFault) (kept : SourceFiles) (bytes : List ℕ)
    (edits : List EditLine) → edits_in (map string_bytes kept.names.items) bytes ≡ Ok (map seen edits)
    → IfSome o (λ (t : Told). AreAllThere t.files (map seen edits) → FailsByMemory r)
    → IfSome o (λ (t : Told). AreKept t.files kept → AreThere t.files (edits_in (source_names t.files) bytes)
    → FailsByMemory r)
edits_steady None r kept bytes edits are fails = tt
edits_steady (Some t) r kept bytes edits are fails =
    λ kept_are there. fails (all_there t.files (map seen edits)
    (subst (AreThere t.files) (ap (λ (names : List (List ℕ)). edits_in names bytes) (sym kept_are.names) ∙ are) there))

no_edits : (f : EditsFault) (folder : Files) (names : List (List ℕ)) (program : Core) (bytes : List ℕ)
    (said : RunOutput) → AreEdits names bytes (Err f) → IsNotEdits f said
    → IsSessionSaid folder program (edits_in names bytes) said
no_edits fault.TooLong folder names program bytes said none is =
    subst (λ (answer : Result (List Edit) NoEdits). IsSessionSaid folder program answer said) (sym none) is
no_edits (fault.BadLine n) folder names program bytes said none is =
    subst (λ (answer : Result (List Edit) NoEdits). IsSessionSaid folder program answer said) (sym none) is
no_edits fault.Memory folder names program bytes said none is = absurd is

pub no_edits_said : (o : Option Told) (f : EditsFault) (program : Core) (kept : SourceFiles) (bytes : List ℕ)
    (said : RunOutput) → AreEdits (map string_bytes kept.names.items) bytes (Err f) → IsNotEdits f said
    → IfSome o (λ (t : Told). AreKept t.files kept
    → IsSessionSaid t.files program (edits_in (source_names t.files) bytes) said)
no_edits_said None f program kept bytes said none is = tt
no_edits_said (Some t) f program kept bytes said none is =
    λ kept_are. subst (λ (names : List (List ℕ)). IsSessionSaid t.files program (edits_in names bytes) said)
    kept_are.names (no_edits f t.files (map string_bytes kept.names.items) program bytes said none is)

-- ---- one byte more than a file may have tells that it is too long

still-long : (most : ℕ) (bytes : List ℕ) → nat_lt most (length bytes) ≡ true
    → nat_lt most (length (take (most + 1) bytes)) ≡ true
still-long most bytes e = let size = length-take (most + 1) bytes in grind (arith, nat_tests, size, e)

short : (most : ℕ) (bytes : List ℕ) → nat_lt most (length bytes) ≡ false → length bytes ≤ most + 1
short most bytes e = grind (arith, nat_tests, e)

front_edits : (names : List (List ℕ)) (bytes : List ℕ) → edits_in names (front bytes) ≡ edits_in names bytes
front_edits names bytes = by (nat_lt MAX_FILE_BYTES (length bytes)) refl
  where
    by : (b : Bool) → nat_lt MAX_FILE_BYTES (length bytes) ≡ b → edits_in names (front bytes) ≡ edits_in names bytes
    by true e =
        ap (λ (b : Bool). cond b (Err TooLong) (edits_from names 1 (lines (front bytes))))
        (still-long MAX_FILE_BYTES bytes e)
        ∙ sym (ap (λ (b : Bool). cond b (Err TooLong) (edits_from names 1 (lines bytes))) e)
    by false e = ap (edits_in names) (take_all (MAX_FILE_BYTES + 1) bytes (short MAX_FILE_BYTES bytes e))

read_whole : (o : Option (List ℕ)) (read : List ℕ) → option_map front o ≡ Some read
    → (bytes : List ℕ) × (o ≡ Some bytes) × (front bytes ≡ read)
read_whole None read e = absurd (let bad : ◌≡◌ {A = Option (List ℕ)} None (Some read) = e in cc)
read_whole (Some bytes) read e = (bytes, refl, cc)

-- ---- what is said to the request

says_at : (wanted : WantedEdits) (files : Files) (program : Core) (read : List ℕ) (said : RunOutput)
    → IsSource Opaque files (Accepted program) → AreConfirmed program → DoWitnessesReplay program
    → option_map front (get files wanted.edits) ≡ Some read
    → IsSessionSaid files program (edits_in (source_names files) read) said → SaysEdits wanted files said
says_at wanted files program read said is headline replays file session =
    let whole = read_whole (get files wanted.edits) read file in
    record {
      source = Accepted program;
      is = is;
      said_so = (
        whole.0,
        whole.1,
        subst (λ (answer : Result (List Edit) NoEdits). IsSessionSaid files program answer said)
            (ap (edits_in (source_names files)) (sym whole.2) ∙ front_edits (source_names files) whole.0) session,
      );
      headline = headline;
      replays = replays;
    }

pub says_edits : {E : Type 0} (o : Option Told) (r : Result RunOutput E) (wanted : WantedEdits) (program : Core)
    (kept : SourceFiles) (read : List ℕ) → AreConfirmed program → DoWitnessesReplay program
    → IfSome o (λ (t : Told). IsSource Opaque t.files (Accepted program))
    → IfSome o (λ (t : Told). AreKept t.files kept)
    → IfSome o (λ (t : Told). option_map front (get t.files wanted.edits) ≡ Some read)
    → IfOk r (λ said. IfSome o (λ (t : Told). AreKept t.files kept
    → IsSessionSaid t.files program (edits_in (source_names t.files) read) said))
    → IfOk r (λ said. IfSome o (λ (t : Told). SaysEdits wanted t.files said))
says_edits o (Err e) wanted program kept read headline replays is are file said = tt
says_edits None (Ok s) wanted program kept read headline replays is are file said = tt
says_edits (Some t) (Ok s) wanted program kept read headline replays is are file said =
    says_at wanted t.files program read s is headline replays file (said are)

pub says_refused : (o : Option Told) (wanted : WantedEdits) (line : List ℕ)
    → IfSome o (λ (t : Told). IsSource Opaque t.files (Refusal line))
    → IfSome o (λ (t : Told). SaysEdits wanted t.files (record { status = Refused; text = line }))
says_refused None wanted line is = tt
says_refused (Some t) wanted line is =
    record { source = Refusal line; is = is; said_so = refl; headline = tt; replays = tt }

pub steady_edits : (o : Option Told) (r : Result RunOutput FolderFault) (wanted : WantedEdits) (kept : SourceFiles)
    (read : List ℕ) → IfSome o (λ (t : Told). AreKept t.files kept)
    → IfSome o (λ (t : Told). option_map front (get t.files wanted.edits) ≡ Some read)
    → IfSome o (λ (t : Told). AreKept t.files kept → AreThere t.files (edits_in (source_names t.files) read)
    → FailsByMemory r)
    → IfSome o (λ (t : Told). wanted.folder ≡ t.name → HasEdits t.files wanted.edits → FailsByMemory r)
steady_edits None r wanted kept read are file fails = tt
steady_edits (Some t) r wanted kept read are file fails =
    λ same has.
    let whole = read_whole (get t.files wanted.edits) read file in
    fails are (subst (AreThere t.files)
    (sym (ap (edits_in (source_names t.files)) (sym whole.2) ∙ front_edits (source_names t.files) whole.0))
    (has.named whole.0 whole.1))
