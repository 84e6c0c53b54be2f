-- The sources of every folder are refused or a program.
use Rattle.std.proofs.Common.{◌≡◌, ℕ, suc, ◌+◌, ◌<◌, ◌≤◌, Bool, true, false, cond, ◌⊎◌, inl, inr, List, [], ◌∷◌, Option}
use Rattle.std.proofs.Common.{Some, None, Result, Ok, Err, length, refl, arith}
use Rattle.std.specs.Str.{is_utf8}
use Rattle.std.specs.Str.Lossy.{utf8_valid_len}
use Rattle.std.proofs.lemmas.Bool.{cases_lt}
use Rattle.container_cells.specs.declared.cell.Containers.{Containers}
use Rattle.racer_base.specs.Outside.{Files}
use Rattle.racer_base.specs.declared.ids.FileId.{FileId}
use Rattle.racer_base.specs.declared.limits.TheConstants.{MAX_FILES, MAX_FILE_BYTES, MAX_FOLDER_BYTES, MAX_CALL_EDGES}
use Rattle.java_lexer.specs.declared.piece.LexicalFault.{LexicalFault}
use Rattle.java_lexer.specs.declared.piece.LexicalFault.TheVariants as faults
use Rattle.java_lexer.specs.declared.fault.LexFault.{LexFault}
use Rattle.java_lexer.specs.declared.fault.LexFault.TheVariants as lexical
use Rattle.java_lexer.specs.declared.token.Lexed.{Lexed}
use Rattle.java_lexer.specs.Divisions.{undivided}
use Rattle.java_lexer.specs.JavaKinds.{java_lexis}
use Rattle.java_lexer.specs.JavaTokens.{divided_answer, lexed_answer}
use Rattle.java_tree.specs.declared.unit.Unit as unit
use Rattle.java_tree.specs.declared.unit.ParseFault.{ParseFault}
use Rattle.java_tree.specs.declared.unit.ParseFault.TheVariants as parse
use Rattle.java_parser_grammar.specs.Units.{IsFault}
use Rattle.java_resolver.specs.declared.fault.ResolveFault.{ResolveFault}
use Rattle.java_resolver.specs.declared.fault.ResolveFault.TheVariants as resolve
use Rattle.java_resolver.specs.declared.table.Table.{Table}
use Rattle.java_resolver.specs.Refusals.{refusal}
use Rattle.core_code.specs.Core.{Core}
use Rattle.core_lowering_rules.specs.Programs.{IsLowered}
use Rattle.core_lowering.specs.declared.fault.LowerFault.TheVariants as lower
use Rattle.core_lowering.specs.Lowered.{calls_of}
use Rattle.core_lowering.specs.Lowered as lowered
use Rattle.racer_sources.specs.declared.refusal.Refusal as refusals
use Rattle.racer_sources.specs.declared.refusal.Refusal.TheVariants as told
use Rattle.racer_sources.specs.Sources.{source_names, contents, IsShort, IsRead, HasNoTokens, IsNoUnit, IsRefusedFile}
use Rattle.racer_sources.specs.Sources.{AreReadFrom, IsOneRefused, AreRead, AreAccepted, AreRefusedUnits}
use Rattle.racer_sources.specs.Sources.{IsFileRefused}
use Rattle.racer_sources.specs.Lines.{refusal_line}
use Rattle.racer_sources.specs.Programs.{Source, Refusal, Accepted, AreRefusedFor, IsSource}
use Rattle.java_parser_totality.specs.Totality.{most, IsUnitOrFault, IsTotalUnits, AreTokensFew}
use Rattle.java_parser_totality.specs.Totality as units
use Rattle.racer_sources_totality.specs.Totality.{IsTable, IsTold, IsTotalTables, IsTotalLowering}
use Rattle.racer_sources.specs.OneReading.{OneSource}
use Rattle.racer_sources_totality.specs.Sources.{IsTotalSource, IsOnlySource, HasOnlySource}

-- ---- the tokens of a file

-- a fault of a file that has no tokens is no want of memory
never-memory : (file : FileId) (bytes : List ℕ) → lexed_answer file bytes ≡ Err lexical.Memory → ⊥
never-memory file bytes e = by (is_utf8 bytes) e where
  divided : (o : Option LexicalFault) → divided_answer file bytes o ≡ Err lexical.Memory → ⊥
  divided None f = cc
  divided (Some faults.BadCharacter) f = cc
  divided (Some faults.Unclosed) f = cc
  divided (Some faults.BadLiteral) f = cc

  by : (b : Bool)
      → cond b (divided_answer file bytes (java_lexis.fault_at (undivided java_lexis bytes)))
      (Err (lexical.NotUtf8 (utf8_valid_len bytes))) ≡ Err lexical.Memory → ⊥
  by true f = divided (java_lexis.fault_at (undivided java_lexis bytes)) f
  by false f = cc

-- ---- one file

-- a refusal of a file, which is one of a folder with such a file
record Refused (P : refusals.Refusal → Type 0) : Type 0 where
  refusal : refusals.Refusal
  is : P refusal
  whole : (containers : Containers) (files : Files) → IsFileRefused (contents files) refusal
      → AreRefusedFor containers files refusal

abbrev refused : {P : refusals.Refusal → Type 0} (r : refusals.Refusal) → P r
    → ((containers : Containers) (files : Files) → IsFileRefused (contents files) r → AreRefusedFor containers files r)
    → Refused P
refused r is whole = record { refusal = r; is = is; whole = whole }

module _ (total : IsTotalUnits) (tokens : AreTokensFew) (file : FileId) (sum : ℕ) (bytes : List ℕ) where
  abbrev OneFile : Type 0
  OneFile = ((u : unit.Unit) × IsRead file sum bytes u) ⊎ Refused (IsRefusedFile file sum bytes)

  no-unit : IsShort sum bytes → (lexed : Lexed) → lexed_answer file bytes ≡ Ok lexed → (f : ParseFault)
      → units.IsTold f → IsFault lexed.tokens lexed.end f → IsNoUnit file sum bytes f
  no-unit short lexed e f is h = record { short = short; lexed = lexed; tokens = e; unit = h }

  with-fault : IsShort sum bytes → (lexed : Lexed) → lexed_answer file bytes ≡ Ok lexed → (f : ParseFault)
      → units.IsTold f → IsFault lexed.tokens lexed.end f → OneFile
  with-fault short lexed e (parse.Unbalanced p) is h =
      inr (refused (told.Unbalanced p) (no-unit short lexed e (parse.Unbalanced p) is h) (λ containers files r. r))
  with-fault short lexed e (parse.TooDeep p) is h =
      inr (refused (told.TooDeep p) (no-unit short lexed e (parse.TooDeep p) is h) (λ containers files r. r))
  with-fault short lexed e (parse.NotAUnit p) is h =
      inr (refused (told.NotAUnit p) (no-unit short lexed e (parse.NotAUnit p) is h) (λ containers files r. r))
  with-fault short lexed e parse.Memory is h = absurd is

  with-tokens : IsShort sum bytes → (lexed : Lexed) → lexed_answer file bytes ≡ Ok lexed
      → IsUnitOrFault lexed.tokens lexed.end → OneFile
  with-tokens short lexed e (inl u) =
      inl (u.0, record { short = short; lexed = lexed; tokens = e; unit = u.1 })
  with-tokens short lexed e (inr f) = with-fault short lexed e f.0 f.1 f.2

  no-tokens : IsShort sum bytes → (f : LexFault) → lexed_answer file bytes ≡ Err f → HasNoTokens file sum bytes f
  no-tokens short f e = record { short = short; tokens = e }

  without-tokens : IsShort sum bytes → (f : LexFault) → lexed_answer file bytes ≡ Err f → OneFile
  without-tokens short (lexical.NotUtf8 n) e =
      inr (refused (told.NotUtf8 file n) (refl, no-tokens short (lexical.NotUtf8 n) e) (λ containers files r. r))
  without-tokens short (lexical.BadCharacter p) e =
      inr (refused (told.BadCharacter p) (no-tokens short (lexical.BadCharacter p) e) (λ containers files r. r))
  without-tokens short (lexical.Unclosed p) e =
      inr (refused (told.Unclosed p) (no-tokens short (lexical.Unclosed p) e) (λ containers files r. r))
  without-tokens short (lexical.BadLiteral p) e =
      inr (refused (told.BadLiteral p) (no-tokens short (lexical.BadLiteral p) e) (λ containers files r. r))
  without-tokens short lexical.Memory e = absurd (never-memory file bytes e)

  short-file : IsShort sum bytes → OneFile
  short-file short = by (lexed_answer file bytes) refl where
    by : (r : Result Lexed LexFault) → lexed_answer file bytes ≡ r → OneFile
    by (Ok lexed) e =
        let few : length lexed.tokens < most = omega (arith, tokens file bytes lexed e, short.file) in
        with-tokens short lexed e (total lexed.tokens lexed.end few)
    by (Err f) e = without-tokens short f e

  one-file : OneFile
  one-file = by (cases_lt MAX_FILE_BYTES (length bytes)) (cases_lt MAX_FOLDER_BYTES sum) where
    by : (MAX_FILE_BYTES < length bytes) ⊎ (length bytes ≤ MAX_FILE_BYTES)
        → (MAX_FOLDER_BYTES < sum) ⊎ (sum ≤ MAX_FOLDER_BYTES) → OneFile
    by (inl long) o = inr (refused (told.TooLong file) (refl, long) (λ containers files r. r))
    by (inr few) (inl many) = inr (refused (told.TooManyBytes sum) (refl, few, many) (λ containers files r. r))
    by (inr few) (inr less) = short-file (record { file = few; together = less })

-- ---- files one after the other

module _ (total : IsTotalUnits) (tokens : AreTokensFew) where
  abbrev SomeFiles : (n sum : ℕ) → List (List ℕ) → Type 0
  SomeFiles n sum files = ((us : List unit.Unit) × AreReadFrom n sum files us) ⊎ Refused (IsOneRefused n sum files)

  some-files : (n sum : ℕ) (files : List (List ℕ)) → SomeFiles n sum files
  some-files n sum [] = inl ([], tt)
  some-files n sum (bytes ∷ files) =
      by (one-file total tokens (record { 0 = n }) (sum + length bytes) bytes)
      (some-files (suc n) (sum + length bytes) files) where
        by : OneFile total tokens (record { 0 = n }) (sum + length bytes) bytes
            → SomeFiles (suc n) (sum + length bytes) files → SomeFiles n sum (bytes ∷ files)
        by (inr r) o = inr (refused r.refusal (inl r.is) r.whole)
        by (inl u) (inl us) = inl (u.0 ∷ us.0, (u.1, us.1))
        by (inl u) (inr r) = inr (refused r.refusal (inr (u.0, u.1, r.is)) r.whole)

-- ---- all of them

module _ (tables : IsTotalTables) (lowering : IsTotalLowering) (containers : Containers) (files : Files) where
  abbrev ASource : Type 0
  ASource = (source : Source) × IsSource containers files source

  refused-so : (r : refusals.Refusal) → AreRefusedFor containers files r → ASource
  refused-so r is = (Refusal (refusal_line (source_names files) r), (r, is, refl))

  with-calls : (us : List unit.Unit) → AreAccepted (contents files) us
      → ((core : Core) × IsLowered containers (source_names files) us core × (calls_of containers us ≤ MAX_CALL_EDGES))
      ⊎ lowered.IsFault containers us (lower.TooManyCalls (calls_of containers us))
      → ASource
  with-calls us accepted (inl p) =
      (Accepted p.0, record { units = us; accepted = accepted; few = p.2; lowered = p.1 })
  with-calls us accepted (inr many) =
      refused-so (told.TooManyCalls (calls_of containers us))
      (record { units = us; accepted = accepted; counted = refl; many = many.1 })

  refused-units : (us : List unit.Unit) → AreRead (contents files) us → (f : ResolveFault) → refusal us ≡ Some f
      → AreRefusedUnits (contents files) f
  refused-units us read f e = record { units = us; read = read; some = e }

  with-refusal : (us : List unit.Unit) → AreRead (contents files) us → (f : ResolveFault) → IsTold f
      → refusal us ≡ Some f → ASource
  with-refusal us read (resolve.DuplicateClass p q) is e =
      refused-so (told.DuplicateClass p q) (refused-units us read (resolve.DuplicateClass p q) e)
  with-refusal us read (resolve.DuplicateField p q) is e =
      refused-so (told.DuplicateField p q) (refused-units us read (resolve.DuplicateField p q) e)
  with-refusal us read (resolve.TooManyClasses n) is e =
      refused-so (told.TooManyClasses n) (refused-units us read (resolve.TooManyClasses n) e)
  with-refusal us read (resolve.TooManyMethods n) is e =
      refused-so (told.TooManyMethods n) (refused-units us read (resolve.TooManyMethods n) e)
  with-refusal us read resolve.Memory is e = absurd is

  with-units : (us : List unit.Unit) → AreRead (contents files) us
      → ((table : Table) × IsTable us table × (refusal us ≡ None))
      ⊎ ((fault : ResolveFault) × IsTold fault × (refusal us ≡ Some fault))
      → ASource
  with-units us read (inl t) =
      with-calls us (record { read = read; none = t.2 }) (lowering containers (source_names files) us)
  with-units us read (inr f) = with-refusal us read f.0 f.1 f.2

  few-files : length (contents files) ≤ MAX_FILES
      → ((us : List unit.Unit) × AreReadFrom 0 0 (contents files) us) ⊎ Refused (IsOneRefused 0 0 (contents files))
      → ASource
  few-files few (inl us) = with-units us.0 (record { few = few; read = us.1 }) (tables us.0)
  few-files few (inr r) = refused-so r.refusal (r.whole containers files (record { few = few; one = r.is }))

  a-source : ((us : List unit.Unit) × AreReadFrom 0 0 (contents files) us) ⊎ Refused (IsOneRefused 0 0 (contents files))
      → ASource
  a-source read = by (cases_lt MAX_FILES (length (contents files))) where
    by : (MAX_FILES < length (contents files)) ⊎ (length (contents files) ≤ MAX_FILES) → ASource
    by (inl many) = refused-so (told.TooManyFiles (length (contents files))) (refl, many)
    by (inr few) = few-files few read

pub sources : IsTotalUnits → AreTokensFew → IsTotalTables → IsTotalLowering → IsTotalSource
sources total tokens tables lowering containers files =
    a-source tables lowering containers files (some-files total tokens 0 0 (contents files))

pub only-source : IsTotalSource → OneSource → HasOnlySource
only-source total one containers files = of (total containers files) where
  of : (source : Source) × IsSource containers files source → (source : Source) × IsOnlySource containers files source
  of s = (s.0, record { is = s.1; only = λ other is. one containers files other s.0 is s.1 })
