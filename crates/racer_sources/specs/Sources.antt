-- A contract of a public call rests on this: what the sources of a folder are. They are the files whose names end in
-- `.java`, in the byte order of their names. They are refused, for the first of the reasons below, or read as units.
use Rattle.std.specs.Prelude.{◌≡◌, ◌⊎◌, ℕ, suc, ◌+◌, ◌<◌, ◌≤◌, Bool, List, [], ◌∷◌, None, Some, Ok, Err}
use Rattle.std.specs.Prelude.{codes, filter, length, map, nat_eq}
use Rattle.std.specs.List.{ends_with}
use Rattle.std.specs.FinMap.{get, keys}
use Rattle.racer_base.specs.Outside.{Files}
use Rattle.racer_base.specs.declared.ids.FileId.{FileId}
use Rattle.racer_base.specs.declared.limits.TheConstants.{MAX_FILES, MAX_FILE_BYTES, MAX_FOLDER_BYTES}
use Rattle.java_lexer.specs.declared.fault.LexFault.{LexFault}
use Rattle.java_lexer.specs.declared.fault.LexFault.TheVariants as lexical
use Rattle.java_lexer.specs.declared.token.Lexed.{Lexed}
use Rattle.java_lexer.specs.JavaTokens.{lexed_answer}
use Rattle.java_tree.specs.declared.unit.Unit as unit
use Rattle.java_tree.specs.declared.unit.ParseFault.{ParseFault}
use Rattle.java_tree.specs.declared.unit.ParseFault.TheVariants as parse
use Rattle.java_parser_grammar.specs.Units.{IsUnit, IsFault}
use Rattle.java_resolver.specs.declared.fault.ResolveFault.{ResolveFault}
use Rattle.java_resolver.specs.declared.fault.ResolveFault.TheVariants as resolve
use Rattle.java_resolver.specs.Refusals.{refusal}
use Rattle.racer_sources.specs.declared.refusal.Refusal.{Refusal}
use Rattle.racer_sources.specs.declared.refusal.Refusal.TheVariants.{TooManyFiles, TooLong, TooManyBytes, NotUtf8}
use Rattle.racer_sources.specs.declared.refusal.Refusal.TheVariants.{BadCharacter, Unclosed, BadLiteral, Unbalanced}
use Rattle.racer_sources.specs.declared.refusal.Refusal.TheVariants.{TooDeep, NotAUnit, DuplicateClass, DuplicateField}
use Rattle.racer_sources.specs.declared.refusal.Refusal.TheVariants.{TooManyClasses, TooManyMethods, TooManyCalls}

-- ---- which files they are

abbrev pub is_java : List ℕ → Bool
is_java name = ends_with nat_eq name (codes ".java")

abbrev pub source_names : Files → List (List ℕ)
source_names files = filter is_java (keys files)

abbrev pub bytes_of : Files → List ℕ → List ℕ
bytes_of files name = elim (get files name) [ None ↦ [] | (Some bytes) ↦ bytes ]

-- the bytes of each source
abbrev pub contents : Files → List (List ℕ)
contents files = map (bytes_of files) (source_names files)

-- ---- one file, up to and with which there are so many bytes

pub record IsShort (sum : ℕ) (bytes : List ℕ) : Type 0 where
  pub file : length bytes ≤ MAX_FILE_BYTES
  pub together : sum ≤ MAX_FOLDER_BYTES

-- it is read as this unit
pub record IsRead (file : FileId) (sum : ℕ) (bytes : List ℕ) (u : unit.Unit) : Type 0 where
  pub short : IsShort sum bytes
  pub lexed : Lexed
  pub tokens : lexed_answer file bytes ≡ Ok lexed
  pub unit : IsUnit lexed.tokens u

-- it has no tokens for this fault
pub record HasNoTokens (file : FileId) (sum : ℕ) (bytes : List ℕ) (fault : LexFault) : Type 0 where
  pub short : IsShort sum bytes
  pub tokens : lexed_answer file bytes ≡ Err fault

-- it is no unit for this fault
pub record IsNoUnit (file : FileId) (sum : ℕ) (bytes : List ℕ) (fault : ParseFault) : Type 0 where
  pub short : IsShort sum bytes
  pub lexed : Lexed
  pub tokens : lexed_answer file bytes ≡ Ok lexed
  pub unit : IsFault lexed.tokens lexed.end fault

-- it is refused so, a row for each reason
abbrev pub IsRefusedFile : FileId → ℕ → List ℕ → Refusal → Type 0
IsRefusedFile file sum bytes (TooLong f) = (f ≡ file) × (MAX_FILE_BYTES < length bytes)
IsRefusedFile file sum bytes (TooManyBytes n) =
    (n ≡ sum) × (length bytes ≤ MAX_FILE_BYTES) × (MAX_FOLDER_BYTES < sum)
IsRefusedFile file sum bytes (NotUtf8 f offset) =
    (f ≡ file) × HasNoTokens file sum bytes (lexical.NotUtf8 offset)
IsRefusedFile file sum bytes (BadCharacter place) = HasNoTokens file sum bytes (lexical.BadCharacter place)
IsRefusedFile file sum bytes (Unclosed place) = HasNoTokens file sum bytes (lexical.Unclosed place)
IsRefusedFile file sum bytes (BadLiteral place) = HasNoTokens file sum bytes (lexical.BadLiteral place)
IsRefusedFile file sum bytes (Unbalanced place) = IsNoUnit file sum bytes (parse.Unbalanced place)
IsRefusedFile file sum bytes (TooDeep place) = IsNoUnit file sum bytes (parse.TooDeep place)
IsRefusedFile file sum bytes (NotAUnit place) = IsNoUnit file sum bytes (parse.NotAUnit place)
IsRefusedFile file sum bytes _ = ⊥

-- ---- files one after the other, numbered from n on, with so many bytes before them

-- they are read as these units
abbrev pub AreReadFrom : (n sum : ℕ) → List (List ℕ) → List unit.Unit → Type 0
AreReadFrom n sum [] [] = Unit {0}
AreReadFrom n sum [] (u ∷ us) = ⊥
AreReadFrom n sum (bytes ∷ files) [] = ⊥
AreReadFrom n sum (bytes ∷ files) (u ∷ us) =
    let more = sum + length bytes in
    IsRead (record { 0 = n }) more bytes u × AreReadFrom (suc n) more files us

-- one of them is refused so, and those before it are read
abbrev pub IsOneRefused : (n sum : ℕ) → List (List ℕ) → Refusal → Type 0
IsOneRefused n sum [] r = ⊥
IsOneRefused n sum (bytes ∷ files) r =
    let more = sum + length bytes in
    IsRefusedFile (record { 0 = n }) more bytes r
    ⊎ ((u : unit.Unit) × IsRead (record { 0 = n }) more bytes u × IsOneRefused (suc n) more files r)

-- ---- all of them

-- they are not too many, and read as these units
pub record AreRead (files : List (List ℕ)) (units : List unit.Unit) : Type 0 where
  pub few : length files ≤ MAX_FILES
  pub read : AreReadFrom 0 0 files units

-- they are accepted, and read as these units
pub record AreAccepted (files : List (List ℕ)) (units : List unit.Unit) : Type 0 where
  pub read : AreRead files units
  pub none : refusal units ≡ None

-- they are refused so for what they declare together
pub record AreRefusedUnits (files : List (List ℕ)) (fault : ResolveFault) : Type 0 where
  pub units : List unit.Unit
  pub read : AreRead files units
  pub some : refusal units ≡ Some fault

-- they are refused so for one of them
pub record IsFileRefused (files : List (List ℕ)) (r : Refusal) : Type 0 where
  pub few : length files ≤ MAX_FILES
  pub one : IsOneRefused 0 0 files r

-- they are refused so, but for their calls
abbrev pub AreRefused : List (List ℕ) → Refusal → Type 0
AreRefused files (TooManyFiles n) = (n ≡ length files) × (MAX_FILES < n)
AreRefused files (DuplicateClass second first) = AreRefusedUnits files (resolve.DuplicateClass second first)
AreRefused files (DuplicateField second first) = AreRefusedUnits files (resolve.DuplicateField second first)
AreRefused files (TooManyClasses n) = AreRefusedUnits files (resolve.TooManyClasses n)
AreRefused files (TooManyMethods n) = AreRefusedUnits files (resolve.TooManyMethods n)
AreRefused files (TooManyCalls n) = ⊥
AreRefused files r = IsFileRefused files r
