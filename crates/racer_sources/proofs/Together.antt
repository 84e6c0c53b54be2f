-- Sources that are refused for one of them, for how many they are, or for what they declare.
use Rattle.std.proofs.Common.{◌≡◌, inl, inr, ℕ, suc, ◌+◌, ◌<◌, ◌≤◌, List, [], ◌∷◌, Option, None, Some, length, map}
use Rattle.std.proofs.Common.{refl, sym, ap, subst, String, Global, string_bytes}
use Rattle.std.specs.Prelude.{Result, Ok, Err, IfErr}
use Rattle.std.specs.Option.{IfSome}
use Rattle.racer_base.specs.Outside.{Files, Told}
use Rattle.racer_base.specs.declared.ids.FileId.{FileId}
use Rattle.racer_base.specs.declared.limits.TheConstants.{MAX_FILES}
use Rattle.java_tree.specs.declared.unit.Unit as unit
use Rattle.java_resolver.specs.declared.fault.ResolveFault.{ResolveFault}
use Rattle.java_resolver.specs.declared.fault.ResolveFault.TheVariants as resolve
use Rattle.java_resolver.specs.Refusals.{refusal}
use Rattle.java_resolver.specs.Faults.{IsFault}
use Rattle.racer_sources.specs.declared.refusal.Refusal.{Refusal}
use Rattle.racer_sources.specs.declared.refusal.Refusal.TheVariants.{TooManyFiles, TooLong, TooManyBytes, NotUtf8}
use Rattle.racer_sources.specs.declared.refusal.Refusal.TheVariants.{BadCharacter, Unclosed, BadLiteral, Unbalanced}
use Rattle.racer_sources.specs.declared.refusal.Refusal.TheVariants.{TooDeep, NotAUnit, DuplicateClass, DuplicateField}
use Rattle.racer_sources.specs.declared.refusal.Refusal.TheVariants.{TooManyClasses, TooManyMethods, TooManyCalls}
use Rattle.racer_sources.specs.declared.fault.SourceFault.{SourceFault}
use Rattle.racer_sources.specs.declared.fault.SourceFault.TheVariants.{Refused, Failed, Memory}
use Rattle.racer_sources.specs.Sources.{IsRefusedFile, IsOneRefused, AreReadFrom, AreRead, AreAccepted, AreRefused}
use Rattle.racer_sources.specs.Reading.{IfRefused, bytes_of_all}
use Rattle.racer_sources.specs.Declaring.{as_declared_fault, IsDeclared, IsDeclaredFault}

-- no file is refused so
never_one : (r : Refusal) → ((file : FileId) (sum : ℕ) (bytes : List ℕ) → IsRefusedFile file sum bytes r → ⊥)
    → (n sum : ℕ) (files : List (List ℕ)) → IsOneRefused n sum files r → ⊥
never_one r none n sum [] h = h
never_one r none n sum (bytes ∷ files) (inl h) = none _ _ bytes h
never_one r none n sum (bytes ∷ files) (inr h) = never_one r none (suc n) (sum + length bytes) files h.2

pub one_refused : (files : List (List ℕ)) (r : Refusal) → length files ≤ MAX_FILES → IsOneRefused 0 0 files r
    → AreRefused files r
one_refused files (TooLong f) few h = record { few = few; one = h }
one_refused files (TooManyBytes n) few h = record { few = few; one = h }
one_refused files (NotUtf8 f n) few h = record { few = few; one = h }
one_refused files (BadCharacter p) few h = record { few = few; one = h }
one_refused files (Unclosed p) few h = record { few = few; one = h }
one_refused files (BadLiteral p) few h = record { few = few; one = h }
one_refused files (Unbalanced p) few h = record { few = few; one = h }
one_refused files (TooDeep p) few h = record { few = few; one = h }
one_refused files (NotAUnit p) few h = record { few = few; one = h }
one_refused files (TooManyFiles n) few h = absurd (never_one (TooManyFiles n) (λ _ _ _ x. x) 0 0 files h)
one_refused files (DuplicateClass p q) few h = absurd (never_one (DuplicateClass p q) (λ _ _ _ x. x) 0 0 files h)
one_refused files (DuplicateField p q) few h = absurd (never_one (DuplicateField p q) (λ _ _ _ x. x) 0 0 files h)
one_refused files (TooManyClasses n) few h = absurd (never_one (TooManyClasses n) (λ _ _ _ x. x) 0 0 files h)
one_refused files (TooManyMethods n) few h = absurd (never_one (TooManyMethods n) (λ _ _ _ x. x) 0 0 files h)
one_refused files (TooManyCalls n) few h = absurd (never_one (TooManyCalls n) (λ _ _ _ x. x) 0 0 files h)

-- the files of these names
abbrev pub files_named : Files → List (String Global) → List (List ℕ)
files_named files names = bytes_of_all files (map string_bytes names)

as_many : (files : Files) (names : List (String Global)) → length (files_named files names) ≡ length names
as_many files [] = refl
as_many files (name ∷ names) = ap suc (as_many files names)

few_files : (files : Files) (names : List (String Global)) → length names ≤ MAX_FILES
    → length (files_named files names) ≤ MAX_FILES
few_files files names h = subst (λ (n : ℕ). n ≤ MAX_FILES) (sym (as_many files names)) h

pub many_refused : (o : Option Told) (names : List (String Global)) → MAX_FILES < length names
    → IfSome o (λ (t : Told). AreRefused (files_named t.files names) (TooManyFiles (length names)))
many_refused None names h = tt
many_refused (Some t) names h = (sym (as_many t.files names), h)

pub few_read : (o : Option Told) (names : List (String Global)) (units : List unit.Unit) → length names ≤ MAX_FILES
    → IfSome o (λ (t : Told). AreReadFrom 0 0 (files_named t.files names) units)
    → IfSome o (λ (t : Told). AreRead (files_named t.files names) units)
few_read None names units few h = tt
few_read (Some t) names units few h = record { few = few_files t.files names few; read = h }

pub few_refused : (o : Option Told) (names : List (String Global)) (fault : SourceFault) → length names ≤ MAX_FILES
    → IfSome o (λ (t : Told). IfRefused fault (IsOneRefused 0 0 (files_named t.files names)))
    → IfSome o (λ (t : Told). IfRefused fault (AreRefused (files_named t.files names)))
few_refused None names fault few h = tt
few_refused (Some t) names Failed few h = tt
few_refused (Some t) names Memory few h = tt
few_refused (Some t) names (Refused r) few h =
    one_refused (files_named t.files names) r (few_files t.files names few) h

-- ---- what units declare

pub declared_faults : (units : List unit.Unit) (fault : ResolveFault) → IsFault (refusal units) fault
    → IsDeclaredFault units (as_declared_fault fault)
declared_faults units (resolve.DuplicateClass p q) (inl e) = absurd cc
declared_faults units (resolve.DuplicateClass p q) (inr e) = e
declared_faults units (resolve.DuplicateField p q) (inl e) = absurd cc
declared_faults units (resolve.DuplicateField p q) (inr e) = e
declared_faults units (resolve.TooManyClasses n) (inl e) = absurd cc
declared_faults units (resolve.TooManyClasses n) (inr e) = e
declared_faults units (resolve.TooManyMethods n) (inl e) = absurd cc
declared_faults units (resolve.TooManyMethods n) (inr e) = e
declared_faults units resolve.Memory h = tt

pub declared_refused : (files : List (List ℕ)) (units : List unit.Unit) (r : Refusal) → AreRead files units
    → IsDeclared units r → AreRefused files r
declared_refused files units (DuplicateClass p q) read e = record { units = units; read = read; some = e }
declared_refused files units (DuplicateField p q) read e = record { units = units; read = read; some = e }
declared_refused files units (TooManyClasses n) read e = record { units = units; read = read; some = e }
declared_refused files units (TooManyMethods n) read e = record { units = units; read = read; some = e }
declared_refused files units (TooManyFiles n) read e = absurd e
declared_refused files units (TooLong f) read e = absurd e
declared_refused files units (TooManyBytes n) read e = absurd e
declared_refused files units (NotUtf8 f n) read e = absurd e
declared_refused files units (BadCharacter p) read e = absurd e
declared_refused files units (Unclosed p) read e = absurd e
declared_refused files units (BadLiteral p) read e = absurd e
declared_refused files units (Unbalanced p) read e = absurd e
declared_refused files units (TooDeep p) read e = absurd e
declared_refused files units (NotAUnit p) read e = absurd e
declared_refused files units (TooManyCalls n) read e = absurd e

pub declared_there : (o : Option Told) (names : List (String Global)) (units : List unit.Unit) (fault : SourceFault)
    → IfSome o (λ (t : Told). AreRead (files_named t.files names) units) → IsDeclaredFault units fault
    → IfSome o (λ (t : Told). IfRefused fault (AreRefused (files_named t.files names)))
declared_there None names units fault read h = tt
declared_there (Some t) names units Failed read h = tt
declared_there (Some t) names units Memory read h = tt
declared_there (Some t) names units (Refused r) read h = declared_refused (files_named t.files names) units r read h

pub accepted_there : (o : Option Told) (names : List (String Global)) (units : List unit.Unit)
    → IfSome o (λ (t : Told). AreRead (files_named t.files names) units) → refusal units ≡ None
    → IfSome o (λ (t : Told). AreAccepted (files_named t.files names) units)
accepted_there None names units read e = tt
accepted_there (Some t) names units read e = record { read = read; none = e }

pub few_refused_of : {T : Type 0} (o : Option Told) (names : List (String Global)) (r : Result T SourceFault)
    → length names ≤ MAX_FILES
    → IfErr r (λ fault. IfSome o (λ (t : Told). IfRefused fault (IsOneRefused 0 0 (files_named t.files names))))
    → IfErr r (λ fault. IfSome o (λ (t : Told). IfRefused fault (AreRefused (files_named t.files names))))
few_refused_of o names (Ok x) few h = tt
few_refused_of o names (Err fault) few h = few_refused o names fault few h
