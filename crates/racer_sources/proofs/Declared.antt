-- What units declare, told of the sources that they were read of.
use Rattle.std.proofs.Common.{◌≡◌, ℕ, ◌≤◌, List, Option, length, map, refl, sym, subst, ◌∙◌, String, Vec, Global}
use Rattle.std.proofs.Common.{string_bytes}
use Rattle.std.proofs.lemmas.List.{length-map}
use Rattle.std.specs.Prelude.{Result, Ok, Err, IfOk, IfErr}
use Rattle.std.specs.Option.{IfSome}
use Rattle.racer_base.specs.Outside.{Told}
use Rattle.racer_base.specs.declared.limits.TheConstants.{MAX_FILES}
use Rattle.java_tree.specs.declared.unit.Unit as unit
use Rattle.racer_sources.specs.Contents.{bytes_in}
use Rattle.racer_sources.specs.declared.fault.SourceFault.{SourceFault}
use Rattle.racer_sources.specs.declared.fault.SourceFault.TheVariants.{Refused, Failed, Memory}
use Rattle.racer_sources.specs.declared.found.DeclaredUnits.{DeclaredUnits}
use Rattle.racer_sources.specs.declared.source_files.SourceFiles.{SourceFiles}
use Rattle.racer_sources.specs.Sources.{AreRead, AreReadFrom, IsOneRefused, AreAccepted, AreRefused}
use Rattle.racer_sources.specs.Reading.{Counts, NeverFails, IfRefused}
use Rattle.racer_sources.specs.Finding.{AreKnown, AreReadSomehow}
use Rattle.racer_sources.specs.Declaring.{AreDeclared, IsDeclaredFault}
use Rattle.racer_sources.specs.Kept.{IsDeclaredOf}
use Rattle.racer_sources.proofs.Together.{files_named, accepted_there, declared_there, declared_refused, one_refused}

abbrev Answer : Type 0
Answer = Result DeclaredUnits SourceFault

known_units : (names : List (List ℕ)) (units : List unit.Unit) (d : DeclaredUnits) → length units ≡ length names
    → AreReadSomehow 0 units → AreDeclared units d → AreKnown names d.units.items d.table
known_units names units d counted read is =
    subst (λ (us : List unit.Unit). AreKnown names us d.table) (sym is.units_are)
    (record { counted = counted; table = is.table; none = is.none; read = read })

pub known_of : (r : Answer) (names : List (List ℕ)) (units : List unit.Unit) → length units ≡ length names
    → AreReadSomehow 0 units → IfOk r (AreDeclared units) → IfOk r (λ d. AreKnown names d.units.items d.table)
known_of (Err f) names units counted read is = tt
known_of (Ok d) names units counted read is = known_units names units d counted read is

pub counts_of : (r : Answer) (units : List unit.Unit) (old new : ℕ) → IfErr r (IsDeclaredFault units) → new ≡ old
    → Counts r old new
counts_of (Ok d) units old new h e = e
counts_of (Err (Refused r)) units old new h e = e
counts_of (Err Failed) units old new h e = absurd h
counts_of (Err Memory) units old new h e = e

pub never_of : (r : Answer) (units : List unit.Unit) → IfErr r (IsDeclaredFault units) → NeverFails r
never_of (Ok d) units h = tt
never_of (Err (Refused r)) units h = λ e. let bad : ◌≡◌ {A = SourceFault} (Refused r) Failed = e in cc
never_of (Err Failed) units h = absurd h
never_of (Err Memory) units h = λ e. let bad : ◌≡◌ {A = SourceFault} Memory Failed = e in cc

-- ---- of files of a folder that may tell them

pub accepted_of : (r : Answer) (o : Option Told) (names : List (String Global)) (units : List unit.Unit)
    → IfSome o (λ (t : Told). AreRead (files_named t.files names) units) → IfOk r (AreDeclared units)
    → IfOk r (λ d. IfSome o (λ (t : Told). AreAccepted (files_named t.files names) d.units.items))
accepted_of (Err f) o names units read is = tt
accepted_of (Ok d) o names units read is =
    subst (λ (us : List unit.Unit). IfSome o (λ (t : Told). AreAccepted (files_named t.files names) us))
    (sym is.units_are)
    (accepted_there o names units read is.none)

pub refused_of : (r : Answer) (o : Option Told) (names : List (String Global)) (units : List unit.Unit)
    → IfSome o (λ (t : Told). AreRead (files_named t.files names) units) → IfErr r (IsDeclaredFault units)
    → IfErr r (λ fault. IfSome o (λ (t : Told). IfRefused fault (AreRefused (files_named t.files names))))
refused_of (Ok d) o names units read h = tt
refused_of (Err f) o names units read h = declared_there o names units f read h

-- ---- of sources that are kept

few_kept : (kept : SourceFiles) → length (bytes_in kept.contents.items) ≤ MAX_FILES
few_kept kept =
    subst (λ (n : ℕ). n ≤ MAX_FILES)
    (sym (length-map kept.contents.items (λ (bytes : Vec ℕ Global). bytes.items) ∙ kept.in_limits.as_many))
    kept.in_limits.few

pub declared_of : (kept : SourceFiles) (r : Answer) (units : List unit.Unit)
    → AreReadFrom 0 0 (bytes_in kept.contents.items) units → AreReadSomehow 0 units
    → length units ≡ length kept.contents.items → IfOk r (AreDeclared units) → IfErr r (IsDeclaredFault units)
    → IsDeclaredOf kept r
declared_of kept (Ok d) units read any counted is fault = (
  subst (λ (us : List unit.Unit). AreAccepted (bytes_in kept.contents.items) us) (sym is.units_are)
      (record { read = record { few = few_kept kept; read = read }; none = is.none }),
  known_units (map string_bytes kept.names.items) units d
      (counted ∙ kept.in_limits.as_many ∙ sym (length-map kept.names.items string_bytes)) any is,
)
declared_of kept (Err (Refused r)) units read any counted is fault =
    declared_refused (bytes_in kept.contents.items) units r (record { few = few_kept kept; read = read }) fault
declared_of kept (Err Failed) units read any counted is fault = fault
declared_of kept (Err Memory) units read any counted is fault = tt

pub unread_of : (kept : SourceFiles) (fault : SourceFault)
    → IfRefused fault (IsOneRefused 0 0 (bytes_in kept.contents.items)) → (fault ≡ Failed → ⊥)
    → IsDeclaredOf kept (Err fault)
unread_of kept (Refused r) refused never = one_refused (bytes_in kept.contents.items) r (few_kept kept) refused
unread_of kept Failed refused never = never refl
unread_of kept Memory refused never = tt
