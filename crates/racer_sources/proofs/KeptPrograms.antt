-- The program of sources that are kept is that of the files.
use Rattle.std.proofs.Common.{◌≡◌, ℕ, List, Option, None, Some, map, sym, ap, subst, ◌∙◌, String, Vec, Global}
use Rattle.std.proofs.Common.{string_bytes}
use Rattle.std.specs.Prelude.{Result, Ok, Err, IfOk}
use Rattle.std.specs.Option.{IfSome}
use Rattle.container_cells.specs.declared.cell.Containers.{Containers}
use Rattle.container_cells.specs.declared.cell.Containers.TheVariants.{Opaque}
use Rattle.racer_base.specs.Outside.{Files, Told}
use Rattle.racer_base.specs.declared.out_of_memory.Memory as memory
use Rattle.java_tree.specs.declared.unit.Unit as unit
use Rattle.racer_sources.specs.Contents.{bytes_in, front}
use Rattle.racer_sources.specs.Finding.{IsFound}
use Rattle.racer_sources.specs.Kept.{AreKept, HasKept}
use Rattle.racer_sources.specs.Lines.{refusal_line}
use Rattle.racer_sources.specs.Lowering.{IsLoweredFrom}
use Rattle.racer_sources.specs.Programs.{IsSource, Refusal, AreRefusedFor, source_of}
use Rattle.racer_sources.specs.Sources.{AreAccepted, AreRefused, contents, source_names}
use Rattle.racer_sources.specs.declared.refusal.Refusal as refusal
use Rattle.racer_sources.specs.declared.refusal.Refusal.TheVariants.{TooManyFiles, TooLong, TooManyBytes, NotUtf8}
use Rattle.racer_sources.specs.declared.refusal.Refusal.TheVariants.{BadCharacter, Unclosed, BadLiteral, Unbalanced}
use Rattle.racer_sources.specs.declared.refusal.Refusal.TheVariants.{TooDeep, NotAUnit, DuplicateClass, DuplicateField}
use Rattle.racer_sources.specs.declared.refusal.Refusal.TheVariants.{TooManyClasses, TooManyMethods, TooManyCalls}
use Rattle.racer_sources.specs.declared.found.AcceptedSources.{AcceptedSources}
use Rattle.racer_sources.specs.declared.found.FolderSources.TheVariants as found
use Rattle.racer_sources.specs.declared.kept.KeptProgram.{KeptProgram}
use Rattle.racer_sources.specs.declared.programs.FoundProgram.{FoundProgram}
use Rattle.racer_sources.specs.declared.source_files.SourceFiles.{SourceFiles}
use Rattle.racer_sources.proofs.Conditions.{lowered_source}
use Rattle.racer_sources.proofs.Fronts.{accepted_of_fronts, refused_of_fronts, fronts_of_read}

-- what refuses sources refuses them with their calls
refused_with_calls : (containers : Containers) (files : Files) (r : refusal.Refusal) → AreRefused (contents files) r
    → AreRefusedFor containers files r
refused_with_calls containers files (TooManyCalls n) h = absurd h
refused_with_calls containers files (TooManyFiles n) h = h
refused_with_calls containers files (TooLong f) h = h
refused_with_calls containers files (TooManyBytes n) h = h
refused_with_calls containers files (NotUtf8 f n) h = h
refused_with_calls containers files (BadCharacter p) h = h
refused_with_calls containers files (Unclosed p) h = h
refused_with_calls containers files (BadLiteral p) h = h
refused_with_calls containers files (Unbalanced p) h = h
refused_with_calls containers files (TooDeep p) h = h
refused_with_calls containers files (NotAUnit p) h = h
refused_with_calls containers files (DuplicateClass p q) h = h
refused_with_calls containers files (DuplicateField p q) h = h
refused_with_calls containers files (TooManyClasses n) h = h
refused_with_calls containers files (TooManyMethods n) h = h

-- sources that are found are kept by their names and their bytes
pub found_kept : (o : Option Told) (s : AcceptedSources) (files : SourceFiles) (kept : KeptProgram)
    → IfSome o (λ (t : Told). IsFound t.files (found.Accepted s)) → files.names ≡ s.names
    → files.contents ≡ s.contents → ((folder : Files) → AreKept folder files → HasKept folder kept)
    → IfSome o (λ (t : Told). HasKept t.files kept)
found_kept None s files kept is names bytes step = tt
found_kept (Some t) s files kept is names bytes step =
    step t.files (record {
      names = ap (λ (ns : Vec (String Global) Global). map string_bytes ns.items) names ∙ is.1;
      contents = ap (λ (cs : Vec (Vec ℕ Global) Global). bytes_in cs.items) bytes ∙ is.2
          ∙ sym (fronts_of_read 0 0 (contents t.files) s.units.items is.0.read.read);
    })

pub program_kept : (files : Files) (kept : SourceFiles) (units : List unit.Unit)
    (r : Result FoundProgram memory.Memory) → AreAccepted (bytes_in kept.contents.items) units
    → IfOk r (IsLoweredFrom Opaque (map string_bytes kept.names.items) units) → AreKept files kept
    → IfOk r (λ f. IsSource Opaque files (source_of f))
program_kept files kept units (Err e) accepted low are = tt
program_kept files kept units (Ok f) accepted low are =
    lowered_source Opaque files (map string_bytes kept.names.items) units f
    (accepted_of_fronts (contents files) units
    (subst (λ (fs : List (List ℕ)). AreAccepted fs units) are.contents accepted))
    are.names low

pub refused_kept : (files : Files) (kept : SourceFiles) (r : refusal.Refusal) (line : List ℕ)
    → AreRefused (bytes_in kept.contents.items) r → line ≡ refusal_line (map string_bytes kept.names.items) r
    → AreKept files kept → IsSource Opaque files (Refusal line)
refused_kept files kept r line refused is are = (
  r,
  refused_with_calls Opaque files r (refused_of_fronts (contents files) r
      (subst (λ (fs : List (List ℕ)). AreRefused fs r) are.contents refused)),
  is ∙ ap (λ (ns : List (List ℕ)). refusal_line ns r) are.names,
)
