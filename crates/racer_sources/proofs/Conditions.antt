-- Units of accepted sources meet the conditions of their lowering.
use Rattle.std.proofs.Common.{◌≡◌, ℕ, suc, ◌≤◌, List, [], ◌∷◌, length, map, ap, subst, arith, ◌∙◌}
use Rattle.std.proofs.Common.{Option, None, Some, string_bytes}
use Rattle.std.specs.Option.{IfSome}
use Rattle.container_cells.specs.declared.cell.Containers.{Containers}
use Rattle.racer_base.specs.Outside.{Told, Files}
use Rattle.std.specs.Prelude.{IsTrue}
use Rattle.java_tree.specs.declared.unit.Unit as unit
use Rattle.java_resolver.specs.declared.table.Table.{Table}
use Rattle.core_lowering_rules.specs.Conditions.{are_in_files, are_named}
use Rattle.core_lowering_conditions.specs.FromTokens.{AreFromTokens}
use Rattle.core_lowering_rules.specs.Programs.{IsLowered}
use Rattle.core_code.specs.Program.{core}
use Rattle.racer_sources.specs.declared.refusal.Refusal.TheVariants.{TooManyCalls}
use Rattle.racer_sources.specs.declared.found.AcceptedSources.{AcceptedSources}
use Rattle.racer_sources.specs.Sources.{contents, source_names, AreAccepted}
use Rattle.racer_sources.specs.Lines.{refusal_line}
use Rattle.racer_sources.specs.Finding.{AreReadSomehow, AreKnown, IsFound}
use Rattle.racer_sources.specs.declared.found.FolderSources.TheVariants as sources
use Rattle.racer_sources.specs.declared.programs.FoundProgram.{FoundProgram}
use Rattle.racer_sources.specs.declared.programs.FoundProgram.TheVariants as found
use Rattle.racer_sources.specs.Programs.{IsSource, source_of}
use Rattle.racer_sources.specs.Lowering.{IsLoweredFrom}

from_tokens : (n : ℕ) (us : List unit.Unit) → AreReadSomehow n us → AreFromTokens n us
from_tokens n [] h = tt
from_tokens n (u ∷ us) h =
    let is = h.0.2 in
    (record { bytes = h.0.1; lexed = is.lexed; tokens = is.tokens; unit = is.unit }, from_tokens (suc n) us h.1)

abbrev pub ArePlaced : Type 0
ArePlaced = (files : List (List ℕ)) (units : List unit.Unit) → AreFromTokens 0 units → length units ≤ length files
    → IsTrue (are_in_files files units)

pub placed : ArePlaced → (names : List (List ℕ)) (us : List unit.Unit) (t : Table) → AreKnown names us t
    → IsTrue (are_in_files names us)
placed law names us t known =
    law names us (from_tokens 0 us known.read)
    (let e : length us ≡ length names = known.counted in omega (arith, e))

abbrev pub HaveNames : Type 0
HaveNames = (units : List unit.Unit) → AreFromTokens 0 units → IsTrue (are_named units)

pub names_known : HaveNames → (names : List (List ℕ)) (us : List unit.Unit) (t : Table) → AreKnown names us t
    → IsTrue (are_named us)
names_known law names us t known = law us (from_tokens 0 us known.read)

-- what accepted sources are lowered to is what the sources are
pub lowered_source : (containers : Containers) (files : Files) (names : List (List ℕ)) (units : List unit.Unit)
    (f : FoundProgram) → AreAccepted (contents files) units → names ≡ source_names files
    → IsLoweredFrom containers names units f → IsSource containers files (source_of f)
lowered_source containers files names units (found.Accepted program) accepted same low =
    record {
      units = units;
      accepted = accepted;
      few = low.0;
      lowered = subst (λ (ns : List (List ℕ)). IsLowered containers ns units (core program)) same low.1;
    }
lowered_source containers files names units (found.Refused line) accepted same low = (
  TooManyCalls low.0,
  record { units = units; accepted = accepted; counted = low.1; many = low.2 },
  low.3 ∙ ap (λ (ns : List (List ℕ)). refusal_line ns (TooManyCalls low.0)) same,
)

pub lowered_there : (containers : Containers) (o : Option Told) (s : AcceptedSources) (f : FoundProgram)
    → IfSome o (λ (t : Told). IsFound t.files (sources.Accepted s))
    → IsLoweredFrom containers (map string_bytes s.names.items) s.units.items f
    → IfSome o (λ (t : Told). IsSource containers t.files (source_of f))
lowered_there containers None s f accepted low = tt
lowered_there containers (Some t) s f accepted low =
    lowered_source containers t.files (map string_bytes s.names.items) s.units.items f accepted.0 accepted.1 low
