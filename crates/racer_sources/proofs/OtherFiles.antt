-- What program sources are depends on their names and bytes alone.
use Rattle.std.proofs.Common.{◌≡◌, ℕ, List, subst}
use Rattle.container_cells.specs.declared.cell.Containers.{Containers}
use Rattle.racer_base.specs.Outside.{Files}
use Rattle.core_code.specs.Core.{Core}
use Rattle.core_lowering_rules.specs.Programs.{IsLowered}
use Rattle.racer_sources.specs.Programs.{IsProgram}
use Rattle.racer_sources.specs.Sources.{AreAccepted, contents, source_names}

pub one_program : (containers : Containers) (a b : Files) (program : Core) → source_names a ≡ source_names b
    → contents a ≡ contents b → IsProgram containers a program → IsProgram containers b program
one_program containers a b program names bytes is =
    record {
      units = is.units;
      accepted = subst (λ (files : List (List ℕ)). AreAccepted files is.units) bytes is.accepted;
      few = is.few;
      lowered = subst (λ (files : List (List ℕ)). IsLowered containers files is.units program) names is.lowered;
    }
