-- A contract of a public call rests on this: the laws `one_reading` and `one_source`. That the sources of a folder are
-- one thing.
use Rattle.std.specs.Prelude.{◌≡◌, ℕ, Bool, List}
use Rattle.container_cells.specs.declared.cell.Containers.{Containers}
use Rattle.racer_base.specs.Outside.{Files}
use Rattle.racer_base.specs.declared.ids.MethodId.{MethodId}
use Rattle.java_tree.specs.declared.unit.Unit as unit
use Rattle.java_resolver.specs.Refusals.{refusal}
use Rattle.core_lowering_rules.specs.Programs.{program_of}
use Rattle.racer_sources.specs.Sources.{AreReadFrom}
use Rattle.racer_sources.specs.Programs.{Source, IsSource}

-- units that are refused alike, and have one program whatever containers are, and whichever methods are recursive
pub record AreAlike (us vs : List unit.Unit) : Type 0 where
  pub refusals : refusal us ≡ refusal vs
  pub programs : (containers : Containers) (names : List (List ℕ)) (is_recursive : MethodId → Bool)
      → program_of containers names us is_recursive ≡ program_of containers names vs is_recursive

-- the same files are read as units that are alike
abbrev pub OneReading : Type 0
OneReading =
    (files : List (List ℕ)) (us vs : List unit.Unit) → AreReadFrom 0 0 files us → AreReadFrom 0 0 files vs
    → AreAlike us vs

-- the sources of each folder are one thing
abbrev pub OneSource : Type 0
OneSource =
    (containers : Containers) (files : Files) (a b : Source) → IsSource containers files a
    → IsSource containers files b → a ≡ b
