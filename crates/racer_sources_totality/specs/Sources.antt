-- A contract of a public call rests on this: the law `sources_are_total`. That the sources of each folder are
-- something, and one thing alone.
use Rattle.std.specs.Prelude.{◌≡◌}
use Rattle.container_cells.specs.declared.cell.Containers.{Containers}
use Rattle.racer_base.specs.Outside.{Files}
use Rattle.racer_sources.specs.Programs.{Source, IsSource}

-- the sources of each folder are refused or a program, whatever containers are
abbrev pub IsTotalSource : Type 0
IsTotalSource = (containers : Containers) (files : Files) → (source : Source) × IsSource containers files source

-- the sources of a folder are this and nothing else
pub record IsOnlySource (containers : Containers) (files : Files) (source : Source) : Type 0 where
  pub is : IsSource containers files source
  pub only : (other : Source) → IsSource containers files other → other ≡ source

-- the sources of each folder are one thing
abbrev pub HasOnlySource : Type 0
HasOnlySource =
    (containers : Containers) (files : Files) → (source : Source) × IsOnlySource containers files source
