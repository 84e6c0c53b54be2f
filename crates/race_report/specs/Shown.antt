-- A contract of a public call rests on this: what the report on a program shows of its warnings.
use Rattle.std.specs.Prelude.{◌≡◌, ◌++◌, List, Some, Contains, codes}
use Rattle.std.specs.List.{flat_map}
use Rattle.access_paths.specs.declared.path.Path.{Path}
use Rattle.core_code.specs.Core.{Core}
use Rattle.access_domain.specs.declared.access.Access.{Access}
use Rattle.access_domain.specs.OutcomeRecords.{record_at}
use Rattle.race_pairs.specs.declared.warning.Warning.{Warning}
use Rattle.race_pairs.specs.Warnings.{warnings}
use Rattle.core_semantics.specs.declared.object.StartPath.{StartPath}
use Rattle.core_semantics.specs.Legs.{Leg}
use Rattle.core_ways.specs.Marks.{IsWhole}
use Rattle.core_ways.specs.Stable.{IsStable}
use Rattle.witness_build_laws.specs.Warned.{pair_of}
use Rattle.race_report_parts.specs.Told.{sides_of}
use Rattle.race_report_parts.specs.Report.{line, legs_lines, object_line, sides_lines, warning_lines}
use Rattle.witness_build_laws.specs.Races.{RacesOn}

-- The lines of a warning on this path are its two records and then a run: these objects and these legs stand below
-- `mark confirmed`, and the legs, run from these objects, end in a race in the cell of the path.
pub record ShowsRace (core : Core) (w : Warning) (p : Path) : Type 0 where
  pub objects : List StartPath
  pub legs : List Leg
  pub lines : warning_lines core w ≡ sides_lines core (sides_of core w)
      ++ (line (codes " mark confirmed") ++ (flat_map (object_line core) objects ++ legs_lines legs))
  pub race : RacesOn core w objects legs p

-- each warning whose path is stable in both methods and whose two ways are whole shows its race
abbrev pub DoWholeWarningsRace : Core → Type 0
DoWholeWarningsRace core =
    (w : Warning) (r : Access) → Contains (warnings core) w → record_at core w.entry w.access ≡ Some r
    → IsStable core w.entry w.partner r.path → IsWhole core (pair_of w) → ShowsRace core w r.path
