use Rattle.std.proofs.Common.{◌≡◌, ◌++◌, drop, map}
use Rattle.core_code.specs.Program.{core}
use Rattle.core_ways.specs.Marks.{said_by}
use Rattle.witness_build_laws.specs.Warned.{warning_mark}
use Rattle.witness_build_walks.specs.Told.{AreWalks}
use Rattle.core_ways_sites.specs.Known.{IsKnown}
use Rattle.witness_build.proofs.marks.marks_from.Given as goal

-- the marks so far, and those of the warnings that are left; what is known of ways is right, and the walks are walks
abbrev pub invariant-loop-warning : goal.invariant-loop-warning
invariant-loop-warning l =
    record {
      marks : map said_by l.marks.items ++ map (warning_mark (core l.program)) (drop l.warning-index l.found)
          ≡ map (warning_mark (core l.program)) l.found;
      known : IsKnown (core l.program) l.known;
      walks : AreWalks (core l.program) l.walks;
    }
