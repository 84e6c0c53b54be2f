use Rattle.core_code.specs.Calls.{rank_of}
use Rattle.core_code.specs.Program.{core}
use Rattle.core_ways.specs.Ways.{way_of}
use Rattle.core_ways_sites.specs.Gone.{LeadsOn}
use Rattle.core_ways_sites.specs.Known.{IsKnown}
use Rattle.core_ways_sites.proofs.table.SiteWays.go_to_record.Given as goal

-- what is gone, and then the way from here on, is the whole
abbrev pub invariant-loop-gone : goal.invariant-loop-gone
invariant-loop-gone l =
    let program = core l.program in
    record {
      known : IsKnown program l.self;
      leads : LeadsOn l.gone.count l.gone.turns.items (way_of program l.method l.access)
          (way_of program l.fn.target.method l.fn.target.access);
    }

abbrev pub decreases-loop-gone : goal.decreases-loop-gone
decreases-loop-gone l = rank_of (core l.program) l.method
