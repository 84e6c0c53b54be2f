use Rattle.std.proofs.Common.{sym, subst}
use Rattle.core_ways_sites.specs.Known.{AreFound}
use Rattle.core_ways_sites.proofs.KnownWays.{found-pushed}
use Rattle.core_ways_sites.proofs.table.SiteWays.widen.Goals as goal

pub loop-self-preserved : goal.loop-self-preserved
loop-self-preserved c = λ core known.
    let was = c.loop-self.invariant core known in
    record {
      table = was.table;
      methods =
          subst (AreFound core) (sym c.in_ok-push.ensures.items)
          (found-pushed core c.loop-self.self.methods.items was.methods);
    }
