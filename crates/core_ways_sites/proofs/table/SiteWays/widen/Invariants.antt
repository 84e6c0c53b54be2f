use Rattle.std.proofs.Common.{◌-◌, length}
use Rattle.core_code.specs.Core.{Core}
use Rattle.core_ways_sites.specs.Known.{IsKnown}
use Rattle.core_ways_sites.proofs.table.SiteWays.widen.Given as goal

-- what was known is known
abbrev pub invariant-loop-self : goal.invariant-loop-self
invariant-loop-self l = (c : Core) → IsKnown c l.fn.self → IsKnown c l.self

abbrev pub decreases-loop-self : goal.decreases-loop-self
decreases-loop-self l = l.count - length l.self.methods.items
