use Rattle.std.proofs.Common.{◌∙◌}
use Rattle.core_code.specs.Program.{core}
use Rattle.core_ways_sites.proofs.KnownWays.{ends-along}
use Rattle.core_ways_sites.proofs.table.SiteWays.go_to_end.Goals as goal

pub returns-clause-leads : goal.returns-clause-leads
returns-clause-leads c = λ whole leads.
    ends-along (core c.args.program.now) c.args.method c.args.access c.as_slice.result.now c.args.gone.now.count
    c.in_ok-gone.field-0 c.args.gone.now.turns.items c.along.new.turns.items whole
    (c.as_slice.ensures.value ∙ c.in_ok-parts.ensures) c.in_ok-gone.ensures.leads leads
