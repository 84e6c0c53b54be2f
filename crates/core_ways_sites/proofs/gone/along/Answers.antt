use Rattle.std.proofs.Common.{ap, sym, ◌∙◌}
use Rattle.std.proofs.lemmas.Bool.{false≢true}
use Rattle.core_code.specs.Program.{core}
use Rattle.core_ways.specs.Counts.{added}
use Rattle.core_ways.specs.Ways.{trip_along, trip_of}
use Rattle.core_ways_sites.proofs.LeadsOn.{goes}
use Rattle.core_ways_sites.proofs.gone.along.Goals as goal

pub returns-in_ok-push_turns-clause-leads : goal.returns-in_ok-push_turns-clause-leads
returns-in_ok-push_turns-clause-leads c = λ rest whole leads.
    goes c.args.count c.and-now.result c.args.turns.now.items c.push_turns.new.turns.items
    (trip_along (trip_of (core c.args.program.now)) c.args.parts.now) rest whole
    (c.and-now.ensures ∙ ap (added c.args.count) c.in_ok-count_along.ensures.count) (λ o. c.in_ok-push_turns.ensures)
    leads

pub returns-else-is_open-clause-leads : goal.returns-else-is_open-clause-leads
returns-else-is_open-clause-leads c = λ rest whole leads.
    goes c.args.count c.and-now.result c.args.turns.now.items c.args.turns.now.items
    (trip_along (trip_of (core c.args.program.now)) c.args.parts.now) rest whole
    (c.and-now.ensures ∙ ap (added c.args.count) c.in_ok-count_along.ensures.count)
    (λ o. absurd (false≢true (sym c.if-is_open.false ∙ c.is_open.ensures.if_open o))) leads
