use Rattle.std.proofs.Common.{List, subst}
use Rattle.core_code.specs.Program.{core}
use Rattle.core_ways.specs.declared.part.WayPart.{WayPart}
use Rattle.core_ways.specs.Ways.{joined, trip_along, trip_of}
use Rattle.core_ways_sites.specs.Gone.{LeadsOn}
use Rattle.core_ways_sites.proofs.LeadsOn.{no-longer}
use Rattle.core_ways_sites.proofs.noting.past.Goals as goal

pub returns-then-is_one_step-clause-longer : goal.returns-then-is_one_step-clause-longer
returns-then-is_one_step-clause-longer c = no-longer c.args.turns.now.items

pub returns-then-is_one_step-clause-leads : goal.returns-then-is_one_step-clause-leads
returns-then-is_one_step-clause-leads c = λ rest whole leads.
    c.step.ensures c.args.turns.now.items rest whole
    (subst (λ (parts : List WayPart). LeadsOn c.args.count c.args.turns.now.items
    (joined (trip_along (trip_of (core c.args.program.now)) parts) rest) whole)
    (c.is_one_step.ensures c.args.locks c.if-is_one_step.true) leads)
