use Rattle.core_ways_laws.proofs.Legs.{leg-leads, leg-meets}
use Rattle.core_ways_laws.proofs.laws.legs_meet_records.Goals as goal

pub returns-clause-meets : goal.returns-clause-meets
returns-clause-meets c = leg-meets

pub returns-clause-stable : goal.returns-clause-stable
returns-clause-stable c = leg-leads
