use Rattle.core_semantics_laws.proofs.HeldOnce.{leg-once, moved-once}
use Rattle.core_semantics_laws.proofs.laws.monitors_have_one_holder.Goals as goal

pub returns-clause-steps : goal.returns-clause-steps
returns-clause-steps c = moved-once

pub returns-clause-legs : goal.returns-clause-legs
returns-clause-legs c = leg-once
