use Rattle.core_semantics_kinds.proofs.HeldObjects.{held-lead, stored-lead}
use Rattle.core_semantics_kinds.proofs.laws.held_objects_lead.Goals as goal

pub returns-clause-held : goal.returns-clause-held
returns-clause-held c = held-lead

pub returns-clause-stored : goal.returns-clause-stored
returns-clause-stored c = stored-lead
