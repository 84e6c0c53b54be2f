use Rattle.witness_build_apart_laws.proofs.Beginnings.{avoids-same, goes-same, stores-same}
use Rattle.witness_build_apart_laws.proofs.laws.legs_begin_anywhere.Goals as goal

pub returns-clause-goes : goal.returns-clause-goes
returns-clause-goes c = goes-same

pub returns-clause-stores : goal.returns-clause-stores
returns-clause-stores c = stores-same

pub returns-clause-avoids : goal.returns-clause-avoids
returns-clause-avoids c = avoids-same
