use Rattle.core_ways_laws.proofs.WayEnds.{way-ends}
use Rattle.core_ways_laws.proofs.way_laws.ways_end_at_their_access.Goals as goal

pub returns : goal.returns
returns c p m method i r values s t there at entry free = way-ends p m method i r values s t there at entry free
