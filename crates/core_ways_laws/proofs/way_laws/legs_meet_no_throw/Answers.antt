use Rattle.core_ways_laws.proofs.ClearLegs.{leg-unthrown}
use Rattle.core_ways_laws.proofs.way_laws.legs_meet_no_throw.Goals as goal

pub returns : goal.returns
returns c p m method i r values s t each there at entry free =
    leg-unthrown p m method i r values s t each there at entry free
