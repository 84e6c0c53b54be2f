use Rattle.core_code.specs.Program.{core}
use Rattle.core_ways_laws.proofs.RecordArrivals.{record-comes}
use Rattle.core_ways_laws.proofs.way_laws.records_have_sites.Goals as goal

pub returns : goal.returns
returns c p m method i r there at = record-comes (core p) p.sites_in_order m method i r there at
