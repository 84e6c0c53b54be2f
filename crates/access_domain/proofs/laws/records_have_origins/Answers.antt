use Rattle.access_domain.proofs.RecordOrigins.{origin, origin_of_method}
use Rattle.access_domain.proofs.laws.records_have_origins.Goals as goal

pub returns-clause-code : goal.returns-clause-code
returns-clause-code c = origin

pub returns-clause-method : goal.returns-clause-method
returns-clause-method c = origin_of_method
