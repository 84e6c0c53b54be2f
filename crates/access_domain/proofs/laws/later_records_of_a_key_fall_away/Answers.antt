use Rattle.access_domain.specs.Records.{same_key}
use Rattle.access_domain.proofs.Firsts.{firsts-new, firsts-old}
use Rattle.access_domain.proofs.laws.later_records_of_a_key_fall_away.Goals as goal

pub returns-clause-new : goal.returns-clause-new
returns-clause-new c = firsts-new same_key

pub returns-clause-old : goal.returns-clause-old
returns-clause-old c = firsts-old same_key
