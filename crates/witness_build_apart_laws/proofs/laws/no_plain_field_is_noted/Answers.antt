use Rattle.witness_build_apart_laws.proofs.NoPlain.{stores-no-plain}
use Rattle.witness_build_apart_laws.proofs.laws.no_plain_field_is_noted.Goals as goal

pub returns : goal.returns
returns c = stores-no-plain
