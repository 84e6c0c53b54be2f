use Rattle.access_paths.proofs.Extension.{extended_along-append}
use Rattle.access_paths.proofs.laws.extension_composes.Goals as goal

pub returns : goal.returns
returns c = extended_along-append
