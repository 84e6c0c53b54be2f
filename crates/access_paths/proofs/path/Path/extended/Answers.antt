use Rattle.std.proofs.Common.{rules}
use Rattle.access_paths.proofs.path.Path.extended.Goals as goal

pub returns : goal.returns
returns c = search rules
