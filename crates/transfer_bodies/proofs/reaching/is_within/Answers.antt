use Rattle.std.proofs.Common.{◌∙◌, sym}
use Rattle.core_code.specs.Tree.{tree_of}
use Rattle.transfer_bodies.proofs.ReachingCode.{leads-within}
use Rattle.transfer_bodies.proofs.reaching.is_within.Goals as goal

pub returns : goal.returns
returns c = λ some.
    leads-within c.args.height (tree_of c.args.code.now) c.height_behind.result c.height_behind.ensures
    (sym c.is_some.ensures ∙ some)
