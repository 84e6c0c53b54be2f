use Rattle.std.proofs.Common.{◌++◌, subst}
use Rattle.core_lowering_drafts.specs.Drafts.{Ends, SameEnds}
use Rattle.core_lowering_drafts.specs.EndSets.{seen}
use Rattle.core_lowering_drafts.proofs.joined.either_ends.Goals as goal

pub returns : goal.returns
returns c =
    subst (λ (X : Ends). SameEnds (seen c.add.new.self) (X ++ seen c.args.right.now)) c.in_ok-ends.ensures
    c.in_ok-add.ensures
