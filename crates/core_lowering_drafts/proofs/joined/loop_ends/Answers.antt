use Rattle.std.proofs.Common.{◌∷◌, subst}
use Rattle.core_lowering_drafts.specs.Drafts.{Ends, Normal, SameEnds}
use Rattle.core_lowering_drafts.specs.EndSets.{seen}
use Rattle.core_lowering_drafts.proofs.joined.loop_ends.Goals as goal

pub returns : goal.returns
returns c =
    subst (λ (X : Ends). SameEnds (seen c.put_normal.new.self) (Normal ∷ X)) c.in_ok-ends.ensures
    c.put_normal.ensures
