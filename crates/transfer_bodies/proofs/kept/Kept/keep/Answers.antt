use Rattle.std.proofs.Common.{◌++◌, [], ◌∷◌}
use Rattle.transfer_bodies.proofs.kept.Kept.keep.Goals as goal

pub returns-then-self-eq0-clause-kept : goal.returns-then-self-eq0-clause-kept
returns-then-self-eq0-clause-kept c = λ from to parts code k p.
    c.cut.ensures.kept from (parts ++ code ∷ []) (c.in_ok-add.ensures.kept from to parts code k p)
