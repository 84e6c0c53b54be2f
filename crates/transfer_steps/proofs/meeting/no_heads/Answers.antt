use Rattle.std.proofs.Common.{◌++◌, ◌∷◌, [], None, Option, List, ap, ◌∙◌}
use Rattle.owner_domain.specs.declared.numbered.NumberedState.{NumberedState}
use Rattle.transfer_steps.proofs.HeadsRead.{one_more_left}
use Rattle.transfer_steps.proofs.meeting.no_heads.Goals as goal

pub loop-loops-preserved : goal.loop-loops-preserved
loop-loops-preserved c = c.in_ok-push.ensures.items
    ∙ ap (λ (xs : List (Option NumberedState)). xs ++ None ∷ []) c.loop-loops.invariant ∙ one_more_left
    c.loop-loops.loops
