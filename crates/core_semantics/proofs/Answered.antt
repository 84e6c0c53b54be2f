-- Answers in what a step is a part of.
use Rattle.std.proofs.Common.{◌≡◌, ap, ◌∙◌}
use Rattle.core_semantics.specs.declared.answer.StepAnswer.{StepAnswer}
use Rattle.core_semantics.specs.declared.answer.StepAnswer.TheVariants.{Stepped, Stuck, Done, Held, Memory}
use Rattle.core_semantics.specs.Answers.{IsAnswer}
use Rattle.core_semantics.specs.Steps.{Next, within}

-- what is answered of a part is answered of the whole
pub within_whole : {X Y : Type 0} (whole : X → Y) (next : Next X) (old new : X) (r : StepAnswer) →
    IsAnswer next old new r → IsAnswer (within whole next) (whole old) (whole new) r
within_whole whole next old new Stepped h = ap (within whole) h
within_whole whole next old new (Stuck why) h = (ap (within whole) h.0, ap whole h.1)
within_whole whole next old new Done h = (ap (within whole) h.0, ap whole h.1)
within_whole whole next old new (Held monitor) h = (ap (within whole) h.0, ap whole h.1)
within_whole whole next old new Memory h = ap whole h

-- the same is answered of what is equal
pub along : {X : Type 0} (next same : Next X) (old new : X) (r : StepAnswer) → same ≡ next →
    IsAnswer next old new r → IsAnswer same old new r
along next same old new Stepped e h = e ∙ h
along next same old new (Stuck why) e h = (e ∙ h.0, h.1)
along next same old new Done e h = (e ∙ h.0, h.1)
along next same old new (Held monitor) e h = (e ∙ h.0, h.1)
along next same old new Memory e h = h
