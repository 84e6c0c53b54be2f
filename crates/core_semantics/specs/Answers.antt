-- A contract of a public call rests on this: what the answer of a step says.
use Rattle.std.specs.Prelude.{◌≡◌, Option, None, Some}
use Rattle.core_semantics.specs.declared.answer.StepAnswer.{StepAnswer}
use Rattle.core_semantics.specs.declared.answer.StepAnswer.TheVariants.{Stepped, Stuck, Done, Held, Memory}
use Rattle.core_semantics.specs.Steps.{Next, Goes, Sticks, Waits, Ends}

-- what comes of a step, what was so before it and what is so after it, by the answer: every answer but Stepped changes
-- nothing
abbrev pub IsAnswer : {X : Type 0} → Next X → X → X → StepAnswer → Type 0
IsAnswer next old new Stepped = next ≡ Goes new
IsAnswer next old new (Stuck why) = (next ≡ Sticks why) × (new ≡ old)
IsAnswer next old new Done = (next ≡ Ends) × (new ≡ old)
IsAnswer next old new (Held monitor) = (next ≡ Waits monitor) × (new ≡ old)
IsAnswer next old new Memory = new ≡ old

-- the same, where the step may also end the thread: then no answer is given
abbrev pub IsAnswerOrEnd : {X : Type 0} → Next X → X → X → X → Option StepAnswer → Type 0
IsAnswerOrEnd next old new end None = next ≡ Goes end
IsAnswerOrEnd next old new end (Some answer) = IsAnswer next old new answer
