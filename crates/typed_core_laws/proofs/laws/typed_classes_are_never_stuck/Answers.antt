use Rattle.typed_core_laws.proofs.TypedRuns.{never-stuck}
use Rattle.typed_core_laws.proofs.laws.typed_classes_are_never_stuck.Goals as goal

pub returns : goal.returns
returns c = λ p class m1 m2 typed one other. never-stuck p class m1 m2 typed one other
