use Rattle.core_semantics_kinds.proofs.RightObjects.{objects-right}
use Rattle.core_semantics_kinds.proofs.laws.objects_are_right.Goals as goal

pub returns : goal.returns
returns c = objects-right
