use Rattle.typed_core_laws.proofs.TypedWarnings.{never-blocked}
use Rattle.typed_core_laws.proofs.laws.typed_classes_are_never_blocked.Goals as goal

pub returns : goal.returns
returns c = never-blocked
