use Rattle.std.proofs.Common.{sym}
use Rattle.std.proofs.lemmas.List.{set_past}
use Rattle.core_code.proofs.walk.set_entry.Goals as goal

pub returns-else-place-numbers : goal.returns-else-place-numbers
returns-else-place-numbers c = sym (set_past _ _ _ c.if-place-numbers.false)
