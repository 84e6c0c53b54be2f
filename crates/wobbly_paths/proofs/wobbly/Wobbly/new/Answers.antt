use Rattle.std.proofs.Common.{sym, subst}
use Rattle.wobbly_paths.specs.Inside.{IsWithin}
use Rattle.wobbly_paths.proofs.SetLemmas.{IsWithin-none}
use Rattle.wobbly_paths.proofs.wobbly.Wobbly.new.Goals as goal

pub invariant_of-result : goal.invariant_of-result
invariant_of-result c = subst IsWithin (sym c.new.ensures.empty) IsWithin-none
