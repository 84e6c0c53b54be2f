use Rattle.std.proofs.Common.{◌<◌}
use Rattle.racer_base.specs.declared.ids.MethodId.{MethodId}
use Rattle.core_code.specs.Walks.{From}
use Rattle.core_code.proofs.walk.all_methods.Given as goal

-- those so far are there
abbrev pub invariant-loop-place : goal.invariant-loop-place
invariant-loop-place l = (m : MethodId) → m.0 < l.place → From l.methods.items 0 m
