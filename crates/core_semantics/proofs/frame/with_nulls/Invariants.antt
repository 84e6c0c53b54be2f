use Rattle.std.proofs.Common.{◌≡◌, ◌++◌, ◌-◌, length, replicate, vec_len}
use Rattle.core_semantics.specs.declared.object.Value.TheVariants.{Null}
use Rattle.core_semantics.proofs.frame.with_nulls.Given as goal

abbrev pub invariant-loop-values : goal.invariant-loop-values
invariant-loop-values l =
    l.values.items ++ replicate (l.count - length l.values.items) Null
    ≡ l.fn.values.items ++ replicate (l.fn.count - length l.fn.values.items) Null

abbrev pub decreases-loop-values : goal.decreases-loop-values
decreases-loop-values l = l.count - vec_len l.values
