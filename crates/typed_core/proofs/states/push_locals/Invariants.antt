use Rattle.std.proofs.Common.{◌≡◌, ◌++◌, length, map, drop}
use Rattle.racer_base.specs.declared.ids.Kind.{Kind}
use Rattle.typed_core.specs.declared.kinds.TypedKind.TheVariants.{Unset}
use Rattle.typed_core.proofs.states.push_locals.Given as goal

abbrev pub invariant-loop-number : goal.invariant-loop-number
invariant-loop-number l =
    l.vars.items ++ map (λ (local : Kind). Unset) (drop l._number l.variables) ≡
    l.fn.vars.items ++ map (λ (local : Kind). Unset) (drop (length l.fn.vars.items) l.variables)
