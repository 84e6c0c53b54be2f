use Rattle.std.proofs.Common.{◌≡◌, ◌++◌, map, drop}
use Rattle.java_resolver.specs.declared.scope.ScopeVariable.{ScopeVariable}
use Rattle.core_lowering_context.proofs.context.Context.variables_from.Given as goal

abbrev pub invariant-loop-variable : goal.invariant-loop-variable
invariant-loop-variable l =
    l.all.items ++ map (λ (v : ScopeVariable). v.id) (drop l.variable-index l.variable-items)
    ≡ map (λ (v : ScopeVariable). v.id) l.variable-items
