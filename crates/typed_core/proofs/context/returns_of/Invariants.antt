use Rattle.std.proofs.Common.{◌≡◌, ◌++◌, map, drop}
use Rattle.core_code.specs.Core.{method_of}
use Rattle.typed_core.specs.Contexts.{returns_in}
use Rattle.typed_core.proofs.context.returns_of.Given as goal

abbrev pub invariant-loop-method : goal.invariant-loop-method
invariant-loop-method l =
    l.returns.items ++ map returns_in (map method_of (drop l.method-index l.methods)) ≡
    map returns_in (map method_of l.methods)
