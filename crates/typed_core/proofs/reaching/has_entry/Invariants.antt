use Rattle.std.proofs.Common.{◌≡◌, map, drop}
use Rattle.std.specs.List.{list_any}
use Rattle.core_code.specs.Core.{method_of}
use Rattle.typed_core.specs.Typings.{is_entry_of}
use Rattle.typed_core.proofs.reaching.has_entry.Given as goal

abbrev pub invariant-loop-method : goal.invariant-loop-method
invariant-loop-method l =
    list_any (is_entry_of l.class) (map method_of (drop l.method-index l.methods)) ≡
    list_any (is_entry_of l.class) (map method_of l.methods)
