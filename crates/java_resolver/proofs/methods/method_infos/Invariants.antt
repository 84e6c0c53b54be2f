use Rattle.std.proofs.Common.{◌≡◌, ◌++◌, drop}
use Rattle.java_resolver.specs.Declarations.{class_names, class_methods, by_class}
use Rattle.java_resolver.specs.Indexes.{trees_behind, methods_behind}
use Rattle.java_resolver.proofs.methods.method_infos.Given as goal

abbrev pub invariant-loop-index : goal.invariant-loop-index
invariant-loop-index l =
    l.methods.items
    ++ by_class (class_methods (class_names l.classes)) l.index (trees_behind (drop l.index l.trees)) ≡
    methods_behind l.classes l.trees
