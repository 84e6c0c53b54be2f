use Rattle.std.proofs.Common.{◌≡◌, ◌++◌, drop}
use Rattle.java_resolver.specs.Indexes.{trees_behind}
use Rattle.java_resolver.proofs.classes.push_trees.Given as goal

abbrev pub invariant-loop-class : goal.invariant-loop-class
invariant-loop-class l =
    trees_behind l.trees.items ++ drop l.class-index l.classes ≡ trees_behind l.fn.trees.items ++ l.classes
