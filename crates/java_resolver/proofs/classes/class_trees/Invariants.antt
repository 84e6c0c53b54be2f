use Rattle.std.proofs.Common.{◌≡◌, ◌++◌, drop}
use Rattle.java_resolver.specs.Declarations.{trees_of}
use Rattle.java_resolver.specs.Indexes.{trees_behind}
use Rattle.java_resolver.proofs.classes.class_trees.Given as goal

abbrev pub invariant-loop-unit : goal.invariant-loop-unit
invariant-loop-unit l =
    trees_behind l.trees.items ++ trees_of (drop l.unit-index l.units) ≡ trees_of l.units
