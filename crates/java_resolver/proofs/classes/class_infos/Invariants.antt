use Rattle.std.proofs.Common.{◌≡◌, ◌++◌, map, drop}
use Rattle.java_resolver.specs.Declarations.{class_info}
use Rattle.java_resolver.specs.Indexes.{trees_behind}
use Rattle.java_resolver.proofs.classes.class_infos.Given as goal

abbrev pub invariant-loop-tree : goal.invariant-loop-tree
invariant-loop-tree l =
    l.classes.items ++ map class_info (trees_behind (drop l.tree-index l.trees)) ≡ map class_info (trees_behind l.trees)
