use Rattle.std.proofs.Common.{◌≡◌, ◌++◌, drop}
use Rattle.java_resolver.specs.Declarations.{class_names, class_fields, by_class}
use Rattle.java_resolver.specs.Indexes.{trees_behind, fields_behind}
use Rattle.java_resolver.proofs.fields.field_infos.Given as goal

abbrev pub invariant-loop-index : goal.invariant-loop-index
invariant-loop-index l =
    l.fields.items
    ++ by_class (class_fields (class_names l.classes)) l.index (trees_behind (drop l.index l.trees)) ≡
    fields_behind l.classes l.trees
