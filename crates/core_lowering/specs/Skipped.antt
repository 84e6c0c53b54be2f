-- No public contract rests on this: the members of a class that are not read.
use Rattle.std.specs.Prelude.{List}
use Rattle.std.specs.List.{flat_map}
use Rattle.racer_base.specs.declared.ids.Place.{Place}
use Rattle.java_tree.specs.declared.unit.ClassTree.{ClassTree}
use Rattle.core_lowering_rules.specs.Programs.{skipped_member}

abbrev pub skipped_class : ClassTree → List Place
skipped_class c = flat_map skipped_member c.members
