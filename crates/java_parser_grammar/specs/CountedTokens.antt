-- A contract of a public call rests on this: the tree of a method keeps how many tokens its spelling has.
use Rattle.std.specs.Prelude.{◌≡◌, length}
use Rattle.java_tree.specs.FormedModifiers.{Each}
use Rattle.java_tree.specs.Spelling.{spelling}
use Rattle.java_tree.specs.View.{method_of}
use Rattle.java_tree.specs.declared.unit.Member.{Member}
use Rattle.java_tree.specs.declared.unit.Member.TheVariants.{Method, Outside, Field, Skipped}
use Rattle.java_tree.specs.declared.unit.Unit as unit

abbrev pub IsCounted : Member → Type 0
IsCounted (Method tree) = tree.tokens ≡ length (spelling (method_of tree))
IsCounted (Outside head) = Unit {0}
IsCounted (Field f) = Unit {0}
IsCounted (Skipped place) = Unit {0}

abbrev pub AreCounted : unit.Unit → Type 0
AreCounted u = Each (λ c. Each IsCounted c.members) u.classes
