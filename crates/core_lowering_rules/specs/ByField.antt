-- A contract of a public call rests on this: lists that are parallel to the fields of units.
use Rattle.std.specs.Prelude.{List, [], map}
use Rattle.std.specs.List.{flat_map}
use Rattle.racer_base.specs.declared.ids.ClassId.{ClassId}
use Rattle.java_tree.specs.declared.methods.FieldTree.{FieldTree}
use Rattle.java_tree.specs.declared.methods.FieldVariable.{FieldVariable}
use Rattle.java_tree.specs.declared.unit.Unit.{Unit}
use Rattle.java_tree.specs.declared.unit.ClassTree.{ClassTree}
use Rattle.java_tree.specs.declared.unit.Member.{Member}
use Rattle.java_tree.specs.declared.unit.Member.TheVariants as member
use Rattle.java_resolver.specs.Declarations.{by_class, trees_of}

-- what each variable of a declaration of fields has, given its class's number and the declaration
abbrev pub by_variable : {A : Type 0} → (ClassId → FieldTree → FieldVariable → A) → ClassId → Member → List A
by_variable f c (member.Field declaration) = map (f c declaration) declaration.variables
by_variable f c _ = []

abbrev pub class_by_field : {A : Type 0} → (ClassId → FieldTree → FieldVariable → A) → ClassId → ClassTree → List A
class_by_field f c tree = flat_map (by_variable f c) tree.members

-- what each field has, in source order
abbrev pub by_field : {A : Type 0} → (ClassId → FieldTree → FieldVariable → A) → List Unit → List A
by_field f units = by_class (class_by_field f) 0 (trees_of units)
