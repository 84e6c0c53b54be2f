-- No public contract rests on this: what methods are made of, apart from what is known of them.
use Rattle.std.specs.Prelude.{List, [], ◌∷◌, ◌++◌, if◌then◌else◌}
use Rattle.std.specs.List.{flat_map, list_any}
use Rattle.java_tree.specs.declared.unit.Unit.{Unit}
use Rattle.java_tree.specs.declared.unit.ClassTree.{ClassTree}
use Rattle.java_tree.specs.declared.unit.Member.{Member}
use Rattle.java_tree.specs.declared.unit.Member.TheVariants as member
use Rattle.java_resolver.specs.declared.infos.MethodInfo.{MethodInfo}
use Rattle.java_resolver.specs.Declarations.{member_is_constructor}
use Rattle.core_lowering_rules.specs.Methods.{Body, Default, Spelled, Unspelled, Source}
use Rattle.core_lowering_context.specs.declared.sources.Body.{Body as CodeBody}
use Rattle.core_lowering_context.specs.Sources.{body_of}
use Rattle.core_lowering.specs.declared.sources.Part.{Part}

-- the members of the class of a method, and its body
pub record MethodPart : Type 0 where
  pub members : List Member
  pub body : Body

abbrev pub part : List Member → CodeBody → MethodPart
part members body = record { members = members; body = body_of body }

abbrev pub part_of : Part → MethodPart
part_of p = part p.members.now p.body

abbrev pub member_parts : List Member → Member → List MethodPart
member_parts members (member.Method m) = record { members = members; body = Spelled m } ∷ []
member_parts members (member.Outside h) = record { members = members; body = Unspelled } ∷ []
member_parts members (member.Field f) = []
member_parts members (member.Skipped place) = []

abbrev pub default_parts : List Member → List MethodPart
default_parts members =
    if list_any member_is_constructor members then [] else record { members = members; body = Default } ∷ []

abbrev pub class_parts : ClassTree → List MethodPart
class_parts c = default_parts c.members ++ flat_map (member_parts c.members) c.members

abbrev pub unit_parts : Unit → List MethodPart
unit_parts unit = flat_map class_parts unit.classes

abbrev pub parts_of : List Unit → List MethodPart
parts_of = flat_map unit_parts

-- with what is known of each
abbrev pub with_infos : List MethodPart → List MethodInfo → List Source
with_infos [] infos = []
with_infos (p ∷ ps) [] = []
with_infos (p ∷ ps) (info ∷ infos) =
    record { info = info; members = p.members; body = p.body } ∷ with_infos ps infos
