-- Lists that are parallel to the fields of units.
use Rattle.std.proofs.Common.{◌≡◌, ℕ, suc, List, [], ◌∷◌, ◌++◌, map, refl, ap, ◌∙◌}
use Rattle.std.specs.List.{flat_map}
use Rattle.racer_base.specs.declared.ids.ClassId.{ClassId}
use Rattle.java_tree.specs.declared.unit.Unit.{Unit}
use Rattle.java_tree.specs.declared.unit.ClassTree.{ClassTree}
use Rattle.java_tree.specs.declared.unit.Member.{Member}
use Rattle.java_tree.specs.declared.unit.Member.TheVariants as member
use Rattle.java_resolver.specs.declared.infos.FieldInfo.{FieldInfo}
use Rattle.java_resolver.specs.Declarations.{by_class, class_fields, field_info, fields_of, member_fields, names_of}
use Rattle.java_resolver.specs.Declarations.{trees_of}
use Rattle.core_lowering_rules.specs.ByField.{by_field, by_variable, class_by_field}

-- ---- the fields themselves

module _ (names : List (List ℕ)) where
  members-same : (c : ClassId) (members : List Member) →
      flat_map (member_fields names c) members ≡ flat_map (by_variable (field_info names) c) members
  members-same c [] = refl
  members-same c (member.Field f ∷ members) =
      ap (λ (rest : List FieldInfo). map (field_info names c f) f.variables ++ rest) (members-same c members)
  members-same c (member.Method m ∷ members) = members-same c members
  members-same c (member.Outside h ∷ members) = members-same c members
  members-same c (member.Skipped place ∷ members) = members-same c members

  classes-same : (n : ℕ) (trees : List ClassTree) →
      by_class (class_fields names) n trees ≡ by_class (class_by_field (field_info names)) n trees
  classes-same n [] = refl
  classes-same n (tree ∷ trees) =
      ap (λ (fields : List FieldInfo). fields ++ by_class (class_fields names) (suc n) trees)
      (members-same (record { 0 = n }) tree.members)
      ∙ ap (λ (rest : List FieldInfo). class_by_field (field_info names) (record { 0 = n }) tree ++ rest)
      (classes-same (suc n) trees)

pub fields-by_field : (units : List Unit) → fields_of units ≡ by_field (field_info (names_of units)) units
fields-by_field units = classes-same (names_of units) 0 (trees_of units)
