-- What classes behind references declare is what the units declare that they stand in.
use Rattle.std.proofs.Common.{◌≡◌, List, None, map, ap, ◌∙◌}
use Rattle.std.specs.Prelude.{Option}
use Rattle.std.specs.Option.{option_or}
use Rattle.std.specs.Borrow.{Bor}
use Rattle.java_tree.specs.declared.unit.ClassTree.{ClassTree}
use Rattle.java_tree.specs.declared.unit.Unit.{Unit}
use Rattle.java_resolver.specs.declared.infos.ClassInfo.{ClassInfo}
use Rattle.java_resolver.specs.declared.fault.ResolveFault.{ResolveFault}
use Rattle.java_resolver.specs.Declarations.{class_info, class_names, class_fields, class_methods, by_class, names_of}
use Rattle.java_resolver.specs.Declarations.{trees_of, classes_of, fields_of, methods_of}
use Rattle.java_resolver.specs.Indexes.{trees_behind, fields_behind, methods_behind}

pub classes-there : (trees : List (Bor ClassTree)) (units : List Unit) (classes : List ClassInfo) →
    trees_behind trees ≡ trees_of units → classes ≡ map class_info (trees_behind trees) → classes ≡ classes_of units
classes-there trees units classes same is = is ∙ ap (map class_info) same

pub fields-there : (trees : List (Bor ClassTree)) (units : List Unit) (classes : List ClassInfo) →
    trees_behind trees ≡ trees_of units → classes ≡ classes_of units → fields_behind classes trees ≡ fields_of units
fields-there trees units classes same is =
    ap (λ (cs : List ClassInfo). by_class (class_fields (class_names cs)) 0 (trees_behind trees)) is
    ∙ ap (by_class (class_fields (names_of units)) 0) same

pub methods-there : (trees : List (Bor ClassTree)) (units : List Unit) (classes : List ClassInfo) →
    trees_behind trees ≡ trees_of units → classes ≡ classes_of units → methods_behind classes trees ≡ methods_of units
methods-there trees units classes same is =
    ap (λ (cs : List ClassInfo). by_class (class_methods (class_names cs)) 0 (trees_behind trees)) is
    ∙ ap (by_class (class_methods (names_of units)) 0) same

pub none-there : (first second third : Option ResolveFault) → first ≡ None → second ≡ None → third ≡ None →
    option_or first (option_or second third) ≡ None
none-there first second third a b c =
    ap (λ o. option_or o (option_or second third)) a ∙ ap (λ o. option_or o third) b ∙ c
