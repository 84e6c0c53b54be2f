use Rattle.std.proofs.Common.{◌≡◌, List, map, length, sym, ap, ◌∙◌}
use Rattle.java_tree.specs.declared.unit.ClassTree.{ClassTree}
use Rattle.java_resolver.specs.declared.infos.ClassInfo.{ClassInfo}
use Rattle.java_resolver.specs.declared.infos.MethodInfo.{MethodInfo}
use Rattle.java_resolver.specs.Declarations.{class_info, trees_of, classes_of, fields_of, methods_of}
use Rattle.java_resolver.specs.Indexes.{trees_behind}
use Rattle.java_resolver.specs.Refusals.{duplicate_class, duplicate_field, too_many}
use Rattle.java_resolver.proofs.Behind.{classes-there, fields-there, methods-there, none-there}
use Rattle.java_resolver.proofs.table.resolve.Goals as goal

pub returns-clause-classes : goal.returns-clause-classes
returns-clause-classes c =
    let trees = c.as_slice-trees.result.now in
    let same : trees_behind trees ≡ trees_of c.args.units.now =
    ap trees_behind c.as_slice-trees.ensures.value ∙ c.in_ok-gathered.ensures in
    classes-there trees c.args.units.now c.in_ok-classes.classes same c.in_ok-classes.ensures.list

pub returns-clause-fields : goal.returns-clause-fields
returns-clause-fields c =
    let trees = c.as_slice-trees.result.now in
    let same : trees_behind trees ≡ trees_of c.args.units.now =
    ap trees_behind c.as_slice-trees.ensures.value ∙ c.in_ok-gathered.ensures in
    c.in_ok-fields.ensures.list
    ∙ fields-there trees c.args.units.now c.in_ok-classes.classes same
    (classes-there trees c.args.units.now c.in_ok-classes.classes same c.in_ok-classes.ensures.list)

pub returns-clause-methods : goal.returns-clause-methods
returns-clause-methods c =
    let trees = c.as_slice-trees.result.now in
    let same : trees_behind trees ≡ trees_of c.args.units.now =
    ap trees_behind c.as_slice-trees.ensures.value ∙ c.in_ok-gathered.ensures in
    c.in_ok-methods.ensures.list
    ∙ methods-there trees c.args.units.now c.in_ok-classes.classes same
    (classes-there trees c.args.units.now c.in_ok-classes.classes same c.in_ok-classes.ensures.list)

pub returns-clause-ok : goal.returns-clause-ok
returns-clause-ok c =
    let units = c.args.units.now in
    let trees = c.as_slice-trees.result.now in
    let classes : List ClassInfo = c.in_ok-classes.classes in
    let same : trees_behind trees ≡ trees_of units =
    ap trees_behind c.as_slice-trees.ensures.value ∙ c.in_ok-gathered.ensures in
    let all = classes-there trees units classes same c.in_ok-classes.ensures.list in
    none-there (duplicate_class (classes_of units)) (duplicate_field (fields_of units))
    (too_many (length (classes_of units)) (length (methods_of units)))
    (ap (λ (cs : List ClassTree). duplicate_class (map class_info cs)) (sym same) ∙ c.in_ok-classes.ensures.ok)
    (ap duplicate_field (sym (fields-there trees units classes same all)) ∙ c.in_ok-fields.ensures.ok)
    (ap (λ (cs : List ClassInfo). too_many (length cs) (length (methods_of units))) (sym all)
    ∙ ap (λ (ms : List MethodInfo). too_many (length classes) (length ms))
    (sym (methods-there trees units classes same all))
    ∙ c.in_ok-methods.ensures.ok)
