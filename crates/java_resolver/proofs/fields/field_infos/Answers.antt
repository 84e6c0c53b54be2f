use Rattle.std.proofs.Common.{List, ◌++◌, ap, ◌∙◌}
use Rattle.std.specs.List.{flat_map}
use Rattle.java_tree.specs.declared.unit.Member.{Member}
use Rattle.java_resolver.specs.Declarations.{class_names, class_fields, member_fields}
use Rattle.java_resolver.proofs.ByClass.{by_class-next}
use Rattle.java_resolver.proofs.fields.field_infos.Goals as goal

pub loop-index-preserved : goal.loop-index-preserved
loop-index-preserved c =
    let names = class_names c.args.classes.now in
    let number = c.in_ok-number_of.field-0 in
    let fields = c.loop-index.fields.items in
    by_class-next (class_fields names) c.args.trees.now c.loop-index.index number c.index-trees-index.result fields
    c.push_class_fields.new.fields.items c.loop-index-test.true c.index-trees-index.is c.in_ok-number_of.ensures
    (c.in_ok-push_class_fields.ensures
    ∙ ap (λ (members : List Member). fields ++ flat_map (member_fields names (record { 0 = number })) members)
    c.as_slice.ensures)
    ∙ c.loop-index.invariant
