use Rattle.std.proofs.Common.{List, ◌++◌, refl, ap, ◌∙◌, arith}
use Rattle.java_tree.specs.declared.unit.ClassTree.{ClassTree}
use Rattle.java_tree.specs.declared.unit.Unit.{Unit}
use Rattle.java_resolver.specs.Declarations.{trees_of}
use Rattle.java_resolver.specs.Indexes.{trees_behind}
use Rattle.racer_base.proofs.Lists.{at_end, one_turn}
use Rattle.java_resolver.proofs.classes.class_trees.Goals as goal

pub loop-unit-preserved : goal.loop-unit-preserved
loop-unit-preserved c =
    let made = trees_behind c.loop-unit.trees.items in
    one_turn trees_of (λ (u : Unit). u.classes) c.args.units.now c.loop-unit.unit-index c.unit-item.result made
    (trees_behind c.push_trees.new.trees.items) (λ u us. refl) c.loop-unit-test.true c.unit-item.is
    (c.in_ok-push_trees.ensures ∙ ap (λ (classes : List ClassTree). made ++ classes) c.as_slice.ensures)
    ∙ c.loop-unit.invariant

pub returns : goal.returns
returns c =
    at_end trees_of c.args.units.now c.loop-unit.unit-index (trees_behind c.loop-unit.trees.items) refl
    (omega (arith, c.loop-unit-test.false))
    ∙ c.loop-unit.invariant
