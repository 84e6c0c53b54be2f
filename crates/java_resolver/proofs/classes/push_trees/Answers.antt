use Rattle.std.proofs.Common.{List, [], ◌∷◌, refl, ap, ◌∙◌, arith}
use Rattle.java_tree.specs.declared.unit.ClassTree.{ClassTree}
use Rattle.java_resolver.specs.Indexes.{trees_behind}
use Rattle.java_resolver.proofs.Loops.{behind-push}
use Rattle.racer_base.proofs.Lists.{at_end, one_turn}
use Rattle.java_resolver.proofs.classes.push_trees.Goals as goal

pub loop-class-preserved : goal.loop-class-preserved
loop-class-preserved c =
    let trees = c.loop-class.trees.items in
    one_turn (λ (classes : List ClassTree). classes) (λ (class : ClassTree). class ∷ []) c.args.classes.now
    c.loop-class.class-index c.class-item.result (trees_behind trees) (trees_behind c.push.new.self.items)
    (λ x xs. refl) c.loop-class-test.true c.class-item.is
    (ap trees_behind c.in_ok-push.ensures.items ∙ behind-push trees _)
    ∙ c.loop-class.invariant

pub returns : goal.returns
returns c =
    at_end (λ (classes : List ClassTree). classes) c.args.classes.now c.loop-class.class-index
    (trees_behind c.loop-class.trees.items) refl (omega (arith, c.loop-class-test.false))
    ∙ c.loop-class.invariant
