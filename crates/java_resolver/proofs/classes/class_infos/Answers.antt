use Rattle.std.proofs.Common.{◌≡◌, List, [], ◌∷◌, ◌++◌, map, refl, ap, ◌∙◌, arith}
use Rattle.std.specs.Borrow.{Bor}
use Rattle.java_tree.specs.declared.unit.ClassTree.{ClassTree}
use Rattle.java_resolver.specs.declared.infos.ClassInfo.{ClassInfo}
use Rattle.java_resolver.specs.Declarations.{class_info}
use Rattle.java_resolver.specs.Indexes.{trees_behind}
use Rattle.racer_base.proofs.Lists.{at_end, one_turn}
use Rattle.java_resolver.proofs.classes.class_infos.Goals as goal

abbrev infos_of : List (Bor ClassTree) → List ClassInfo
infos_of trees = map class_info (trees_behind trees)

pub loop-tree-preserved : goal.loop-tree-preserved
loop-tree-preserved c =
    let classes = c.loop-tree.classes.items in
    let grown : c.push.new.self.items ≡ classes ++ class_info c.tree-item.result.now ∷ [] =
    c.in_ok-push.ensures.items ∙ ap (λ (info : ClassInfo). classes ++ info ∷ []) c.in_ok-class_info.ensures in
    one_turn infos_of (λ (t : Bor ClassTree). class_info t.now ∷ []) c.args.trees.now c.loop-tree.tree-index
    c.tree-item.result classes c.push.new.self.items (λ t ts. refl) c.loop-tree-test.true c.tree-item.is grown
    ∙ c.loop-tree.invariant

pub returns : goal.returns
returns c =
    at_end infos_of c.args.trees.now c.loop-tree.tree-index c.loop-tree.classes.items refl
    (omega (arith, c.loop-tree-test.false))
    ∙ c.loop-tree.invariant
