-- What each class has, gathered class by class.
use Rattle.std.proofs.Common.{◌≡◌, ℕ, suc, ◌+◌, ◌<◌, List, ◌∷◌, ◌++◌, length, get_or, drop, sym, ap, ◌∙◌, arith}
use Rattle.std.proofs.lemmas.List.{at_drop_more, append_assoc}
use Rattle.std.specs.Borrow.{Bor}
use Rattle.racer_base.specs.declared.ids.ClassId.{ClassId}
use Rattle.java_tree.specs.declared.unit.ClassTree.{ClassTree}
use Rattle.java_resolver.specs.Declarations.{by_class}
use Rattle.java_resolver.specs.Indexes.{trees_behind}

pub by_class-next : {A : Type 0} (f : ClassId → ClassTree → List A) (trees : List (Bor ClassTree)) (i number : ℕ)
    (tree : Bor ClassTree) (made more : List A) → i < length trees → tree ≡ get_or trees i tree → number ≡ i →
    more ≡ made ++ f (record { 0 = number }) tree.now →
    more ++ by_class f (i + 1) (trees_behind (drop (i + 1) trees)) ≡
    made ++ by_class f i (trees_behind (drop i trees))
by_class-next {A} f trees i number tree made more within is here gives =
    let rest = trees_behind (drop (i + 1) trees) in
    let after : List A = by_class f (i + 1) rest in
    let next : i + 1 ≡ suc i = omega arith in
    ap (λ (xs : List A). xs ++ after) gives
    ∙ append_assoc made (f (record { 0 = number }) tree.now) after
    ∙ ap (λ (n : ℕ). made ++ (f (record { 0 = n }) tree.now ++ after)) here
    ∙ ap (λ (n : ℕ). made ++ (f (record { 0 = i }) tree.now ++ by_class f n rest)) next
    ∙ ap (λ (t : Bor ClassTree). made ++ by_class f i (trees_behind (t ∷ drop (i + 1) trees))) is
    ∙ sym (at_drop_more (λ ts. made ++ by_class f i (trees_behind ts)) trees i tree within)
