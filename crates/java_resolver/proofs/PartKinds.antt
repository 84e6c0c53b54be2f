-- A type of more than one name.
use Rattle.std.proofs.Common.{◌≡◌, ℕ, ◌≤◌, List, [], ◌∷◌, length, map, refl, arith}
use Rattle.racer_base.specs.declared.ids.Kind.TheVariants.{Other}
use Rattle.java_tree.specs.declared.types.TypePart.{TypePart}
use Rattle.java_tree.specs.Trees.{Part, Parts, Bare, Generic, Named, part_then, pack_parts}
use Rattle.java_tree.specs.View.{part_of}
use Rattle.java_resolver.specs.TypeKinds.{base_kind}

two_parts : (hidden classes : List (List ℕ)) (p q : Part) (rest : Parts) →
    Other ≡ base_kind hidden classes (Named (part_then p (part_then q rest)))
two_parts hidden classes (Bare name) q rest = refl
two_parts hidden classes (Generic name arguments) q rest = refl

pub many_parts : (hidden classes : List (List ℕ)) (parts : List TypePart) → 2 ≤ length parts →
    Other ≡ base_kind hidden classes (Named (pack_parts (map part_of parts)))
many_parts hidden classes [] many = absurd (omega arith)
many_parts hidden classes (p ∷ []) many = absurd (omega arith)
many_parts hidden classes (p ∷ q ∷ rest) many =
    two_parts hidden classes (part_of p) (part_of q) (pack_parts (map part_of rest))
