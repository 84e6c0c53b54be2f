-- The parts of code that are left.
use Rattle.std.proofs.Common.{◌≡◌, ℕ, ◌+◌, ◌<◌, get_or, List, map, drop, length, sym, ap, ◌∙◌}
use Rattle.std.proofs.lemmas.List.{at_drop_more}
use Rattle.core_code.specs.declared.code.Code.{Code}
use Rattle.core_code.specs.Tree.{Seq, tree_of, in_sequence}

-- the parts from one on are that one and the others
pub parts-turn : (parts : List Code) (i : ℕ) (part : Code) → i < length parts → part ≡ get_or parts i part →
    in_sequence (map tree_of (drop i parts)) ≡ Seq (tree_of part) (in_sequence (map tree_of (drop (i + 1) parts)))
parts-turn parts i part within is =
    at_drop_more (λ ps. in_sequence (map tree_of ps)) parts i part within
    ∙ ap (λ (p : Code). Seq (tree_of p) (in_sequence (map tree_of (drop (i + 1) parts)))) (sym is)
