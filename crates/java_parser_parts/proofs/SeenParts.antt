-- What is seen of the clauses of a `try`.
use Rattle.std.proofs.Common.{◌≡◌, ◌≤◌, true, List, [], ◌∷◌, length, map, refl, arith}
use Rattle.java_tree.specs.declared.statements.CatchTree.{CatchTree}
use Rattle.java_tree.specs.View.{catch_of, pack_rows}
use Rattle.java_parser_parts.specs.Parts.{has_row}

pub some_clause : (xs : List CatchTree) → 1 ≤ length xs → true ≡ has_row (pack_rows (map catch_of xs))
some_clause [] le = absurd (omega arith)
some_clause (x ∷ xs) le = refl
