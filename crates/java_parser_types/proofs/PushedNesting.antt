-- The nesting of trees with one more at the end.
use Rattle.std.proofs.Common.{◌≡◌, ◌++◌, ◌∷◌, [], List, max, arith}
use Rattle.std.proofs.Common.{ℕ}
use Rattle.java_tree.specs.Trees.{Part, Argument, Expr, Init, pack_parts, pack_arguments, pack_exprs, pack_inits}
use Rattle.java_tree.specs.Nesting.{most_over}
use Rattle.java_tree.specs.Nesting.{part_nesting, parts_nesting, argument_nesting, arguments_nesting, expr_nesting}
use Rattle.java_tree.specs.Nesting.{exprs_nesting, init_nesting, inits_nesting}

pub parts_nesting_push : (ps : List Part) (p : Part) → parts_nesting (pack_parts (ps ++ p ∷ [])) ≡ max
    (parts_nesting (pack_parts ps)) (part_nesting p)
parts_nesting_push [] p = omega arith
parts_nesting_push (q ∷ ps) p = omega (arith, parts_nesting_push ps p)

pub arguments_nesting_push : (ps : List Argument) (p : Argument)
    → arguments_nesting (pack_arguments (ps ++ p ∷ [])) ≡ max (arguments_nesting (pack_arguments ps))
    (argument_nesting p)
arguments_nesting_push [] p = omega arith
arguments_nesting_push (q ∷ ps) p = omega (arith, arguments_nesting_push ps p)

pub exprs_nesting_push : (ps : List Expr) (p : Expr) → exprs_nesting (pack_exprs (ps ++ p ∷ [])) ≡ max
    (exprs_nesting (pack_exprs ps)) (expr_nesting p)
exprs_nesting_push [] p = omega arith
exprs_nesting_push (q ∷ ps) p = omega (arith, exprs_nesting_push ps p)

pub inits_nesting_push : (ps : List Init) (p : Init) → inits_nesting (pack_inits (ps ++ p ∷ [])) ≡ max
    (inits_nesting (pack_inits ps)) (init_nesting p)
inits_nesting_push [] p = omega arith
inits_nesting_push (q ∷ ps) p = omega (arith, inits_nesting_push ps p)

pub most_over_push : {A : Type 0} (nesting : A → ℕ) (xs : List A) (x : A) → most_over nesting (xs ++ x ∷ []) ≡ max
    (most_over nesting xs) (nesting x)
most_over_push nesting [] x = omega arith
most_over_push nesting (y ∷ ys) x = omega (arith, most_over_push nesting ys x)
