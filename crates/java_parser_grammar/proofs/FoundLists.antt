-- Lists with commas between their elements are read, where each element is.
use Rattle.std.proofs.Common.{IsTrue}
use Rattle.std.proofs.Common.{◌≡◌, ℕ, zero, suc, ◌+◌, ◌≤◌, List, [], ◌∷◌, length, Some, None, codes, refl, arith}
use Rattle.java_tree.specs.declared.words.Spelled.{Spelled}
use Rattle.java_tree.specs.Words.{sign}
use Rattle.java_tree.specs.Trees.{Expr, Exprs, no_expr, expr_then, pack_exprs}
use Rattle.java_tree.specs.Spelling.{behind_commas, commas_onto, expr_onto, exprs_onto, more_exprs_onto}
use Rattle.java_tree.specs.FormedModifiers.{Each, has_some}
use Rattle.java_parser_grammar.specs.BalancedReading.{Reading}
use Rattle.java_parser_grammar.specs.Taking.{after_sign, commas}
use Rattle.java_parser_grammar.specs.StatementReading.{comma_list}

-- the element is read before each rest that ends it
pub record IsRead {A : Type 0} (onto : A → List Spelled → List Spelled) (read : Reading A) (Ends : List Spelled
    → Type 0) (x : A) : Type 0 where
  pub found : (r : List Spelled) → Ends r → read (onto x r) ≡ Some (x, r)
  pub longer : (r : List Spelled) → length r ≤ length (onto x r)
  -- behind a comma it ends the element before
  pub behind : (r : List Spelled) → Ends r → Ends (sign (codes ",") ∷ onto x r)

-- what ends a list and each of its elements
pub record EndsList (Ends : List Spelled → Type 0) (rest : List Spelled) : Type 0 where
  pub here : Ends rest
  pub no_comma : after_sign (codes ",") rest ≡ None

module _ {A : Type 0} (onto : A → List Spelled → List Spelled) (read : Reading A) (Ends : List Spelled → Type 0) where
  others_end : (xs : List A) (rest : List Spelled) → Each (IsRead onto read Ends) xs → EndsList Ends rest
      → Ends (behind_commas onto xs rest)
  others_end [] rest each e = e.here
  others_end (x ∷ xs) rest each e = each.0.behind (behind_commas onto xs rest) (others_end xs rest each.1 e)

  others_fit : (xs : List A) (rest : List Spelled) → Each (IsRead onto read Ends) xs → length xs + length
      rest ≤ length (behind_commas onto xs rest)
  others_fit [] rest each = omega arith
  others_fit (x ∷ xs) rest each = omega (arith, others_fit xs rest each.1, each.0.longer (behind_commas onto xs rest))

  commas_found : (xs : List A) (m : ℕ) (rest : List Spelled) → Each (IsRead onto read Ends) xs → EndsList Ends rest
      → length xs ≤ m → commas read m (behind_commas onto xs rest) ≡ Some (xs, rest)
  unfolding commas
  commas_found [] zero rest each e room = refl
  commas_found [] (suc m) rest each e room = rw e.no_comma refl
  commas_found (x ∷ xs) zero rest each e room = absurd (omega arith)
  commas_found (x ∷ xs) (suc m) rest each e room =
      let found = each.0.found (behind_commas onto xs rest) (others_end xs rest each.1 e) in
      rw (found, commas_found xs m rest each.1 e (omega arith)) refl

  pub list_found : (xs : List A) (rest : List Spelled) → IsTrue (has_some xs) → Each (IsRead onto read Ends) xs
      → EndsList Ends rest → comma_list read (commas_onto onto xs rest) ≡ Some (xs, rest)
  list_found [] rest some each e = absurd cc
  list_found (x ∷ xs) rest some each e =
      let others = behind_commas onto xs rest in
      let room : length xs ≤ length others = omega (arith, others_fit xs rest each.1) in
      rw (each.0.found others (others_end xs rest each.1 e), commas_found xs (length others) rest each.1 e room) refl

-- ---- expressions

unfoldable pub unpack_exprs : Exprs → List Expr
unpack_exprs no_expr = []
unpack_exprs (expr_then e es) = e ∷ unpack_exprs es

pub pack-unpack_exprs : (es : Exprs) → pack_exprs (unpack_exprs es) ≡ es
unfolding unpack_exprs
pack-unpack_exprs no_expr = refl
pack-unpack_exprs (expr_then e es) = rw (pack-unpack_exprs es) refl

more_exprs_listed : (es : Exprs) (rest : List Spelled) → more_exprs_onto es rest ≡ behind_commas expr_onto
    (unpack_exprs es) rest
unfolding unpack_exprs
more_exprs_listed no_expr rest = refl
more_exprs_listed (expr_then e es) rest = rw (more_exprs_listed es rest) refl

pub exprs_listed : (e : Expr) (es : Exprs) (rest : List Spelled) → exprs_onto (expr_then e es) rest ≡ commas_onto
    expr_onto (unpack_exprs (expr_then e es)) rest
unfolding unpack_exprs
exprs_listed e es rest = rw (more_exprs_listed es rest) refl
