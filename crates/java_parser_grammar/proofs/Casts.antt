-- The choice between a cast and parentheses at the spelling of a formed expression.
use Rattle.std.proofs.Common.{◌≡◌, zero, suc, ◌≤◌, Bool, true, false, List, [], ◌∷◌, IsTrue, refl, codes}
use Rattle.std.proofs.lemmas.Bool.{false≢true}
use Rattle.java_tree.specs.declared.words.Spelled.{Spelled}
use Rattle.java_tree.specs.Words.{sign}
use Rattle.java_tree.specs.Trees.{Ty, Typed, Plain, Named, Expr}
use Rattle.java_tree.specs.Spelling.{ty_onto, between_sign, expr_onto}
use Rattle.java_tree.specs.FormedModifiers.{Each}
use Rattle.java_tree.specs.Formed.{FormedTy, FormedExpr, begins_signed, is_plain, are_plain}
use Rattle.java_parser_grammar.specs.Leads.{pull, behind, is_plain_cast, casts}
use Rattle.java_parser_grammar.proofs.GrammarFronts.{Front, front}
use Rattle.java_parser_grammar.proofs.Behind.{between_balanced, balanced}
use Rattle.java_parser_grammar.proofs.Taken.{no_operand}

-- parentheses around an expression
pub parens_no_cast : (a : Expr) → FormedExpr a → (rest : List Spelled) → pull rest ≤ 16
    → casts (expr_onto a (sign (codes ")") ∷ rest)) ≡ false
unfolding casts behind
parens_no_cast a f rest h =
    let closed : behind 0 (expr_onto a (sign (codes ")") ∷ rest)) ≡ rest = balanced a f 0 (sign (codes ")") ∷ rest) in
    let shut = no_operand rest h in
    let word = (front a f (sign (codes ")") ∷ rest)).not_cast in
    rw (closed, shut, word) refl

plain_cast : (t : Ty) (r : List Spelled) → FormedTy t → IsTrue (is_plain t) → is_plain_cast
    (ty_onto t (sign (codes ")") ∷ r)) ≡ true
plain_cast (Typed (Plain text) zero) r f h = rw f refl
plain_cast (Typed (Plain text) (suc m)) r f h = absurd cc
plain_cast (Typed (Named ps) m) r f h = absurd cc

casts_at : (ts rest : List Spelled) (signed : Bool) → behind 0 ts ≡ rest → Front signed rest → (IsTrue signed
    → is_plain_cast ts ≡ true) → casts ts ≡ true
unfolding casts
casts_at ts rest true e s h = rw (e, s.operand, h refl, s.signs) refl
casts_at ts rest false e s h = rw (e, s.operand) refl

plain_list : (ts : List Ty) (r : List Spelled) → Each FormedTy ts → IsTrue (are_plain ts) → is_plain_cast
    (between_sign (codes "&") ts (sign (codes ")") ∷ r)) ≡ true
plain_list [] r f h = absurd (false≢true h)
plain_list (t ∷ []) r f h = plain_cast t r f.0 h
plain_list (t ∷ u ∷ ts) r f h = absurd (false≢true h)

-- types in parentheses before an operand
pub signed_cast : (ts : List Ty) (a : Expr) → Each FormedTy ts → FormedExpr a → (IsTrue (begins_signed a)
    → IsTrue (are_plain ts)) → (rest : List Spelled) → casts (between_sign (codes "&") ts (sign (codes ")")
    ∷ expr_onto a rest)) ≡ true
unfolding behind
signed_cast ts a f g h rest =
    casts_at (between_sign (codes "&") ts (sign (codes ")") ∷ expr_onto a rest)) (expr_onto a rest) (begins_signed a)
    (between_balanced ts 0 (sign (codes ")") ∷ expr_onto a rest)) (front a g rest)
    (λ s. plain_list ts (expr_onto a rest) f (h s))
