-- Where another `(` is the first parenthesis behind a `(`, what is read there tells whether a lambda begins.
use Rattle.std.proofs.Common.{◌≡◌, ◌∙◌, ℕ, Bool, true, false, ◌&&◌, cond, List, [], ◌∷◌, Option, Some, None, refl, sym}
use Rattle.std.proofs.Common.{ap, subst, codes}
use Rattle.std.specs.Prelude.{is_none}
use Rattle.java_tree.specs.declared.words.Spelled.{Spelled}
use Rattle.java_tree.specs.Brackets.{is_sign}
use Rattle.java_tree.specs.Trees.{Expr}
use Rattle.java_tree.specs.Words.{sign}
use Rattle.java_parser_grammar.specs.ExpressionReading.{read_at, operand_with, array_at, parens_with}
use Rattle.java_parser_grammar.specs.Leads.{behind, begins_lambda, begins_with, opens_operand}
use Rattle.java_parser_grammar.specs.Taking.{◌>>=◌}
use Rattle.java_parser_grammar.specs.TypeReading.{made_base_at}
use Rattle.java_parser_grammar.proofs.Taken.{sign_is}
use Rattle.java_parser_lookahead.specs.FirstParenthesis.{behind_first, nests}
use Rattle.java_parser_expressions.specs.Closings.{lone_parens_with}
use Rattle.java_parser_expressions.proofs.CastChoice.{parens_close, parens_alone}

both : (b : Bool) (o : Option (List Spelled)) → (b && is_none o) ≡ true → (b ≡ true) × (o ≡ None)
both true None h = (refl, refl)
both true (Some r) h = absurd cc
both false o h = absurd cc

last : (y x : Expr × List Spelled) (b : Bool) → cond b None (Some y) ≡ Some x → y.1 ≡ x.1
last y x true h = absurd cc
last y x false h = let same : y ≡ x = cc in ap (λ (z : Expr × List Spelled). z.1) same

lone_closes : (n : ℕ) (ts : List Spelled) (x : Expr × List Spelled) → lone_parens_with (read_at n) ts ≡ Some x
    → behind 0 ts ≡ x.1
lone_closes n ts x e = by_parens (parens_with (read_at n) ts) refl e where
  by_parens : (o : Option (Expr × List Spelled)) → parens_with (read_at n) ts ≡ o
      → (o >>= λ y. cond (opens_operand y.1) None (Some y)) ≡ Some x → behind 0 ts ≡ x.1
  by_parens None d h = absurd cc
  by_parens (Some y) d h = parens_close n ts y d ∙ last y x (opens_operand y.1) h

at_sign : (n : ℕ) (ts : List Spelled) (x : Expr × List Spelled) → behind_first ts ≡ None
    → operand_with (read_at n) n (made_base_at n) (array_at n) (sign (codes "(") ∷ ts) ≡ Some x
    → begins_lambda (sign (codes "(") ∷ ts) ≡ begins_with (codes "->") x.1
unfolding operand_with begins_lambda
at_sign n ts x none e =
    let lone = sym (parens_alone n (codes "(") ts refl refl none) ∙ e in
    ap (begins_with (codes "->")) (lone_closes n ts x lone)

pub read_begins : (n : ℕ) (ts : List Spelled) (x : Expr × List Spelled) → nests ts ≡ true
    → operand_with (read_at n) n (made_base_at n) (array_at n) ts ≡ Some x
    → begins_lambda ts ≡ begins_with (codes "->") x.1
read_begins n [] x h e = absurd cc
read_begins n (t ∷ ts) x h e =
    let opens = both (is_sign (codes "(") t) (behind_first ts) h in
    subst (λ (u : Spelled). operand_with (read_at n) n (made_base_at n) (array_at n) (u ∷ ts) ≡ Some x
    → begins_lambda (u ∷ ts) ≡ begins_with (codes "->") x.1) (sym (sign_is (codes "(") t opens.0))
    (at_sign n ts x opens.1) e
