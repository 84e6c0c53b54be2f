-- The first token of a formed expression.
use Rattle.std.proofs.Common.{◌≡◌, ℕ, Bool, true, false, not, ◌&&◌, ◌||◌, List, [], ◌∷◌, IsTrue, refl, sym, subst}
use Rattle.std.proofs.Common.{codes}
use Rattle.std.specs.Prelude.{bytes_eq}
use Rattle.std.specs.Cmp.Lexicographic.{bytes_decides}
use Rattle.java_lexer.specs.declared.token.TokenKind.{TokenKind}
use Rattle.std.proofs.lemmas.Bool.{false≢true}
use Rattle.java_lexer.specs.declared.token.TokenKind.TheVariants as kind
use Rattle.java_tree.specs.declared.words.Spelled.{Spelled}
use Rattle.java_tree.specs.Trees.{Expr, Assign, Conditional, Binary, InstanceOf, Postfix, Literal, Field, Index}
use Rattle.java_tree.specs.Trees.{CallOn, ClassOf, Lambda, BlockLambda, Reference, TypeReference, PlainClass, ThisOf}
use Rattle.java_tree.specs.Trees.{Typed, Plain, Named, no_part, part_then, Bare, Generic}
use Rattle.java_tree.specs.Brackets.{are_lambda_parameters, is_name_kind, is_sign_kind, has_none, closes}
use Rattle.java_tree.specs.Operators.{is_signed}
use Rattle.java_tree.specs.Spelling.{expr_onto, tokens_onto}
use Rattle.java_tree.specs.Formed.{FormedExpr, begins_signed}
use Rattle.java_tree.specs.Examples.{opens_signed}

-- a name or a `(` stands in front of a lambda
parameters_front : (ps : List Spelled) (rest : List Spelled) → IsTrue (are_lambda_parameters ps) → opens_signed
    (tokens_onto ps rest) ≡ false
parameters_front [] rest f = absurd (false≢true f)
parameters_front (t ∷ ts) rest f = by_parts t.kind t.text t.glued (has_none ts) (closes (codes ")" ∷ []) ts) f where
  by_test : (u : List ℕ) (b more : Bool) → bytes_eq u (codes "(") ≡ b → (b && more) ≡ true → is_signed u ≡ false
  by_test u true more is e = subst (λ v. is_signed v ≡ false) (sym ((bytes_decides u (codes "(")).0 is)) refl
  by_test u false more is e = absurd (false≢true e)

  by_parts : (k : TokenKind) (u : List ℕ) (g none more : Bool) → (((is_name_kind k && not g) && none)
      || ((is_sign_kind k && (not g && bytes_eq u (codes "("))) && more)) ≡ true → (is_sign_kind k && is_signed u)
      ≡ false
  by_parts kind.Sign u false none more e = by_test u (bytes_eq u (codes "(")) more refl e
  by_parts kind.Sign u true none more e = absurd (false≢true e)
  by_parts _ u g none more e = refl

pub signed_front : (e : Expr) (rest : List Spelled) → FormedExpr e → opens_signed (expr_onto e rest) ≡ begins_signed e
signed_front (Assign a op b) rest f = signed_front a _ f.0
signed_front (Conditional a b c) rest f = signed_front a _ f.0
signed_front (Binary a op b) rest f = signed_front a _ f.0
signed_front (InstanceOf a t) rest f = signed_front a _ f.0
signed_front (Postfix a op) rest f = signed_front a _ f.0
signed_front (Field a x) rest f = signed_front a _ f.0
signed_front (Index a i) rest f = signed_front a _ f.0
signed_front (CallOn a types x all) rest f = signed_front a _ f.0
signed_front (Reference a types x) rest f = signed_front a _ f.0
signed_front (TypeReference (Typed (Plain text) n) types x) rest f = refl
signed_front (TypeReference (Typed (Named no_part) n) types x) rest f = absurd (false≢true f.0.1)
signed_front (TypeReference (Typed (Named (part_then (Bare y) ps)) n) types x) rest f = refl
signed_front (TypeReference (Typed (Named (part_then (Generic y a) ps)) n) types x) rest f = refl
signed_front (PlainClass (Typed (Plain text) n)) rest f = refl
signed_front (PlainClass (Typed (Named no_part) n)) rest f = absurd (false≢true f.1)
signed_front (PlainClass (Typed (Named (part_then (Bare y) ps)) n)) rest f = refl
signed_front (PlainClass (Typed (Named (part_then (Generic y a) ps)) n)) rest f = absurd (false≢true f.0)
signed_front (Lambda ps a) rest f = parameters_front ps _ f.0
signed_front (BlockLambda ps block) rest f = parameters_front ps _ f.0
signed_front (ThisOf []) rest f = absurd (false≢true f)
signed_front (Literal kind.Name text) rest f = absurd (false≢true f)
signed_front (Literal kind.Keyword text) rest f = absurd (false≢true f)
signed_front (Literal kind.Sign text) rest f = absurd (false≢true f)
signed_front (ClassOf []) rest f = absurd (false≢true f)
signed_front _ rest f = refl
