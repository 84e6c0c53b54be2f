-- What the spelling of a formed expression begins with.
use Rattle.std.proofs.Common.{◌≡◌, ℕ, zero, suc, Bool, true, false, not, ◌||◌, List, [], ◌∷◌, ◌++◌, None, IsTrue, inl}
use Rattle.std.proofs.Common.{inr, refl, sym, ap, subst, codes}
use Rattle.std.proofs.lemmas.Bool.{false≢true, or_cases}
use Rattle.std.specs.Prelude.{bytes_eq}
use Rattle.std.specs.Cmp.Lexicographic.{bytes_decides}
use Rattle.java_lexer.specs.declared.token.TokenKind.TheVariants as kind
use Rattle.java_tree.specs.declared.words.Spelled.{Spelled}
use Rattle.java_tree.specs.Words.{sign}
use Rattle.java_tree.specs.Operators.{is_prefix, is_signed}
use Rattle.java_tree.specs.Trees.{Expr, Assign, Conditional, Binary, InstanceOf, Prefix, Postfix, Literal, Field}
use Rattle.java_tree.specs.Trees.{Index, CallOn, ClassOf, Lambda, BlockLambda, Reference, TypeReference, PlainClass}
use Rattle.java_tree.specs.Trees.{ThisOf, Typed, Plain, Named, no_part, part_then, Bare, Generic}
use Rattle.java_tree.specs.Words.{keyword, identifier}
use Rattle.java_tree.specs.Brackets.{are_lambda_parameters}
use Rattle.java_tree.specs.Spelling.{brackets_onto, tokens_onto, expr_onto}
use Rattle.java_tree.specs.Formed.{FormedExpr, begins_signed, is_plain_word}
use Rattle.java_parser_grammar.specs.Taking.{after_sign, after_glued}
use Rattle.java_parser_grammar.specs.Leads.{Opens, lead, is_opens, opens_operand, opens_signed, is_plain_cast}
use Rattle.java_parser_grammar.proofs.OperatorTexts.{listed_cases, prefix_cases}
use Rattle.java_parser_grammar.proofs.LambdaParameters.{lambda_cases}

-- what the first token of an expression is, and is not
pub record Front (signed : Bool) (ts : List Spelled) : Type 0 where
  pub operand : opens_operand ts ≡ not signed
  pub signs : opens_signed ts ≡ signed
  pub unglued : after_glued ts ≡ None
  pub not_cast : is_plain_cast ts ≡ false
  pub not_close : after_sign (codes ")") ts ≡ None
  pub not_bracket : after_sign (codes "]") ts ≡ None
  pub not_brace : after_sign (codes "{") ts ≡ None
  pub not_end : after_sign (codes "}") ts ≡ None

front_prefix : (op : List ℕ) (ts : List Spelled) → IsTrue (is_prefix op) → Front (is_signed op) (sign op ∷ ts)
unfolding lead
front_prefix op ts h =
    prefix_cases (λ op. Front (is_signed op) (sign op ∷ ts))
    (record {
      operand = refl;
      signs = refl;
      unglued = refl;
      not_cast = refl;
      not_close = refl;
      not_bracket = refl;
      not_brace = refl;
      not_end = refl;
    })
    (record {
      operand = refl;
      signs = refl;
      unglued = refl;
      not_cast = refl;
      not_close = refl;
      not_bracket = refl;
      not_brace = refl;
      not_end = refl;
    })
    (record {
      operand = refl;
      signs = refl;
      unglued = refl;
      not_cast = refl;
      not_close = refl;
      not_bracket = refl;
      not_brace = refl;
      not_end = refl;
    })
    (record {
      operand = refl;
      signs = refl;
      unglued = refl;
      not_cast = refl;
      not_close = refl;
      not_bracket = refl;
      not_brace = refl;
      not_end = refl;
    })
    (record {
      operand = refl;
      signs = refl;
      unglued = refl;
      not_cast = refl;
      not_close = refl;
      not_bracket = refl;
      not_brace = refl;
      not_end = refl;
    })
    (record {
      operand = refl;
      signs = refl;
      unglued = refl;
      not_cast = refl;
      not_close = refl;
      not_bracket = refl;
      not_brace = refl;
      not_end = refl;
    })
    op h

-- the word of a primitive type or `void`, where no `)` stands behind it
front_word : (text : List ℕ) (ts : List Spelled) → lead (keyword text ∷ ts) ≡ Opens → after_sign (codes ")") ts ≡ None
    → Front false (keyword text ∷ ts)
front_word text ts e c = record {
  operand = ap is_opens e;
  signs = refl;
  unglued = refl;
  not_cast = by_word (is_plain_word text) refl;
  not_close = refl;
  not_bracket = refl;
  not_brace = refl;
  not_end = refl;
} where
  by_word : (b : Bool) → is_plain_word text ≡ b → is_plain_cast (keyword text ∷ ts) ≡ false
  by_word true w = rw (w, c) refl
  by_word false w = rw w refl

plain_opens : (text : List ℕ) (ts : List Spelled) → is_plain_word text ≡ true → lead (keyword text ∷ ts) ≡ Opens
unfolding lead
plain_opens text ts w =
    listed_cases (λ text. lead (keyword text ∷ ts) ≡ Opens)
    (codes "boolean" ∷ codes "byte" ∷ codes "short" ∷ codes "int" ∷ codes "long" ∷ codes "char" ∷ codes "float"
    ∷ codes "double" ∷ []) text w (refl, (refl, (refl, (refl, (refl, (refl, (refl, (refl, tt))))))))

word_opens : (text : List ℕ) (ts : List Spelled) → (is_plain_word text || bytes_eq text (codes "void")) ≡ true
    → lead (keyword text ∷ ts) ≡ Opens
unfolding lead
word_opens text ts w = elim (or_cases (is_plain_word text) (bytes_eq text (codes "void")) w) [
  | inl e ↦ plain_opens text ts e
  | inr e ↦ subst (λ text. lead (keyword text ∷ ts) ≡ Opens) (sym ((bytes_decides text (codes "void")).0 e)) refl
]

brackets_no_close : (n : ℕ) (ts : List Spelled) → after_sign (codes ")") ts ≡ None
    → after_sign (codes ")") (brackets_onto n ts) ≡ None
brackets_no_close zero ts e = e
brackets_no_close (suc n) ts e = refl

-- the same token in front
front_name : (x : List ℕ) (ts : List Spelled) → Front false (identifier x ∷ ts)
unfolding lead
front_name x ts = record {
  operand = refl;
  signs = refl;
  unglued = refl;
  not_cast = refl;
  not_close = refl;
  not_bracket = refl;
  not_brace = refl;
  not_end = refl;
}

front_open : (ts : List Spelled) → Front false (sign (codes "(") ∷ ts)
unfolding lead
front_open ts = record {
  operand = refl;
  signs = refl;
  unglued = refl;
  not_cast = refl;
  not_close = refl;
  not_bracket = refl;
  not_brace = refl;
  not_end = refl;
}

front_parameters : (ps rest : List Spelled) → IsTrue (are_lambda_parameters ps) → Front false (tokens_onto ps rest)
front_parameters ps rest f =
    lambda_cases (λ ps. Front false (tokens_onto ps rest)) (λ x. front_name x rest) (λ ts c. front_open (ts ++ rest)) ps
    f

pub front : (e : Expr) → FormedExpr e → (rest : List Spelled) → Front (begins_signed e) (expr_onto e rest)
unfolding lead
front (Assign a op b) f rest = front a f.0 _
front (Conditional a b c) f rest = front a f.0 _
front (Binary a op b) f rest = front a f.0 _
front (InstanceOf a t) f rest = front a f.0 _
front (Prefix op a) f rest = front_prefix op _ f.1
front (Postfix a op) f rest = front a f.0 _
front (Field a x) f rest = front a f.0 _
front (Index a i) f rest = front a f.0 _
front (CallOn a types x all) f rest = front a f.0 _
front (Reference a types x) f rest = front a f.0 _
front (TypeReference (Typed (Plain text) n) types x) f rest =
    front_word text _ (plain_opens text _ f.0) (brackets_no_close n _ refl)
front (TypeReference (Typed (Named no_part) n) types x) f rest = absurd (false≢true f.0.1)
front (TypeReference (Typed (Named (part_then (Bare y) ps)) n) types x) f rest = front_name y _
front (TypeReference (Typed (Named (part_then (Generic y a) ps)) n) types x) f rest = front_name y _
front (PlainClass (Typed (Plain text) n)) f rest = front_word text _ (word_opens text _ f) (brackets_no_close n _ refl)
front (PlainClass (Typed (Named no_part) n)) f rest = absurd (false≢true f.1)
front (PlainClass (Typed (Named (part_then (Bare y) ps)) n)) f rest = front_name y _
front (PlainClass (Typed (Named (part_then (Generic y a) ps)) n)) f rest = absurd (false≢true f.0)
front (Lambda ps a) f rest = front_parameters ps _ f.0
front (BlockLambda ps block) f rest = front_parameters ps _ f.0
front (ThisOf []) f rest = absurd (false≢true f)
front (Literal kind.Name text) f rest = absurd (false≢true f)
front (Literal kind.Keyword text) f rest = absurd (false≢true f)
front (Literal kind.Sign text) f rest = absurd (false≢true f)
front (ClassOf []) f rest = absurd cc
front _ f rest = record {
  operand = refl;
  signs = refl;
  unglued = refl;
  not_cast = refl;
  not_close = refl;
  not_bracket = refl;
  not_brace = refl;
  not_end = refl;
}
