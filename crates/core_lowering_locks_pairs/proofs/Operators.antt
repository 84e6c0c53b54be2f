-- Operators, literals and assignments are no names, no `this` and no calls.
use Rattle.std.proofs.Common.{◌≡◌, ◌≤◌, Bool, true, false, cond, List, [], ◌∷◌, ℕ, None, Box, Global, map}
use Rattle.std.proofs.Common.{length}
use Rattle.std.proofs.Common.{refl, sym, ap, ◌∙◌, codes, rules, arith}
use Rattle.std.specs.Prelude.{bytes_eq}
use Rattle.java_lexer.specs.declared.token.TokenKind.{TokenKind}
use Rattle.java_lexer.specs.declared.token.TokenKind.TheVariants as token
use Rattle.java_tree.specs.declared.words.Ident.{Ident}
use Rattle.java_tree.specs.declared.expressions.Expression.{Expression}
use Rattle.java_tree.specs.declared.expressions.Expression as form
use Rattle.java_tree.specs.declared.expressions.Expression.TheFolds.{the_lemmas}
use Rattle.core_lowering_rules.specs.Trees.{Expr, CallOn, pack_exprs, Access, Prim, Unknown, Null, Binary, Logical}
use Rattle.core_lowering_rules.specs.Trees.{Unary}
use Rattle.core_lowering_rules.specs.Trees.{Count}
use Rattle.core_lowering_rules.specs.Trees.{Assign, Combine, is_this, simple_name, own_name, plain_call}
use Rattle.core_lowering_rules.specs.TreesOf.{binary, prefix, assignment, literal, is_logical, is_count, is_assignment}
use Rattle.core_lowering_rules.specs.TreesOf.{access_of, expr_of}

pub either : {A : Type 0} (f : Expr → A) (x : A) (b : Bool) (s t : Expr) → x ≡ f s → x ≡ f t → x ≡ f (cond b s t)
either f x true s t p q = p
either f x false s t p q = q

pub literal-in : {A : Type 0} (f : Expr → A) (x : A) (k : TokenKind) (text : List ℕ) → x ≡ f Unknown → x ≡ f Null →
    x ≡ f Prim → x ≡ f (literal k text)
literal-in f x token.Text text a b c = a
literal-in f x token.Fixed text a b c = either f x (bytes_eq text (codes "null")) Null Prim b c
literal-in f x token.Keyword text a b c = c
literal-in f x token.Name text a b c = c
literal-in f x token.Number text a b c = c
literal-in f x token.Character text a b c = c
literal-in f x token.Sign text a b c = c

-- ---- forms

module _ {A : Type 0} (f : Expr → A) (x : A) where
  pub binary-arm : ((op : List ℕ) (a b : Expr) → x ≡ f (binary op a b)) → (e : Expression)
      (a : Box Expression Global) (op : List ℕ) (b : Box Expression Global) → e ≡ form.Binary a op b → x ≡ f (expr_of e)
  binary-arm seen e a op b is =
      seen op (expr_of a.value) (expr_of b.value) ∙ ap f (sym (ap expr_of is ∙ shown a op b))
    where
      shown : (l : Box Expression Global) (o : List ℕ) (r : Box Expression Global) →
          expr_of (form.Binary l o r) ≡ binary o (expr_of l.value) (expr_of r.value)
      shown l o r = search (rules, the_lemmas)

  pub prefix-arm : ((op : List ℕ) (a : Expr) → x ≡ f (prefix op a)) → (e : Expression) (op : List ℕ)
      (a : Box Expression Global) → e ≡ form.Prefix op a → x ≡ f (expr_of e)
  prefix-arm seen e op a is = seen op (expr_of a.value) ∙ ap f (sym (ap expr_of is ∙ shown op a))
    where
      shown : (o : List ℕ) (l : Box Expression Global) → expr_of (form.Prefix o l) ≡ prefix o (expr_of l.value)
      shown o l = search (rules, the_lemmas)

-- a call with arguments
pub with_arguments : (e : Expr) (x : Ident) (es : List Expression) → 1 ≤ length es →
    None ≡ plain_call (CallOn e x (pack_exprs (map expr_of es)))
with_arguments e x [] some = absurd (omega (arith, some))
with_arguments e x (a ∷ es) some = refl

pub binary_is_no_this : (op : List ℕ) (a b : Expr) → false ≡ is_this (binary op a b)
binary_is_no_this op a b = either is_this false (is_logical op) (Logical a b) (Binary a b) refl refl

pub prefix_is_no_this : (op : List ℕ) (a : Expr) → false ≡ is_this (prefix op a)
prefix_is_no_this op a = either is_this false (is_count op) (Count (access_of a)) (Unary a) refl refl

pub assignment_is_no_this : (op : List ℕ) (a : Access) (b : Expr) → false ≡ is_this (assignment op a b)
assignment_is_no_this op a b = either is_this false (is_assignment op) (Assign a b) (Combine a b) refl refl

pub literal_is_no_this : (k : TokenKind) (text : List ℕ) → false ≡ is_this (literal k text)
literal_is_no_this k text = literal-in is_this false k text refl refl refl

pub binary_is_no_name : (op : List ℕ) (a b : Expr) → None ≡ simple_name (binary op a b)
binary_is_no_name op a b = either simple_name None (is_logical op) (Logical a b) (Binary a b) refl refl

pub prefix_is_no_name : (op : List ℕ) (a : Expr) → None ≡ simple_name (prefix op a)
prefix_is_no_name op a = either simple_name None (is_count op) (Count (access_of a)) (Unary a) refl refl

pub assignment_is_no_name : (op : List ℕ) (a : Access) (b : Expr) → None ≡ simple_name (assignment op a b)
assignment_is_no_name op a b = either simple_name None (is_assignment op) (Assign a b) (Combine a b) refl refl

pub literal_is_no_name : (k : TokenKind) (text : List ℕ) → None ≡ simple_name (literal k text)
literal_is_no_name k text = literal-in simple_name None k text refl refl refl

pub binary_is_no_own : (op : List ℕ) (a b : Expr) → None ≡ own_name (binary op a b)
binary_is_no_own op a b = either own_name None (is_logical op) (Logical a b) (Binary a b) refl refl

pub prefix_is_no_own : (op : List ℕ) (a : Expr) → None ≡ own_name (prefix op a)
prefix_is_no_own op a = either own_name None (is_count op) (Count (access_of a)) (Unary a) refl refl

pub assignment_is_no_own : (op : List ℕ) (a : Access) (b : Expr) → None ≡ own_name (assignment op a b)
assignment_is_no_own op a b = either own_name None (is_assignment op) (Assign a b) (Combine a b) refl refl

pub literal_is_no_own : (k : TokenKind) (text : List ℕ) → None ≡ own_name (literal k text)
literal_is_no_own k text = literal-in own_name None k text refl refl refl

pub binary_is_no_call : (op : List ℕ) (a b : Expr) → None ≡ plain_call (binary op a b)
binary_is_no_call op a b = either plain_call None (is_logical op) (Logical a b) (Binary a b) refl refl

pub prefix_is_no_call : (op : List ℕ) (a : Expr) → None ≡ plain_call (prefix op a)
prefix_is_no_call op a = either plain_call None (is_count op) (Count (access_of a)) (Unary a) refl refl

pub assignment_is_no_call : (op : List ℕ) (a : Access) (b : Expr) → None ≡ plain_call (assignment op a b)
assignment_is_no_call op a b = either plain_call None (is_assignment op) (Assign a b) (Combine a b) refl refl

pub literal_is_no_call : (k : TokenKind) (text : List ℕ) → None ≡ plain_call (literal k text)
literal_is_no_call k text = literal-in plain_call None k text refl refl refl
