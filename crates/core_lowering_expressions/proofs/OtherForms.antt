-- What an expression that is no name, and one that is no access, are not.
use Rattle.std.proofs.Common.{◌≡◌, Bool, true, false, cond, List, ℕ, None, refl, sym, ap, ◌∙◌}
use Rattle.java_lexer.specs.declared.token.TokenKind.{TokenKind}
use Rattle.java_lexer.specs.declared.token.TokenKind.TheVariants as token
use Rattle.java_tree.specs.declared.expressions.ArrayTree.{ArrayTree}
use Rattle.java_tree.specs.declared.expressions.Expression.{Expression, out-Expression, map-Expression}
use Rattle.java_tree.specs.declared.expressions.Expression.TheFolds.{fold_out-Expression}
use Rattle.java_tree.specs.declared.expressions.LambdaBody.{LambdaBody}
use Rattle.java_tree.specs.declared.expressions.Made.{Made}
use Rattle.java_tree.specs.declared.expressions.Referred.{Referred}
use Rattle.java_tree.specs.declared.expressions.CallTree.{CallTree}
use Rattle.java_tree.specs.declared.expressions.CastTree.{CastTree}
use Rattle.java_tree.specs.declared.expressions.InstanceTree.{InstanceTree}
use Rattle.java_tree.specs.declared.expressions.LambdaTree.{LambdaTree}
use Rattle.java_tree.specs.declared.expressions.NewTree.{NewTree}
use Rattle.java_tree.specs.declared.expressions.ReferenceTree.{ReferenceTree}
use Rattle.java_tree.specs.declared.expressions.Expression.TheOpen as expression
use Rattle.java_tree.specs.declared.expressions.Initialiser.{Initialiser}
use Rattle.std.specs.Prelude.{bytes_eq, codes}
use Rattle.core_lowering_rules.specs.Trees.{Expr, Access, Init, Inits, NoAccess, Prim, Null, Assign, Combine, Count}
use Rattle.core_lowering_rules.specs.Trees.{Unary, Referee, Binary, Logical}
use Rattle.core_lowering_rules.specs.TreesOf.{OfNew, Layer, expr_of, init_of, behind_of, made_of, referred_of, items_of}
use Rattle.core_lowering_rules.specs.TreesOf.{call_tree_of, cast_tree_of, instance_tree_of, lambda_tree_of}
use Rattle.core_lowering_rules.specs.TreesOf.{new_tree_of, reference_tree_of, expr_step, init_step, behind_step}
use Rattle.core_lowering_rules.specs.TreesOf.{made_step, before_step, array_step, call_step, cast_step, instance_step}
use Rattle.core_lowering_rules.specs.TreesOf.{lambda_step, new_step, reference_step, access_of}
use Rattle.core_lowering_rules.specs.TreesOf.{literal, assignment, binary, prefix, is_assignment, is_logical, is_count}
use Rattle.core_lowering_rules.specs.Context.{Context}
use Rattle.core_lowering_rules.specs.Expressions.{class_before, is_evaluated}
use Rattle.core_lowering_rules.proofs.TreeForms.{of_call, of_new, of_cast, of_instance, of_lambda, of_reference}

abbrev pub is_name : Layer → Bool
is_name (expression.Name x) = true
is_name _ = false

abbrev pub is_access : Layer → Bool
is_access (expression.Name x) = true
is_access (expression.Field a x) = true
is_access (expression.Index a i) = true
is_access _ = false

abbrev lowered : Layer → Expr
lowered l =
    expr_step
    (map-Expression Expression Initialiser LambdaBody Made Referred ArrayTree CallTree CastTree InstanceTree LambdaTree
    NewTree ReferenceTree Expr Init Expr OfNew Referee Inits Expr Expr Expr Expr Expr Expr expr_of init_of behind_of
    made_of referred_of items_of call_tree_of cast_tree_of instance_tree_of lambda_tree_of new_tree_of
    reference_tree_of l)

lowered-out : (e : Expression) → expr_of e ≡ lowered (out-Expression e)
lowered-out e =
    fold_out-Expression Expr Init Expr OfNew Referee Inits Expr Expr Expr Expr Expr Expr expr_step init_step
    behind_step made_step before_step array_step call_step cast_step instance_step lambda_step new_step reference_step
    e

-- ---- no name

either-class : (context : Context) (b : Bool) (x y : Expr) → None ≡ class_before context x →
    None ≡ class_before context y →
    None ≡ class_before context (cond b x y)
either-class context true x y p q = p
either-class context false x y p q = q

assign-class : (context : Context) (op : List ℕ) (a : Access) (b : Expr) →
    None ≡ class_before context (assignment op a b)
assign-class context op a b = either-class context (is_assignment op) (Assign a b) (Combine a b) refl refl

binary-class : (context : Context) (op : List ℕ) (a b : Expr) → None ≡ class_before context (binary op a b)
binary-class context op a b = either-class context (is_logical op) (Logical a b) (Binary a b) refl refl

prefix-class : (context : Context) (op : List ℕ) (a : Expr) → None ≡ class_before context (prefix op a)
prefix-class context op a = either-class context (is_count op) (Count (access_of a)) (Unary a) refl refl

literal-class : (context : Context) (k : TokenKind) (text : List ℕ) → None ≡ class_before context (literal k text)
literal-class context token.Text text = refl
literal-class context token.Fixed text = either-class context (bytes_eq text (codes "null")) Null Prim refl refl
literal-class context token.Keyword text = refl
literal-class context token.Name text = refl
literal-class context token.Number text = refl
literal-class context token.Character text = refl
literal-class context token.Sign text = refl

layer-class : (context : Context) (l : Layer) → is_name l ≡ false → None ≡ class_before context (lowered l)
layer-class context (expression.Assign a op b) h =
    assign-class context op (access_of (expr_of a.value)) (expr_of b.value)
layer-class context (expression.Conditional a b c) h = refl
layer-class context (expression.Binary a op b) h = binary-class context op (expr_of a.value) (expr_of b.value)
layer-class context (expression.InstanceOf i) h = of_instance (class_before context) None (λ e. refl) i.value
layer-class context (expression.Prefix op a) h = prefix-class context op (expr_of a.value)
layer-class context (expression.Cast k) h = of_cast (class_before context) None (λ t e. refl) k.value
layer-class context (expression.Postfix a op) h = refl
layer-class context (expression.Literal k text) h = literal-class context k text
layer-class context expression.This h = refl
layer-class context (expression.Name x) h = cc
layer-class context (expression.Paren a) h = refl
layer-class context (expression.Field a x) h = refl
layer-class context (expression.Index a i) h = refl
layer-class context (expression.Call k) h =
    of_call (class_before context) None (λ y es. refl) (λ e y es. refl) k.value
layer-class context (expression.ClassOf xs) h = refl
layer-class context (expression.New n) h =
    of_new (class_before context) None (λ place t es. refl) (λ place t es. refl) (λ place es. refl) (λ place is. refl)
    n.value
layer-class context (expression.Lambda l) h = of_lambda (class_before context) None refl l.value
layer-class context (expression.Reference r) h = of_reference (class_before context) None (λ to. refl) r.value
layer-class context (expression.PlainClass t) h = refl
layer-class context (expression.ThisOf xs) h = refl

pub no-class : (context : Context) (e : Expression) → is_name (out-Expression e) ≡ false →
    None ≡ class_before context (expr_of e)
no-class context e h =
    layer-class context (out-Expression e) h ∙ ap (class_before context) (sym (lowered-out e))

-- ---- what a method reference does not evaluate

either-value : (context : Context) (b : Bool) (x y : Expr) → true ≡ is_evaluated context x →
    true ≡ is_evaluated context y → true ≡ is_evaluated context (cond b x y)
either-value context true x y p q = p
either-value context false x y p q = q

literal-value : (context : Context) (k : TokenKind) (text : List ℕ) → true ≡ is_evaluated context (literal k text)
literal-value context token.Text text = refl
literal-value context token.Fixed text = either-value context (bytes_eq text (codes "null")) Null Prim refl refl
literal-value context token.Keyword text = refl
literal-value context token.Name text = refl
literal-value context token.Number text = refl
literal-value context token.Character text = refl
literal-value context token.Sign text = refl

layer-value : (context : Context) (l : Layer) → is_name l ≡ false → true ≡ is_evaluated context (lowered l)
layer-value context (expression.Assign a op b) h =
    either-value context (is_assignment op) (Assign (access_of (expr_of a.value)) (expr_of b.value))
    (Combine (access_of (expr_of a.value)) (expr_of b.value)) refl refl
layer-value context (expression.Conditional a b c) h = refl
layer-value context (expression.Binary a op b) h =
    either-value context (is_logical op) (Logical (expr_of a.value) (expr_of b.value))
    (Binary (expr_of a.value) (expr_of b.value)) refl refl
layer-value context (expression.InstanceOf i) h = of_instance (is_evaluated context) true (λ e. refl) i.value
layer-value context (expression.Prefix op a) h =
    either-value context (is_count op) (Count (access_of (expr_of a.value))) (Unary (expr_of a.value)) refl refl
layer-value context (expression.Cast k) h = of_cast (is_evaluated context) true (λ t e. refl) k.value
layer-value context (expression.Postfix a op) h = refl
layer-value context (expression.Literal k text) h = literal-value context k text
layer-value context expression.This h = refl
layer-value context (expression.Name x) h = cc
layer-value context (expression.Paren a) h = refl
layer-value context (expression.Field a x) h = refl
layer-value context (expression.Index a i) h = refl
layer-value context (expression.Call k) h =
    of_call (is_evaluated context) true (λ y es. refl) (λ e y es. refl) k.value
layer-value context (expression.ClassOf xs) h = refl
layer-value context (expression.New n) h =
    of_new (is_evaluated context) true (λ place t es. refl) (λ place t es. refl) (λ place es. refl) (λ place is. refl)
    n.value
layer-value context (expression.Lambda l) h = of_lambda (is_evaluated context) true refl l.value
layer-value context (expression.Reference r) h = of_reference (is_evaluated context) true (λ to. refl) r.value
layer-value context (expression.PlainClass t) h = refl
layer-value context (expression.ThisOf xs) h = refl

pub is-value : (context : Context) (e : Expression) → is_name (out-Expression e) ≡ false →
    true ≡ is_evaluated context (expr_of e)
is-value context e h =
    layer-value context (out-Expression e) h ∙ ap (is_evaluated context) (sym (lowered-out e))

-- ---- no access

either-access : (b : Bool) (x y : Expr) → NoAccess ≡ access_of x → NoAccess ≡ access_of y →
    NoAccess ≡ access_of (cond b x y)
either-access true x y p q = p
either-access false x y p q = q

assign-access : (op : List ℕ) (a : Access) (b : Expr) → NoAccess ≡ access_of (assignment op a b)
assign-access op a b = either-access (is_assignment op) (Assign a b) (Combine a b) refl refl

binary-access : (op : List ℕ) (a b : Expr) → NoAccess ≡ access_of (binary op a b)
binary-access op a b = either-access (is_logical op) (Logical a b) (Binary a b) refl refl

prefix-access : (op : List ℕ) (a : Expr) → NoAccess ≡ access_of (prefix op a)
prefix-access op a = either-access (is_count op) (Count (access_of a)) (Unary a) refl refl

literal-access : (k : TokenKind) (text : List ℕ) → NoAccess ≡ access_of (literal k text)
literal-access token.Text text = refl
literal-access token.Fixed text = either-access (bytes_eq text (codes "null")) Null Prim refl refl
literal-access token.Keyword text = refl
literal-access token.Name text = refl
literal-access token.Number text = refl
literal-access token.Character text = refl
literal-access token.Sign text = refl

layer-access : (l : Layer) → is_access l ≡ false → NoAccess ≡ access_of (lowered l)
layer-access (expression.Assign a op b) h = assign-access op (access_of (expr_of a.value)) (expr_of b.value)
layer-access (expression.Conditional a b c) h = refl
layer-access (expression.Binary a op b) h = binary-access op (expr_of a.value) (expr_of b.value)
layer-access (expression.InstanceOf i) h = of_instance access_of NoAccess (λ e. refl) i.value
layer-access (expression.Prefix op a) h = prefix-access op (expr_of a.value)
layer-access (expression.Cast k) h = of_cast access_of NoAccess (λ t e. refl) k.value
layer-access (expression.Postfix a op) h = refl
layer-access (expression.Literal k text) h = literal-access k text
layer-access expression.This h = refl
layer-access (expression.Name x) h = cc
layer-access (expression.Paren a) h = refl
layer-access (expression.Field a x) h = cc
layer-access (expression.Index a i) h = cc
layer-access (expression.Call k) h =
    of_call access_of NoAccess (λ y es. refl) (λ e y es. refl) k.value
layer-access (expression.ClassOf xs) h = refl
layer-access (expression.New n) h =
    of_new access_of NoAccess (λ place t es. refl) (λ place t es. refl) (λ place es. refl) (λ place is. refl) n.value
layer-access (expression.Lambda l) h = of_lambda access_of NoAccess refl l.value
layer-access (expression.Reference r) h = of_reference access_of NoAccess (λ to. refl) r.value
layer-access (expression.PlainClass t) h = refl
layer-access (expression.ThisOf xs) h = refl

pub no-access : (e : Expression) → is_access (out-Expression e) ≡ false → NoAccess ≡ access_of (expr_of e)
no-access e h =
    layer-access (out-Expression e) h ∙ ap access_of (sym (lowered-out e))
