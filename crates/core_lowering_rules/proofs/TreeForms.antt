-- What the structs of expressions are as trees that are lowered, and what is the same of all such trees.
use Rattle.std.proofs.Common.{◌≡◌, Box, Global, List, Option, Some, None, map, option_map, sym, ap, ◌∙◌, rules}
use Rattle.racer_base.specs.declared.ids.Place.{Place}
use Rattle.java_tree.specs.declared.words.Ident.{Ident}
use Rattle.java_tree.specs.declared.expressions.Expression.{Expression}
use Rattle.java_tree.specs.declared.expressions.Expression as form
use Rattle.java_tree.specs.declared.expressions.Initialiser.{Initialiser}
use Rattle.java_tree.specs.declared.expressions.LambdaBody.{LambdaBody}
use Rattle.java_tree.specs.declared.expressions.Made.{Made, out-Made, map-Made}
use Rattle.java_tree.specs.declared.expressions.Referred.{Referred}
use Rattle.java_tree.specs.declared.expressions.ArrayTree.{ArrayTree}
use Rattle.java_tree.specs.declared.expressions.CallTree.{CallTree, out-CallTree}
use Rattle.java_tree.specs.declared.expressions.CastTree.{CastTree, out-CastTree}
use Rattle.java_tree.specs.declared.expressions.InstanceTree.{InstanceTree, out-InstanceTree}
use Rattle.java_tree.specs.declared.expressions.LambdaTree.{LambdaTree}
use Rattle.java_tree.specs.declared.expressions.NewTree.{NewTree, out-NewTree}
use Rattle.java_tree.specs.declared.expressions.ReferenceTree.{ReferenceTree, out-ReferenceTree}
use Rattle.java_tree.specs.declared.expressions.Expression.TheOpen as expression
use Rattle.java_tree.specs.declared.expressions.Expression.TheFolds.{fold_out-Made, the_lemmas}
use Rattle.java_tree.specs.Trees.{Ty}
use Rattle.java_tree.specs.View.{ty_of}
use Rattle.core_lowering_rules.specs.Trees.{Expr, Init, Inits, Referee, Exprs, Call, CallOn, New, NewBody, NewArray}
use Rattle.core_lowering_rules.specs.Trees.{NewItems, Cast, Unary, Unknown, Refer, pack_exprs}
use Rattle.core_lowering_rules.specs.TreesOf.{OfNew, expr_of, init_of, behind_of, made_of, referred_of, items_of}
use Rattle.core_lowering_rules.specs.TreesOf.{call_tree_of, cast_tree_of, instance_tree_of, lambda_tree_of}
use Rattle.core_lowering_rules.specs.TreesOf.{new_tree_of, reference_tree_of, call, first_type, expr_step, init_step}
use Rattle.core_lowering_rules.specs.TreesOf.{behind_step, made_step, before_step, array_step, call_step, cast_step}
use Rattle.core_lowering_rules.specs.TreesOf.{instance_step, lambda_step, new_step, reference_step}
use Rattle.core_lowering_rules.proofs.TreeLayers.{PlainMade}

-- ---- the parts of a call

abbrev pub called_on : CallTree → Option Expr
called_on c = option_map (λ b. expr_of b.value) (out-CallTree c).receiver

abbrev pub arguments_of : CallTree → List Expr
arguments_of c = map expr_of (out-CallTree c).arguments.items

pub call-form : (c : CallTree) → call_tree_of c ≡ call (called_on c) (out-CallTree c).name (arguments_of c)
call-form c = search (rules, the_lemmas)

-- where nothing, and where something stands before the name
pub own-call : (c : CallTree) → (out-CallTree c).receiver ≡ None →
    call_tree_of c ≡ Call (out-CallTree c).name (pack_exprs (arguments_of c))
own-call c is =
    call-form c
    ∙ ap (λ (o : Option (Box Expression Global)).
    call (option_map (λ b. expr_of b.value) o) (out-CallTree c).name (arguments_of c)) is

pub call-on : (c : CallTree) (a : Box Expression Global) → (out-CallTree c).receiver ≡ Some a →
    call_tree_of c ≡ CallOn (expr_of a.value) (out-CallTree c).name (pack_exprs (arguments_of c))
call-on c a is =
    call-form c
    ∙ ap (λ (o : Option (Box Expression Global)).
    call (option_map (λ b. expr_of b.value) o) (out-CallTree c).name (arguments_of c)) is

pub new-form : (n : NewTree) →
    new_tree_of n ≡ made_of (out-NewTree n).made (out-NewTree n).place (ty_of (out-NewTree n).kind)
new-form n = search (rules, the_lemmas)

pub cast-form : (c : CastTree) →
    cast_tree_of c ≡ Cast (first_type (out-CastTree c).types) (expr_of (out-CastTree c).value)
cast-form c = search (rules, the_lemmas)

pub instance-form : (i : InstanceTree) → instance_tree_of i ≡ Unary (expr_of (out-InstanceTree i).value)
instance-form i = search (rules, the_lemmas)

pub lambda-form : (l : LambdaTree) → lambda_tree_of l ≡ Unknown
lambda-form l = search (rules, the_lemmas)

pub reference-form : (r : ReferenceTree) → reference_tree_of r ≡ Refer (referred_of (out-ReferenceTree r).of)
reference-form r = search (rules, the_lemmas)

abbrev made_layer : PlainMade → OfNew
made_layer y =
    made_step
    (map-Made Expression Initialiser LambdaBody Made Referred ArrayTree CallTree CastTree InstanceTree LambdaTree
    NewTree ReferenceTree Expr Init Expr OfNew Referee Inits Expr Expr Expr Expr Expr Expr expr_of init_of behind_of
    made_of referred_of items_of call_tree_of cast_tree_of instance_tree_of lambda_tree_of new_tree_of
    reference_tree_of y)

made-out : (m : Made) → made_of m ≡ made_layer (out-Made m)
made-out m =
    fold_out-Made Expr Init Expr OfNew Referee Inits Expr Expr Expr Expr Expr Expr expr_step init_step behind_step
    made_step before_step array_step call_step cast_step instance_step lambda_step new_step reference_step m

-- ---- what is the same of all of them

module _ {A : Type 0} (f : Expr → A) (x : A) where
  of_receiver : ((y : Ident) (es : Exprs) → x ≡ f (Call y es)) →
      ((e : Expr) (y : Ident) (es : Exprs) → x ≡ f (CallOn e y es)) → (o : Option Expr) (y : Ident) (all : List Expr) →
      x ≡ f (call o y all)
  of_receiver own on None y all = own y (pack_exprs all)
  of_receiver own on (Some e) y all = on e y (pack_exprs all)

  pub of_call : ((y : Ident) (es : Exprs) → x ≡ f (Call y es)) →
      ((e : Expr) (y : Ident) (es : Exprs) → x ≡ f (CallOn e y es)) → (c : CallTree) → x ≡ f (call_tree_of c)
  of_call own on c =
      of_receiver own on (called_on c) (out-CallTree c).name (arguments_of c) ∙ ap f (sym (call-form c))

  pub call-arm : ((y : Ident) (es : Exprs) → x ≡ f (Call y es)) →
      ((e : Expr) (y : Ident) (es : Exprs) → x ≡ f (CallOn e y es)) → (e : Expression) (c : Box CallTree Global) →
      e ≡ form.Call c → x ≡ f (expr_of e)
  call-arm own on e c is = of_call own on c.value ∙ ap f (sym (ap expr_of is ∙ shown c))
    where
      shown : (b : Box CallTree Global) → expr_of (form.Call b) ≡ call_tree_of b.value
      shown b = search (rules, the_lemmas)

  pub of_cast : ((t : Ty) (e : Expr) → x ≡ f (Cast t e)) → (c : CastTree) → x ≡ f (cast_tree_of c)
  of_cast same c =
      same (first_type (out-CastTree c).types) (expr_of (out-CastTree c).value) ∙ ap f (sym (cast-form c))

  pub of_instance : ((e : Expr) → x ≡ f (Unary e)) → (i : InstanceTree) → x ≡ f (instance_tree_of i)
  of_instance same i = same (expr_of (out-InstanceTree i).value) ∙ ap f (sym (instance-form i))

  pub of_lambda : x ≡ f Unknown → (l : LambdaTree) → x ≡ f (lambda_tree_of l)
  of_lambda same l = same ∙ ap f (sym (lambda-form l))

  pub of_reference : ((to : Referee) → x ≡ f (Refer to)) → (r : ReferenceTree) → x ≡ f (reference_tree_of r)
  of_reference same r = same (referred_of (out-ReferenceTree r).of) ∙ ap f (sym (reference-form r))

  module _ (made : (place : Place) (t : Ty) (es : Exprs) → x ≡ f (New place t es))
      (body : (place : Place) (t : Ty) (es : Exprs) → x ≡ f (NewBody place t es))
      (lengths : (place : Place) (es : Exprs) → x ≡ f (NewArray place es))
      (items : (place : Place) (is : Inits) → x ≡ f (NewItems place is)) where
    made-layer : (y : PlainMade) (place : Place) (t : Ty) → x ≡ f (made_layer y place t)
    made-layer (expression.Object all) place t = made place t (pack_exprs (map expr_of all.items))
    made-layer (expression.Anonymous all block) place t = body place t (pack_exprs (map expr_of all.items))
    made-layer (expression.Array all n) place t = lengths place (pack_exprs (map expr_of all.items))
    made-layer (expression.Filled n all) place t = items place (items_of all)

    of_made : (m : Made) (place : Place) (t : Ty) → x ≡ f (made_of m place t)
    of_made m place t = made-layer (out-Made m) place t ∙ ap (λ (g : OfNew). f (g place t)) (sym (made-out m))

    pub of_new : (n : NewTree) → x ≡ f (new_tree_of n)
    of_new n =
        of_made (out-NewTree n).made (out-NewTree n).place (ty_of (out-NewTree n).kind) ∙ ap f (sym (new-form n))

    pub new-arm : (e : Expression) (n : Box NewTree Global) → e ≡ form.New n → x ≡ f (expr_of e)
    new-arm e n is = of_new n.value ∙ ap f (sym (ap expr_of is ∙ shown n))
      where
        shown : (b : Box NewTree Global) → expr_of (form.New b) ≡ new_tree_of b.value
        shown b = search (rules, the_lemmas)
