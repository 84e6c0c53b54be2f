-- The layers of an expression, with a fact of each part: of how it is viewed, the places that it keeps and what it is
-- lowered to.
use Rattle.java_tree.specs.declared.expressions.Expression.{Expression, map-Expression}
use Rattle.java_tree.specs.declared.expressions.Initialiser.{Initialiser, map-Initialiser}
use Rattle.java_tree.specs.declared.expressions.LambdaBody.{LambdaBody, map-LambdaBody}
use Rattle.java_tree.specs.declared.expressions.Made.{Made, map-Made}
use Rattle.java_tree.specs.declared.expressions.Referred.{Referred, map-Referred}
use Rattle.java_tree.specs.declared.expressions.ArrayTree.{ArrayTree, map-ArrayTree}
use Rattle.java_tree.specs.declared.expressions.CallTree.{CallTree, map-CallTree}
use Rattle.java_tree.specs.declared.expressions.CastTree.{CastTree, map-CastTree}
use Rattle.java_tree.specs.declared.expressions.InstanceTree.{InstanceTree, map-InstanceTree}
use Rattle.java_tree.specs.declared.expressions.LambdaTree.{LambdaTree, map-LambdaTree}
use Rattle.java_tree.specs.declared.expressions.NewTree.{NewTree, map-NewTree}
use Rattle.java_tree.specs.declared.expressions.ReferenceTree.{ReferenceTree, map-ReferenceTree}
use Rattle.java_tree.specs.declared.expressions.Expression.TheOpen as expression
use Rattle.java_tree.specs.KeptPlaces.{Puts, expr_places, init_places, behind_places, made_places, before_places}
use Rattle.java_tree.specs.KeptPlaces.{array_places, call_places, cast_places, instance_places, lambda_places}
use Rattle.java_tree.specs.KeptPlaces.{new_places, reference_places}
use Rattle.java_tree.specs.Trees as view
use Rattle.java_tree.specs.View as viewed
use Rattle.core_lowering_rules.specs.Trees.{Expr, Referee, Init, Inits}
use Rattle.core_lowering_rules.specs.TreesOf.{OfNew, expr_of, init_of, behind_of, made_of, referred_of, items_of}
use Rattle.core_lowering_rules.specs.TreesOf.{call_tree_of, cast_tree_of, instance_tree_of, lambda_tree_of}
use Rattle.core_lowering_rules.specs.TreesOf.{new_tree_of, reference_tree_of}

abbrev pub Plain : Type 0
Plain =
    expression.Expression-F Expression Initialiser LambdaBody Made Referred ArrayTree CallTree CastTree InstanceTree
    LambdaTree NewTree ReferenceTree

abbrev pub PlainInit : Type 0
PlainInit =
    expression.Initialiser-F Expression Initialiser LambdaBody Made Referred ArrayTree CallTree CastTree InstanceTree
    LambdaTree NewTree ReferenceTree

abbrev pub PlainBehind : Type 0
PlainBehind =
    expression.LambdaBody-F Expression Initialiser LambdaBody Made Referred ArrayTree CallTree CastTree InstanceTree
    LambdaTree NewTree ReferenceTree

abbrev pub PlainMade : Type 0
PlainMade =
    expression.Made-F Expression Initialiser LambdaBody Made Referred ArrayTree CallTree CastTree InstanceTree
    LambdaTree NewTree ReferenceTree

abbrev pub PlainBefore : Type 0
PlainBefore =
    expression.Referred-F Expression Initialiser LambdaBody Made Referred ArrayTree CallTree CastTree InstanceTree
    LambdaTree NewTree ReferenceTree

abbrev pub PlainArray : Type 0
PlainArray =
    expression.ArrayTree-F Expression Initialiser LambdaBody Made Referred ArrayTree CallTree CastTree InstanceTree
    LambdaTree NewTree ReferenceTree

abbrev pub PlainCall : Type 0
PlainCall =
    expression.CallTree-F Expression Initialiser LambdaBody Made Referred ArrayTree CallTree CastTree InstanceTree
    LambdaTree NewTree ReferenceTree

abbrev pub PlainCast : Type 0
PlainCast =
    expression.CastTree-F Expression Initialiser LambdaBody Made Referred ArrayTree CallTree CastTree InstanceTree
    LambdaTree NewTree ReferenceTree

abbrev pub PlainInstance : Type 0
PlainInstance =
    expression.InstanceTree-F Expression Initialiser LambdaBody Made Referred ArrayTree CallTree CastTree InstanceTree
    LambdaTree NewTree ReferenceTree

abbrev pub PlainLambda : Type 0
PlainLambda =
    expression.LambdaTree-F Expression Initialiser LambdaBody Made Referred ArrayTree CallTree CastTree InstanceTree
    LambdaTree NewTree ReferenceTree

abbrev pub PlainNew : Type 0
PlainNew =
    expression.NewTree-F Expression Initialiser LambdaBody Made Referred ArrayTree CallTree CastTree InstanceTree
    LambdaTree NewTree ReferenceTree

abbrev pub PlainReference : Type 0
PlainReference =
    expression.ReferenceTree-F Expression Initialiser LambdaBody Made Referred ArrayTree CallTree CastTree
    InstanceTree LambdaTree NewTree ReferenceTree

pub record TreeFact : Type 1 where
  pub OfExpr : view.Expr → Puts → Expr → Type 0
  pub OfInit : view.Init → Puts → Init → Type 0
  -- what a lambda gives, what a `new` makes, and what stands before a `::`
  pub OfBehind : viewed.Behind → Puts → Expr → Type 0
  pub OfMade : viewed.OfTy → Puts → OfNew → Type 0
  pub OfBefore : viewed.Before → Puts → Referee → Type 0
  pub OfArray : view.Array → Puts → Inits → Type 0

module _ (f : TreeFact) where
  abbrev pub HasExpr : Expression → Type 0
  HasExpr x = f.OfExpr (viewed.expr_of x) (expr_places x) (expr_of x)

  abbrev pub HasInit : Initialiser → Type 0
  HasInit x = f.OfInit (viewed.init_of x) (init_places x) (init_of x)

  abbrev pub HasBehind : LambdaBody → Type 0
  HasBehind x = f.OfBehind (viewed.behind_of x) (behind_places x) (behind_of x)

  abbrev pub HasMade : Made → Type 0
  HasMade x = f.OfMade (viewed.made_of x) (made_places x) (made_of x)

  abbrev pub HasBefore : Referred → Type 0
  HasBefore x = f.OfBefore (viewed.before_of x) (before_places x) (referred_of x)

  abbrev pub HasItems : ArrayTree → Type 0
  HasItems x = f.OfArray (viewed.array_of x) (array_places x) (items_of x)

  abbrev pub HasCall : CallTree → Type 0
  HasCall x = f.OfExpr (viewed.call_tree_of x) (call_places x) (call_tree_of x)

  abbrev pub HasCast : CastTree → Type 0
  HasCast x = f.OfExpr (viewed.cast_tree_of x) (cast_places x) (cast_tree_of x)

  abbrev pub HasInstance : InstanceTree → Type 0
  HasInstance x = f.OfExpr (viewed.instance_tree_of x) (instance_places x) (instance_tree_of x)

  abbrev pub HasLambda : LambdaTree → Type 0
  HasLambda x = f.OfExpr (viewed.lambda_tree_of x) (lambda_places x) (lambda_tree_of x)

  abbrev pub HasNew : NewTree → Type 0
  HasNew x = f.OfExpr (viewed.new_tree_of x) (new_places x) (new_tree_of x)

  abbrev pub HasReference : ReferenceTree → Type 0
  HasReference x = f.OfExpr (viewed.reference_tree_of x) (reference_places x) (reference_tree_of x)

  -- parts with what holds of them
  abbrev pub Exprs : Type 0
  Exprs = (x : Expression) × HasExpr x

  abbrev pub Initialisers : Type 0
  Initialisers = (x : Initialiser) × HasInit x

  abbrev pub Behinds : Type 0
  Behinds = (x : LambdaBody) × HasBehind x

  abbrev pub Mades : Type 0
  Mades = (x : Made) × HasMade x

  abbrev pub Befores : Type 0
  Befores = (x : Referred) × HasBefore x

  abbrev pub Arrays : Type 0
  Arrays = (x : ArrayTree) × HasItems x

  abbrev pub Calls : Type 0
  Calls = (x : CallTree) × HasCall x

  abbrev pub Casts : Type 0
  Casts = (x : CastTree) × HasCast x

  abbrev pub Instances : Type 0
  Instances = (x : InstanceTree) × HasInstance x

  abbrev pub Lambdas : Type 0
  Lambdas = (x : LambdaTree) × HasLambda x

  abbrev pub News : Type 0
  News = (x : NewTree) × HasNew x

  abbrev pub References : Type 0
  References = (x : ReferenceTree) × HasReference x

  abbrev pub Layer : Type 0
  Layer =
      expression.Expression-F Exprs Initialisers Behinds Mades Befores Arrays Calls Casts Instances Lambdas News
      References

  abbrev pub InitLayer : Type 0
  InitLayer =
      expression.Initialiser-F Exprs Initialisers Behinds Mades Befores Arrays Calls Casts Instances Lambdas News
      References

  abbrev pub BehindLayer : Type 0
  BehindLayer =
      expression.LambdaBody-F Exprs Initialisers Behinds Mades Befores Arrays Calls Casts Instances Lambdas News
      References

  abbrev pub MadeLayer : Type 0
  MadeLayer =
      expression.Made-F Exprs Initialisers Behinds Mades Befores Arrays Calls Casts Instances Lambdas News References

  abbrev pub BeforeLayer : Type 0
  BeforeLayer =
      expression.Referred-F Exprs Initialisers Behinds Mades Befores Arrays Calls Casts Instances Lambdas News
      References

  abbrev pub ArrayLayer : Type 0
  ArrayLayer =
      expression.ArrayTree-F Exprs Initialisers Behinds Mades Befores Arrays Calls Casts Instances Lambdas News
      References

  abbrev pub CallLayer : Type 0
  CallLayer =
      expression.CallTree-F Exprs Initialisers Behinds Mades Befores Arrays Calls Casts Instances Lambdas News
      References

  abbrev pub CastLayer : Type 0
  CastLayer =
      expression.CastTree-F Exprs Initialisers Behinds Mades Befores Arrays Calls Casts Instances Lambdas News
      References

  abbrev pub InstanceLayer : Type 0
  InstanceLayer =
      expression.InstanceTree-F Exprs Initialisers Behinds Mades Befores Arrays Calls Casts Instances Lambdas News
      References

  abbrev pub LambdaLayer : Type 0
  LambdaLayer =
      expression.LambdaTree-F Exprs Initialisers Behinds Mades Befores Arrays Calls Casts Instances Lambdas News
      References

  abbrev pub NewLayer : Type 0
  NewLayer =
      expression.NewTree-F Exprs Initialisers Behinds Mades Befores Arrays Calls Casts Instances Lambdas News
      References

  abbrev pub ReferenceLayer : Type 0
  ReferenceLayer =
      expression.ReferenceTree-F Exprs Initialisers Behinds Mades Befores Arrays Calls Casts Instances Lambdas News
      References

  abbrev pub plain : Layer → Plain
  plain y =
      map-Expression Exprs Initialisers Behinds Mades Befores Arrays Calls Casts Instances Lambdas News References
      Expression Initialiser LambdaBody Made Referred ArrayTree CallTree CastTree InstanceTree LambdaTree NewTree
      ReferenceTree (λ e. e.0) (λ e. e.0) (λ e. e.0) (λ e. e.0) (λ e. e.0) (λ e. e.0) (λ e. e.0) (λ e. e.0) (λ e. e.0)
      (λ e. e.0) (λ e. e.0) (λ e. e.0) y

  abbrev pub plain_init : InitLayer → PlainInit
  plain_init y =
      map-Initialiser Exprs Initialisers Behinds Mades Befores Arrays Calls Casts Instances Lambdas News References
      Expression Initialiser LambdaBody Made Referred ArrayTree CallTree CastTree InstanceTree LambdaTree NewTree
      ReferenceTree (λ e. e.0) (λ e. e.0) (λ e. e.0) (λ e. e.0) (λ e. e.0) (λ e. e.0) (λ e. e.0) (λ e. e.0) (λ e. e.0)
      (λ e. e.0) (λ e. e.0) (λ e. e.0) y

  abbrev pub plain_behind : BehindLayer → PlainBehind
  plain_behind y =
      map-LambdaBody Exprs Initialisers Behinds Mades Befores Arrays Calls Casts Instances Lambdas News References
      Expression Initialiser LambdaBody Made Referred ArrayTree CallTree CastTree InstanceTree LambdaTree NewTree
      ReferenceTree (λ e. e.0) (λ e. e.0) (λ e. e.0) (λ e. e.0) (λ e. e.0) (λ e. e.0) (λ e. e.0) (λ e. e.0) (λ e. e.0)
      (λ e. e.0) (λ e. e.0) (λ e. e.0) y

  abbrev pub plain_made : MadeLayer → PlainMade
  plain_made y =
      map-Made Exprs Initialisers Behinds Mades Befores Arrays Calls Casts Instances Lambdas News References
      Expression Initialiser LambdaBody Made Referred ArrayTree CallTree CastTree InstanceTree LambdaTree NewTree
      ReferenceTree (λ e. e.0) (λ e. e.0) (λ e. e.0) (λ e. e.0) (λ e. e.0) (λ e. e.0) (λ e. e.0) (λ e. e.0) (λ e. e.0)
      (λ e. e.0) (λ e. e.0) (λ e. e.0) y

  abbrev pub plain_before : BeforeLayer → PlainBefore
  plain_before y =
      map-Referred Exprs Initialisers Behinds Mades Befores Arrays Calls Casts Instances Lambdas News References
      Expression Initialiser LambdaBody Made Referred ArrayTree CallTree CastTree InstanceTree LambdaTree NewTree
      ReferenceTree (λ e. e.0) (λ e. e.0) (λ e. e.0) (λ e. e.0) (λ e. e.0) (λ e. e.0) (λ e. e.0) (λ e. e.0) (λ e. e.0)
      (λ e. e.0) (λ e. e.0) (λ e. e.0) y

  abbrev pub plain_array : ArrayLayer → PlainArray
  plain_array y =
      map-ArrayTree Exprs Initialisers Behinds Mades Befores Arrays Calls Casts Instances Lambdas News References
      Expression Initialiser LambdaBody Made Referred ArrayTree CallTree CastTree InstanceTree LambdaTree NewTree
      ReferenceTree (λ e. e.0) (λ e. e.0) (λ e. e.0) (λ e. e.0) (λ e. e.0) (λ e. e.0) (λ e. e.0) (λ e. e.0) (λ e. e.0)
      (λ e. e.0) (λ e. e.0) (λ e. e.0) y

  abbrev pub plain_call : CallLayer → PlainCall
  plain_call y =
      map-CallTree Exprs Initialisers Behinds Mades Befores Arrays Calls Casts Instances Lambdas News References
      Expression Initialiser LambdaBody Made Referred ArrayTree CallTree CastTree InstanceTree LambdaTree NewTree
      ReferenceTree (λ e. e.0) (λ e. e.0) (λ e. e.0) (λ e. e.0) (λ e. e.0) (λ e. e.0) (λ e. e.0) (λ e. e.0) (λ e. e.0)
      (λ e. e.0) (λ e. e.0) (λ e. e.0) y

  abbrev pub plain_cast : CastLayer → PlainCast
  plain_cast y =
      map-CastTree Exprs Initialisers Behinds Mades Befores Arrays Calls Casts Instances Lambdas News References
      Expression Initialiser LambdaBody Made Referred ArrayTree CallTree CastTree InstanceTree LambdaTree NewTree
      ReferenceTree (λ e. e.0) (λ e. e.0) (λ e. e.0) (λ e. e.0) (λ e. e.0) (λ e. e.0) (λ e. e.0) (λ e. e.0) (λ e. e.0)
      (λ e. e.0) (λ e. e.0) (λ e. e.0) y

  abbrev pub plain_instance : InstanceLayer → PlainInstance
  plain_instance y =
      map-InstanceTree Exprs Initialisers Behinds Mades Befores Arrays Calls Casts Instances Lambdas News References
      Expression Initialiser LambdaBody Made Referred ArrayTree CallTree CastTree InstanceTree LambdaTree NewTree
      ReferenceTree (λ e. e.0) (λ e. e.0) (λ e. e.0) (λ e. e.0) (λ e. e.0) (λ e. e.0) (λ e. e.0) (λ e. e.0) (λ e. e.0)
      (λ e. e.0) (λ e. e.0) (λ e. e.0) y

  abbrev pub plain_lambda : LambdaLayer → PlainLambda
  plain_lambda y =
      map-LambdaTree Exprs Initialisers Behinds Mades Befores Arrays Calls Casts Instances Lambdas News References
      Expression Initialiser LambdaBody Made Referred ArrayTree CallTree CastTree InstanceTree LambdaTree NewTree
      ReferenceTree (λ e. e.0) (λ e. e.0) (λ e. e.0) (λ e. e.0) (λ e. e.0) (λ e. e.0) (λ e. e.0) (λ e. e.0) (λ e. e.0)
      (λ e. e.0) (λ e. e.0) (λ e. e.0) y

  abbrev pub plain_new : NewLayer → PlainNew
  plain_new y =
      map-NewTree Exprs Initialisers Behinds Mades Befores Arrays Calls Casts Instances Lambdas News References
      Expression Initialiser LambdaBody Made Referred ArrayTree CallTree CastTree InstanceTree LambdaTree NewTree
      ReferenceTree (λ e. e.0) (λ e. e.0) (λ e. e.0) (λ e. e.0) (λ e. e.0) (λ e. e.0) (λ e. e.0) (λ e. e.0) (λ e. e.0)
      (λ e. e.0) (λ e. e.0) (λ e. e.0) y

  abbrev pub plain_reference : ReferenceLayer → PlainReference
  plain_reference y =
      map-ReferenceTree Exprs Initialisers Behinds Mades Befores Arrays Calls Casts Instances Lambdas News References
      Expression Initialiser LambdaBody Made Referred ArrayTree CallTree CastTree InstanceTree LambdaTree NewTree
      ReferenceTree (λ e. e.0) (λ e. e.0) (λ e. e.0) (λ e. e.0) (λ e. e.0) (λ e. e.0) (λ e. e.0) (λ e. e.0) (λ e. e.0)
      (λ e. e.0) (λ e. e.0) (λ e. e.0) y
