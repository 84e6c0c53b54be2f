-- The shape of an expression, as its view tells it.
use Rattle.std.proofs.Common.{◌≡◌, ℕ, true, List, ◌∷◌, Option, Some, None, codes, refl}
use Rattle.java_tree.specs.declared.words.Spelled.{Spelled}
use Rattle.java_tree.specs.Trees.{Ty, Arguments, Expr, Assign, Conditional, Binary, InstanceOf, Prefix, Cast, Postfix}
use Rattle.java_tree.specs.Trees.{Literal, This, Name, Paren, Field, Index, Call, CallOn, ClassOf, New, NewArray}
use Rattle.java_tree.specs.Trees.{NewItems}
use Rattle.java_tree.specs.Trees.{NewBody, Lambda, BlockLambda, Reference, TypeReference, SuperReference, PlainClass}
use Rattle.java_tree.specs.Trees.{ThisOf, no_expr, expr_then, Array, Braces, Inits, no_init, init_then, Init, Value}
use Rattle.java_tree.specs.Trees.{Items}
use Rattle.java_tree.specs.Trees as view
use Rattle.java_tree.specs.View.{Behind, Gives, Does, Before, OfExpr, OfType, OfSuper, lambda_of, reference_of}
use Rattle.java_tree.specs.Words.{keyword}
use Rattle.java_parser_expressions.proofs.MarkShapes.{Shape, lacking, named, each_shape, maybe_shape, ty_shape}
use Rattle.java_parser_expressions.proofs.MarkShapes.{angled_shape}

-- of the name that a method reference ends with, or of a `new` there
abbrev pub end_shape : Option (List ℕ) → Shape → Shape
end_shape None rest = lacking (keyword (codes "new")) rest
end_shape (Some x) rest = true ∷ rest

abbrev mutual
  pub expr_shape : Expr → Shape → Shape
  expr_shape (Assign a op b) rest = expr_shape a (expr_shape b rest)
  expr_shape (Conditional a b c) rest = expr_shape a (expr_shape b (expr_shape c rest))
  expr_shape (Binary a op b) rest = expr_shape a (expr_shape b rest)
  expr_shape (InstanceOf a t) rest = expr_shape a (ty_shape t rest)
  expr_shape (Prefix op a) rest = expr_shape a rest
  expr_shape (Cast ts a) rest = each_shape ty_shape ts (expr_shape a rest)
  expr_shape (Postfix a op) rest = expr_shape a rest
  expr_shape (Literal k text) rest = rest
  expr_shape This rest = rest
  expr_shape (Name x) rest = true ∷ rest
  expr_shape (Paren a) rest = expr_shape a rest
  expr_shape (Field a x) rest = expr_shape a (true ∷ rest)
  expr_shape (Index a i) rest = expr_shape a (expr_shape i rest)
  expr_shape (Call x all) rest = true ∷ exprs_shape all rest
  expr_shape (CallOn a types x all) rest =
      expr_shape a (maybe_shape angled_shape types (true ∷ exprs_shape all rest))
  expr_shape (ClassOf xs) rest = each_shape named xs rest
  expr_shape (New t all) rest = true ∷ ty_shape t (exprs_shape all rest)
  expr_shape (NewArray t lengths n) rest = true ∷ ty_shape t (exprs_shape lengths rest)
  expr_shape (NewItems t n items) rest = true ∷ ty_shape t (array_shape items rest)
  expr_shape (NewBody t all body) rest = true ∷ ty_shape t (exprs_shape all (each_shape lacking body rest))
  expr_shape (Lambda ps a) rest = each_shape lacking ps (expr_shape a rest)
  expr_shape (BlockLambda ps block) rest = each_shape lacking ps (each_shape lacking block rest)
  expr_shape (Reference a types x) rest = expr_shape a (maybe_shape angled_shape types (end_shape x rest))
  expr_shape (TypeReference t types x) rest = ty_shape t (maybe_shape angled_shape types (end_shape x rest))
  expr_shape (SuperReference types x) rest = maybe_shape angled_shape types (end_shape x rest)
  expr_shape (PlainClass t) rest = ty_shape t rest
  expr_shape (ThisOf xs) rest = each_shape named xs rest

  pub exprs_shape : view.Exprs → Shape → Shape
  exprs_shape no_expr rest = rest
  exprs_shape (expr_then e es) rest = expr_shape e (exprs_shape es rest)

  pub array_shape : Array → Shape → Shape
  array_shape (Braces is last_comma) rest = inits_shape is rest

  pub inits_shape : Inits → Shape → Shape
  inits_shape no_init rest = rest
  inits_shape (init_then i is) rest = init_shape i (inits_shape is rest)

  pub init_shape : Init → Shape → Shape
  init_shape (Value e) rest = expr_shape e rest
  init_shape (Items items) rest = array_shape items rest

abbrev pub behind_shape : Behind → Shape → Shape
behind_shape (Gives a) rest = expr_shape a rest
behind_shape (Does block) rest = each_shape lacking block rest

abbrev pub before_shape : Before → Shape → Shape
before_shape (OfExpr a) rest = expr_shape a rest
before_shape (OfType t) rest = ty_shape t rest
before_shape OfSuper rest = rest

pub lambda_is : (ps : List Spelled) (b : Behind) (s : Shape) → each_shape lacking ps (behind_shape b s)
    ≡ expr_shape (lambda_of ps b) s
lambda_is ps (Gives a) s = refl
lambda_is ps (Does block) s = refl

pub reference_is : (b : Before) (types : Option Arguments) (x : Option (List ℕ)) (s : Shape)
    → before_shape b (maybe_shape angled_shape types (end_shape x s)) ≡ expr_shape (reference_of b types x) s
reference_is (OfExpr a) types x s = refl
reference_is (OfType t) types x s = refl
reference_is OfSuper types x s = refl
