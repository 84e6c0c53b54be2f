-- Expressions with what holds of them: their marks have the shape that their view tells.
use Rattle.std.proofs.Common.{◌≡◌, true, ◌∷◌}
use Rattle.java_tree.specs.declared.expressions.Expression.{Expression, map-Expression}
use Rattle.java_tree.specs.declared.expressions.Initialiser.{Initialiser, map-Initialiser}
use Rattle.java_tree.specs.declared.expressions.LambdaBody.{LambdaBody, map-LambdaBody}
use Rattle.java_tree.specs.declared.expressions.Made.{Made, map-Made}
use Rattle.java_tree.specs.declared.expressions.Referred.{Referred, map-Referred}
use Rattle.java_tree.specs.declared.expressions.ArrayTree.{ArrayTree, map-ArrayTree}
use Rattle.java_tree.specs.declared.expressions.CallTree.{CallTree, map-CallTree}
use Rattle.java_tree.specs.declared.expressions.CastTree.{CastTree, map-CastTree}
use Rattle.java_tree.specs.declared.expressions.InstanceTree.{InstanceTree, map-InstanceTree}
use Rattle.java_tree.specs.declared.expressions.LambdaTree.{LambdaTree, map-LambdaTree}
use Rattle.java_tree.specs.declared.expressions.NewTree.{NewTree, map-NewTree}
use Rattle.java_tree.specs.declared.expressions.ReferenceTree.{ReferenceTree, map-ReferenceTree}
use Rattle.java_tree.specs.declared.expressions.Expression.TheOpen as expression
use Rattle.java_tree.specs.KeptPlaces.{Marks, Puts, expr_places, init_places, behind_places, made_places, before_places}
use Rattle.java_tree.specs.KeptPlaces.{array_places, call_places, cast_places, instance_places, lambda_places}
use Rattle.java_tree.specs.KeptPlaces.{new_places, reference_places}
use Rattle.java_tree.specs.KeptPlaces as kept
use Rattle.java_tree.specs.Trees.{Ty, Expr, Array, Init}
use Rattle.java_tree.specs.View.{OfTy, Behind, Before, expr_of, init_of, behind_of, made_of, before_of, array_of}
use Rattle.java_tree.specs.View.{call_tree_of, cast_tree_of, instance_tree_of, lambda_tree_of, new_tree_of}
use Rattle.java_tree.specs.View.{reference_tree_of}
use Rattle.java_tree.specs.View as viewed
use Rattle.java_parser_expressions.proofs.MarkShapes.{Shape, shape_of, Fits, ty_shape}
use Rattle.java_parser_expressions.proofs.ViewShapes.{expr_shape, init_shape, behind_shape, before_shape, array_shape}

abbrev pub HasExpression : Expression → Type 0
HasExpression x = Fits (expr_places x) (expr_shape (expr_of x))

abbrev pub HasInitialiser : Initialiser → Type 0
HasInitialiser x = Fits (init_places x) (init_shape (init_of x))

abbrev pub HasLambdaBody : LambdaBody → Type 0
HasLambdaBody x = Fits (behind_places x) (behind_shape (behind_of x))

abbrev pub HasMade : Made → Type 0
HasMade m =
    (t : Ty) (rest : Marks) → ◌≡◌ {A = Shape} (true ∷ ty_shape t (shape_of (made_places m rest))) (expr_shape
    (made_of m t) (shape_of rest))

abbrev pub HasReferred : Referred → Type 0
HasReferred x = Fits (before_places x) (before_shape (before_of x))

abbrev pub HasArrayTree : ArrayTree → Type 0
HasArrayTree x = Fits (array_places x) (array_shape (array_of x))

abbrev pub HasCallTree : CallTree → Type 0
HasCallTree x = Fits (call_places x) (expr_shape (call_tree_of x))

abbrev pub HasCastTree : CastTree → Type 0
HasCastTree x = Fits (cast_places x) (expr_shape (cast_tree_of x))

abbrev pub HasInstanceTree : InstanceTree → Type 0
HasInstanceTree x = Fits (instance_places x) (expr_shape (instance_tree_of x))

abbrev pub HasLambdaTree : LambdaTree → Type 0
HasLambdaTree x = Fits (lambda_places x) (expr_shape (lambda_tree_of x))

abbrev pub HasNewTree : NewTree → Type 0
HasNewTree x = Fits (new_places x) (expr_shape (new_tree_of x))

abbrev pub HasReferenceTree : ReferenceTree → Type 0
HasReferenceTree x = Fits (reference_places x) (expr_shape (reference_tree_of x))

abbrev pub Exprs : Type 0
Exprs = (x : Expression) × HasExpression x

abbrev pub Initials : Type 0
Initials = (x : Initialiser) × HasInitialiser x

abbrev pub Behinds : Type 0
Behinds = (x : LambdaBody) × HasLambdaBody x

abbrev pub Mades : Type 0
Mades = (x : Made) × HasMade x

abbrev pub Befores : Type 0
Befores = (x : Referred) × HasReferred x

abbrev pub Arrays : Type 0
Arrays = (x : ArrayTree) × HasArrayTree x

abbrev pub Calls : Type 0
Calls = (x : CallTree) × HasCallTree x

abbrev pub Casts : Type 0
Casts = (x : CastTree) × HasCastTree x

abbrev pub Instances : Type 0
Instances = (x : InstanceTree) × HasInstanceTree x

abbrev pub Lambdas : Type 0
Lambdas = (x : LambdaTree) × HasLambdaTree x

abbrev pub News : Type 0
News = (x : NewTree) × HasNewTree x

abbrev pub References : Type 0
References = (x : ReferenceTree) × HasReferenceTree x

-- ---- layers

abbrev pub ExpressionLayer : Type 0
ExpressionLayer = expression.Expression-F Exprs Initials Behinds Mades Befores Arrays Calls Casts Instances
    Lambdas News References

abbrev pub ExpressionPlain : Type 0
ExpressionPlain = expression.Expression-F Expression Initialiser LambdaBody Made Referred ArrayTree CallTree
    CastTree InstanceTree LambdaTree NewTree ReferenceTree

abbrev pub plain_expr : ExpressionLayer → ExpressionPlain
plain_expr y = map-Expression Exprs Initials Behinds Mades Befores Arrays Calls Casts Instances Lambdas News
    References Expression Initialiser LambdaBody Made Referred ArrayTree CallTree CastTree InstanceTree
    LambdaTree NewTree ReferenceTree (λ e. e.0) (λ e. e.0) (λ e. e.0) (λ e. e.0) (λ e. e.0) (λ e. e.0) (λ e. e.0)
    (λ e. e.0) (λ e. e.0) (λ e. e.0) (λ e. e.0) (λ e. e.0) y

abbrev pub expr_puts : ExpressionPlain → Puts
expr_puts x = kept.expr_step (map-Expression Expression Initialiser LambdaBody Made Referred ArrayTree CallTree
    CastTree InstanceTree LambdaTree NewTree ReferenceTree Puts Puts Puts Puts Puts Puts Puts Puts Puts Puts Puts
    Puts expr_places init_places behind_places made_places before_places array_places call_places cast_places
    instance_places lambda_places new_places reference_places x)

abbrev pub expr_view : ExpressionPlain → Expr
expr_view x = viewed.expr_step (map-Expression Expression Initialiser LambdaBody Made Referred ArrayTree CallTree
    CastTree InstanceTree LambdaTree NewTree ReferenceTree Expr Init Behind OfTy Before Array Expr Expr Expr Expr
    Expr Expr expr_of init_of behind_of made_of before_of array_of call_tree_of cast_tree_of instance_tree_of
    lambda_tree_of new_tree_of reference_tree_of x)

abbrev pub InitialiserLayer : Type 0
InitialiserLayer = expression.Initialiser-F Exprs Initials Behinds Mades Befores Arrays Calls Casts Instances
    Lambdas News References

abbrev pub InitialiserPlain : Type 0
InitialiserPlain = expression.Initialiser-F Expression Initialiser LambdaBody Made Referred ArrayTree CallTree
    CastTree InstanceTree LambdaTree NewTree ReferenceTree

abbrev pub plain_init : InitialiserLayer → InitialiserPlain
plain_init y = map-Initialiser Exprs Initials Behinds Mades Befores Arrays Calls Casts Instances Lambdas News
    References Expression Initialiser LambdaBody Made Referred ArrayTree CallTree CastTree InstanceTree
    LambdaTree NewTree ReferenceTree (λ e. e.0) (λ e. e.0) (λ e. e.0) (λ e. e.0) (λ e. e.0) (λ e. e.0) (λ e. e.0)
    (λ e. e.0) (λ e. e.0) (λ e. e.0) (λ e. e.0) (λ e. e.0) y

abbrev pub init_puts : InitialiserPlain → Puts
init_puts x = kept.init_step (map-Initialiser Expression Initialiser LambdaBody Made Referred ArrayTree CallTree
    CastTree InstanceTree LambdaTree NewTree ReferenceTree Puts Puts Puts Puts Puts Puts Puts Puts Puts Puts Puts
    Puts expr_places init_places behind_places made_places before_places array_places call_places cast_places
    instance_places lambda_places new_places reference_places x)

abbrev pub init_view : InitialiserPlain → Init
init_view x = viewed.init_step (map-Initialiser Expression Initialiser LambdaBody Made Referred ArrayTree
    CallTree CastTree InstanceTree LambdaTree NewTree ReferenceTree Expr Init Behind OfTy Before Array Expr Expr
    Expr Expr Expr Expr expr_of init_of behind_of made_of before_of array_of call_tree_of cast_tree_of
    instance_tree_of lambda_tree_of new_tree_of reference_tree_of x)

abbrev pub LambdaBodyLayer : Type 0
LambdaBodyLayer = expression.LambdaBody-F Exprs Initials Behinds Mades Befores Arrays Calls Casts Instances
    Lambdas News References

abbrev pub LambdaBodyPlain : Type 0
LambdaBodyPlain = expression.LambdaBody-F Expression Initialiser LambdaBody Made Referred ArrayTree CallTree
    CastTree InstanceTree LambdaTree NewTree ReferenceTree

abbrev pub plain_behind : LambdaBodyLayer → LambdaBodyPlain
plain_behind y = map-LambdaBody Exprs Initials Behinds Mades Befores Arrays Calls Casts Instances Lambdas News
    References Expression Initialiser LambdaBody Made Referred ArrayTree CallTree CastTree InstanceTree
    LambdaTree NewTree ReferenceTree (λ e. e.0) (λ e. e.0) (λ e. e.0) (λ e. e.0) (λ e. e.0) (λ e. e.0) (λ e. e.0)
    (λ e. e.0) (λ e. e.0) (λ e. e.0) (λ e. e.0) (λ e. e.0) y

abbrev pub behind_puts : LambdaBodyPlain → Puts
behind_puts x = kept.behind_step (map-LambdaBody Expression Initialiser LambdaBody Made Referred ArrayTree
    CallTree CastTree InstanceTree LambdaTree NewTree ReferenceTree Puts Puts Puts Puts Puts Puts Puts Puts Puts
    Puts Puts Puts expr_places init_places behind_places made_places before_places array_places call_places
    cast_places instance_places lambda_places new_places reference_places x)

abbrev pub behind_view : LambdaBodyPlain → Behind
behind_view x = viewed.behind_step (map-LambdaBody Expression Initialiser LambdaBody Made Referred ArrayTree
    CallTree CastTree InstanceTree LambdaTree NewTree ReferenceTree Expr Init Behind OfTy Before Array Expr Expr
    Expr Expr Expr Expr expr_of init_of behind_of made_of before_of array_of call_tree_of cast_tree_of
    instance_tree_of lambda_tree_of new_tree_of reference_tree_of x)

abbrev pub MadeLayer : Type 0
MadeLayer = expression.Made-F Exprs Initials Behinds Mades Befores Arrays Calls Casts Instances Lambdas News References

abbrev pub MadePlain : Type 0
MadePlain = expression.Made-F Expression Initialiser LambdaBody Made Referred ArrayTree CallTree CastTree
    InstanceTree LambdaTree NewTree ReferenceTree

abbrev pub plain_made : MadeLayer → MadePlain
plain_made y = map-Made Exprs Initials Behinds Mades Befores Arrays Calls Casts Instances Lambdas News References
    Expression Initialiser LambdaBody Made Referred ArrayTree CallTree CastTree InstanceTree LambdaTree NewTree
    ReferenceTree (λ e. e.0) (λ e. e.0) (λ e. e.0) (λ e. e.0) (λ e. e.0) (λ e. e.0) (λ e. e.0) (λ e. e.0)
    (λ e. e.0) (λ e. e.0) (λ e. e.0) (λ e. e.0) y

abbrev pub made_puts : MadePlain → Puts
made_puts x = kept.made_step (map-Made Expression Initialiser LambdaBody Made Referred ArrayTree CallTree
    CastTree InstanceTree LambdaTree NewTree ReferenceTree Puts Puts Puts Puts Puts Puts Puts Puts Puts Puts Puts
    Puts expr_places init_places behind_places made_places before_places array_places call_places cast_places
    instance_places lambda_places new_places reference_places x)

abbrev pub made_view : MadePlain → OfTy
made_view x = viewed.made_step (map-Made Expression Initialiser LambdaBody Made Referred ArrayTree CallTree
    CastTree InstanceTree LambdaTree NewTree ReferenceTree Expr Init Behind OfTy Before Array Expr Expr Expr Expr
    Expr Expr expr_of init_of behind_of made_of before_of array_of call_tree_of cast_tree_of instance_tree_of
    lambda_tree_of new_tree_of reference_tree_of x)

abbrev pub ReferredLayer : Type 0
ReferredLayer = expression.Referred-F Exprs Initials Behinds Mades Befores Arrays Calls Casts Instances Lambdas
    News References

abbrev pub ReferredPlain : Type 0
ReferredPlain = expression.Referred-F Expression Initialiser LambdaBody Made Referred ArrayTree CallTree CastTree
    InstanceTree LambdaTree NewTree ReferenceTree

abbrev pub plain_before : ReferredLayer → ReferredPlain
plain_before y = map-Referred Exprs Initials Behinds Mades Befores Arrays Calls Casts Instances Lambdas News
    References Expression Initialiser LambdaBody Made Referred ArrayTree CallTree CastTree InstanceTree
    LambdaTree NewTree ReferenceTree (λ e. e.0) (λ e. e.0) (λ e. e.0) (λ e. e.0) (λ e. e.0) (λ e. e.0) (λ e. e.0)
    (λ e. e.0) (λ e. e.0) (λ e. e.0) (λ e. e.0) (λ e. e.0) y

abbrev pub before_puts : ReferredPlain → Puts
before_puts x = kept.before_step (map-Referred Expression Initialiser LambdaBody Made Referred ArrayTree CallTree
    CastTree InstanceTree LambdaTree NewTree ReferenceTree Puts Puts Puts Puts Puts Puts Puts Puts Puts Puts Puts
    Puts expr_places init_places behind_places made_places before_places array_places call_places cast_places
    instance_places lambda_places new_places reference_places x)

abbrev pub before_view : ReferredPlain → Before
before_view x = viewed.before_step (map-Referred Expression Initialiser LambdaBody Made Referred ArrayTree
    CallTree CastTree InstanceTree LambdaTree NewTree ReferenceTree Expr Init Behind OfTy Before Array Expr Expr
    Expr Expr Expr Expr expr_of init_of behind_of made_of before_of array_of call_tree_of cast_tree_of
    instance_tree_of lambda_tree_of new_tree_of reference_tree_of x)

abbrev pub ArrayTreeLayer : Type 0
ArrayTreeLayer = expression.ArrayTree-F Exprs Initials Behinds Mades Befores Arrays Calls Casts Instances Lambdas
    News References

abbrev pub ArrayTreePlain : Type 0
ArrayTreePlain = expression.ArrayTree-F Expression Initialiser LambdaBody Made Referred ArrayTree CallTree
    CastTree InstanceTree LambdaTree NewTree ReferenceTree

abbrev pub plain_array : ArrayTreeLayer → ArrayTreePlain
plain_array y = map-ArrayTree Exprs Initials Behinds Mades Befores Arrays Calls Casts Instances Lambdas News
    References Expression Initialiser LambdaBody Made Referred ArrayTree CallTree CastTree InstanceTree
    LambdaTree NewTree ReferenceTree (λ e. e.0) (λ e. e.0) (λ e. e.0) (λ e. e.0) (λ e. e.0) (λ e. e.0) (λ e. e.0)
    (λ e. e.0) (λ e. e.0) (λ e. e.0) (λ e. e.0) (λ e. e.0) y

abbrev pub array_puts : ArrayTreePlain → Puts
array_puts x = kept.array_step (map-ArrayTree Expression Initialiser LambdaBody Made Referred ArrayTree CallTree
    CastTree InstanceTree LambdaTree NewTree ReferenceTree Puts Puts Puts Puts Puts Puts Puts Puts Puts Puts Puts
    Puts expr_places init_places behind_places made_places before_places array_places call_places cast_places
    instance_places lambda_places new_places reference_places x)

abbrev pub array_view : ArrayTreePlain → Array
array_view x = viewed.array_step (map-ArrayTree Expression Initialiser LambdaBody Made Referred ArrayTree
    CallTree CastTree InstanceTree LambdaTree NewTree ReferenceTree Expr Init Behind OfTy Before Array Expr Expr
    Expr Expr Expr Expr expr_of init_of behind_of made_of before_of array_of call_tree_of cast_tree_of
    instance_tree_of lambda_tree_of new_tree_of reference_tree_of x)

abbrev pub CallTreeLayer : Type 0
CallTreeLayer = expression.CallTree-F Exprs Initials Behinds Mades Befores Arrays Calls Casts Instances Lambdas
    News References

abbrev pub CallTreePlain : Type 0
CallTreePlain = expression.CallTree-F Expression Initialiser LambdaBody Made Referred ArrayTree CallTree CastTree
    InstanceTree LambdaTree NewTree ReferenceTree

abbrev pub plain_call : CallTreeLayer → CallTreePlain
plain_call y = map-CallTree Exprs Initials Behinds Mades Befores Arrays Calls Casts Instances Lambdas News
    References Expression Initialiser LambdaBody Made Referred ArrayTree CallTree CastTree InstanceTree
    LambdaTree NewTree ReferenceTree (λ e. e.0) (λ e. e.0) (λ e. e.0) (λ e. e.0) (λ e. e.0) (λ e. e.0) (λ e. e.0)
    (λ e. e.0) (λ e. e.0) (λ e. e.0) (λ e. e.0) (λ e. e.0) y

abbrev pub call_puts : CallTreePlain → Puts
call_puts x = kept.call_step (map-CallTree Expression Initialiser LambdaBody Made Referred ArrayTree CallTree
    CastTree InstanceTree LambdaTree NewTree ReferenceTree Puts Puts Puts Puts Puts Puts Puts Puts Puts Puts Puts
    Puts expr_places init_places behind_places made_places before_places array_places call_places cast_places
    instance_places lambda_places new_places reference_places x)

abbrev pub call_view : CallTreePlain → Expr
call_view x = viewed.call_step (map-CallTree Expression Initialiser LambdaBody Made Referred ArrayTree CallTree
    CastTree InstanceTree LambdaTree NewTree ReferenceTree Expr Init Behind OfTy Before Array Expr Expr Expr Expr
    Expr Expr expr_of init_of behind_of made_of before_of array_of call_tree_of cast_tree_of instance_tree_of
    lambda_tree_of new_tree_of reference_tree_of x)

abbrev pub CastTreeLayer : Type 0
CastTreeLayer = expression.CastTree-F Exprs Initials Behinds Mades Befores Arrays Calls Casts Instances Lambdas
    News References

abbrev pub CastTreePlain : Type 0
CastTreePlain = expression.CastTree-F Expression Initialiser LambdaBody Made Referred ArrayTree CallTree CastTree
    InstanceTree LambdaTree NewTree ReferenceTree

abbrev pub plain_cast : CastTreeLayer → CastTreePlain
plain_cast y = map-CastTree Exprs Initials Behinds Mades Befores Arrays Calls Casts Instances Lambdas News
    References Expression Initialiser LambdaBody Made Referred ArrayTree CallTree CastTree InstanceTree
    LambdaTree NewTree ReferenceTree (λ e. e.0) (λ e. e.0) (λ e. e.0) (λ e. e.0) (λ e. e.0) (λ e. e.0) (λ e. e.0)
    (λ e. e.0) (λ e. e.0) (λ e. e.0) (λ e. e.0) (λ e. e.0) y

abbrev pub cast_puts : CastTreePlain → Puts
cast_puts x = kept.cast_step (map-CastTree Expression Initialiser LambdaBody Made Referred ArrayTree CallTree
    CastTree InstanceTree LambdaTree NewTree ReferenceTree Puts Puts Puts Puts Puts Puts Puts Puts Puts Puts Puts
    Puts expr_places init_places behind_places made_places before_places array_places call_places cast_places
    instance_places lambda_places new_places reference_places x)

abbrev pub cast_view : CastTreePlain → Expr
cast_view x = viewed.cast_step (map-CastTree Expression Initialiser LambdaBody Made Referred ArrayTree CallTree
    CastTree InstanceTree LambdaTree NewTree ReferenceTree Expr Init Behind OfTy Before Array Expr Expr Expr Expr
    Expr Expr expr_of init_of behind_of made_of before_of array_of call_tree_of cast_tree_of instance_tree_of
    lambda_tree_of new_tree_of reference_tree_of x)

abbrev pub InstanceTreeLayer : Type 0
InstanceTreeLayer = expression.InstanceTree-F Exprs Initials Behinds Mades Befores Arrays Calls Casts Instances
    Lambdas News References

abbrev pub InstanceTreePlain : Type 0
InstanceTreePlain = expression.InstanceTree-F Expression Initialiser LambdaBody Made Referred ArrayTree CallTree
    CastTree InstanceTree LambdaTree NewTree ReferenceTree

abbrev pub plain_instance : InstanceTreeLayer → InstanceTreePlain
plain_instance y = map-InstanceTree Exprs Initials Behinds Mades Befores Arrays Calls Casts Instances Lambdas
    News References Expression Initialiser LambdaBody Made Referred ArrayTree CallTree CastTree InstanceTree
    LambdaTree NewTree ReferenceTree (λ e. e.0) (λ e. e.0) (λ e. e.0) (λ e. e.0) (λ e. e.0) (λ e. e.0) (λ e. e.0)
    (λ e. e.0) (λ e. e.0) (λ e. e.0) (λ e. e.0) (λ e. e.0) y

abbrev pub instance_puts : InstanceTreePlain → Puts
instance_puts x = kept.instance_step (map-InstanceTree Expression Initialiser LambdaBody Made Referred ArrayTree
    CallTree CastTree InstanceTree LambdaTree NewTree ReferenceTree Puts Puts Puts Puts Puts Puts Puts Puts Puts
    Puts Puts Puts expr_places init_places behind_places made_places before_places array_places call_places
    cast_places instance_places lambda_places new_places reference_places x)

abbrev pub instance_view : InstanceTreePlain → Expr
instance_view x = viewed.instance_step (map-InstanceTree Expression Initialiser LambdaBody Made Referred
    ArrayTree CallTree CastTree InstanceTree LambdaTree NewTree ReferenceTree Expr Init Behind OfTy Before Array
    Expr Expr Expr Expr Expr Expr expr_of init_of behind_of made_of before_of array_of call_tree_of cast_tree_of
    instance_tree_of lambda_tree_of new_tree_of reference_tree_of x)

abbrev pub LambdaTreeLayer : Type 0
LambdaTreeLayer = expression.LambdaTree-F Exprs Initials Behinds Mades Befores Arrays Calls Casts Instances
    Lambdas News References

abbrev pub LambdaTreePlain : Type 0
LambdaTreePlain = expression.LambdaTree-F Expression Initialiser LambdaBody Made Referred ArrayTree CallTree
    CastTree InstanceTree LambdaTree NewTree ReferenceTree

abbrev pub plain_lambda : LambdaTreeLayer → LambdaTreePlain
plain_lambda y = map-LambdaTree Exprs Initials Behinds Mades Befores Arrays Calls Casts Instances Lambdas News
    References Expression Initialiser LambdaBody Made Referred ArrayTree CallTree CastTree InstanceTree
    LambdaTree NewTree ReferenceTree (λ e. e.0) (λ e. e.0) (λ e. e.0) (λ e. e.0) (λ e. e.0) (λ e. e.0) (λ e. e.0)
    (λ e. e.0) (λ e. e.0) (λ e. e.0) (λ e. e.0) (λ e. e.0) y

abbrev pub lambda_puts : LambdaTreePlain → Puts
lambda_puts x = kept.lambda_step (map-LambdaTree Expression Initialiser LambdaBody Made Referred ArrayTree
    CallTree CastTree InstanceTree LambdaTree NewTree ReferenceTree Puts Puts Puts Puts Puts Puts Puts Puts Puts
    Puts Puts Puts expr_places init_places behind_places made_places before_places array_places call_places
    cast_places instance_places lambda_places new_places reference_places x)

abbrev pub lambda_view : LambdaTreePlain → Expr
lambda_view x = viewed.lambda_step (map-LambdaTree Expression Initialiser LambdaBody Made Referred ArrayTree
    CallTree CastTree InstanceTree LambdaTree NewTree ReferenceTree Expr Init Behind OfTy Before Array Expr Expr
    Expr Expr Expr Expr expr_of init_of behind_of made_of before_of array_of call_tree_of cast_tree_of
    instance_tree_of lambda_tree_of new_tree_of reference_tree_of x)

abbrev pub NewTreeLayer : Type 0
NewTreeLayer = expression.NewTree-F Exprs Initials Behinds Mades Befores Arrays Calls Casts Instances Lambdas
    News References

abbrev pub NewTreePlain : Type 0
NewTreePlain = expression.NewTree-F Expression Initialiser LambdaBody Made Referred ArrayTree CallTree CastTree
    InstanceTree LambdaTree NewTree ReferenceTree

abbrev pub plain_new : NewTreeLayer → NewTreePlain
plain_new y = map-NewTree Exprs Initials Behinds Mades Befores Arrays Calls Casts Instances Lambdas News
    References Expression Initialiser LambdaBody Made Referred ArrayTree CallTree CastTree InstanceTree
    LambdaTree NewTree ReferenceTree (λ e. e.0) (λ e. e.0) (λ e. e.0) (λ e. e.0) (λ e. e.0) (λ e. e.0) (λ e. e.0)
    (λ e. e.0) (λ e. e.0) (λ e. e.0) (λ e. e.0) (λ e. e.0) y

abbrev pub new_puts : NewTreePlain → Puts
new_puts x = kept.new_step (map-NewTree Expression Initialiser LambdaBody Made Referred ArrayTree CallTree
    CastTree InstanceTree LambdaTree NewTree ReferenceTree Puts Puts Puts Puts Puts Puts Puts Puts Puts Puts Puts
    Puts expr_places init_places behind_places made_places before_places array_places call_places cast_places
    instance_places lambda_places new_places reference_places x)

abbrev pub new_view : NewTreePlain → Expr
new_view x = viewed.new_step (map-NewTree Expression Initialiser LambdaBody Made Referred ArrayTree CallTree
    CastTree InstanceTree LambdaTree NewTree ReferenceTree Expr Init Behind OfTy Before Array Expr Expr Expr Expr
    Expr Expr expr_of init_of behind_of made_of before_of array_of call_tree_of cast_tree_of instance_tree_of
    lambda_tree_of new_tree_of reference_tree_of x)

abbrev pub ReferenceTreeLayer : Type 0
ReferenceTreeLayer = expression.ReferenceTree-F Exprs Initials Behinds Mades Befores Arrays Calls Casts Instances
    Lambdas News References

abbrev pub ReferenceTreePlain : Type 0
ReferenceTreePlain = expression.ReferenceTree-F Expression Initialiser LambdaBody Made Referred ArrayTree
    CallTree CastTree InstanceTree LambdaTree NewTree ReferenceTree

abbrev pub plain_reference : ReferenceTreeLayer → ReferenceTreePlain
plain_reference y = map-ReferenceTree Exprs Initials Behinds Mades Befores Arrays Calls Casts Instances Lambdas
    News References Expression Initialiser LambdaBody Made Referred ArrayTree CallTree CastTree InstanceTree
    LambdaTree NewTree ReferenceTree (λ e. e.0) (λ e. e.0) (λ e. e.0) (λ e. e.0) (λ e. e.0) (λ e. e.0) (λ e. e.0)
    (λ e. e.0) (λ e. e.0) (λ e. e.0) (λ e. e.0) (λ e. e.0) y

abbrev pub reference_puts : ReferenceTreePlain → Puts
reference_puts x = kept.reference_step (map-ReferenceTree Expression Initialiser LambdaBody Made Referred
    ArrayTree CallTree CastTree InstanceTree LambdaTree NewTree ReferenceTree Puts Puts Puts Puts Puts Puts Puts
    Puts Puts Puts Puts Puts expr_places init_places behind_places made_places before_places array_places
    call_places cast_places instance_places lambda_places new_places reference_places x)

abbrev pub reference_view : ReferenceTreePlain → Expr
reference_view x = viewed.reference_step (map-ReferenceTree Expression Initialiser LambdaBody Made Referred
    ArrayTree CallTree CastTree InstanceTree LambdaTree NewTree ReferenceTree Expr Init Behind OfTy Before Array
    Expr Expr Expr Expr Expr Expr expr_of init_of behind_of made_of before_of array_of call_tree_of cast_tree_of
    instance_tree_of lambda_tree_of new_tree_of reference_tree_of x)
