-- A contract of a public call rests on this: the kinds of expressions, and their code, a row a form (JLS 15, 10.6).
-- Evaluation goes from left to right (JLS 15.7).
use Rattle.std.specs.Prelude.{Bool, true, false, List, [], ◌∷◌, ◌++◌, Option, Some, None, if◌then◌else◌}
use Rattle.racer_base.specs.declared.ids.ClassId.{ClassId}
use Rattle.racer_base.specs.declared.ids.Kind.{Kind}
use Rattle.racer_base.specs.declared.ids.Kind.TheVariants.{Plain, Declared, Other}
use Rattle.java_tree.specs.declared.words.Ident.{Ident}
use Rattle.java_resolver.specs.declared.scope.Meaning.{Meaning}
use Rattle.java_resolver.specs.declared.scope.Meaning.TheVariants as means
use Rattle.java_resolver.specs.TypeKinds.{class_seen}
use Rattle.java_resolver.specs.Declarations.{class_names}
use Rattle.core_code.specs.Kinds.{same_class}
use Rattle.core_code.specs.declared.code.Op.TheVariants.{PushClass, PushPrim, PushNull, Drop, Prim, Outside}
use Rattle.core_lowering_rules.specs.Trees.{Expr, Unknown, This, ClassOf, Read, Unary, Cast, Logical, Binary}
use Rattle.core_lowering_rules.specs.Trees as tree
use Rattle.core_lowering_rules.specs.Trees.{Conditional, Assign, Combine, Count, Paren, Call, CallOn, New, NewArray}
use Rattle.core_lowering_rules.specs.Trees.{NewItems, NewBody, ThisOf, Refer, ToExpr, ToType}
use Rattle.core_lowering_rules.specs.Trees.{Access, Named, Selected, Element, NoAccess, Exprs, no_expr, expr_then}
use Rattle.core_lowering_rules.specs.Trees.{Init, Value, Items, Inits, no_init, init_then, count_exprs, count_inits}
use Rattle.core_lowering_rules.specs.ValueKinds.{ValueKind, Of, Null, common_kind}
use Rattle.core_lowering_rules.specs.Context.{Context, Code, op_at, op, choice, converted, push_this, type_kind}
use Rattle.core_lowering_rules.specs.Context.{meaning_of}
use Rattle.core_lowering_rules.specs.Assignments.{Storage, Elsewhere, kind_in, of_name, selected, element, read}
use Rattle.core_lowering_rules.specs.Assignments.{assigned}
use Rattle.core_lowering_rules.specs.Assignments.{combined, counted}
use Rattle.core_lowering_rules.specs.Touches.{touched_in, touching_call}
use Rattle.core_lowering_rules.specs.Calls.{own_callee, callee_on, result_kind, called, called_on, made}

-- ---- names of classes

abbrev pub class_meant : Meaning → Option ClassId
class_meant (means.Class c) = Some c
class_meant _ = None

-- the class that an expression before a `.` names
abbrev pub class_before : Context → Expr → Option ClassId
class_before context (Read (Named x)) = class_meant (meaning_of context x)
class_before context _ = None

-- the class of the folder that is written before `.class` or `.this`, as one name
abbrev pub class_written : Context → List Ident → Option ClassId
class_written context (x ∷ []) = class_seen context.scope.hidden (class_names context.folder.classes) x.text
class_written context _ = None

abbrev pub class_object : Context → Option ClassId → Code
class_object context None = op context (Outside 0)
class_object context (Some c) = op context (PushClass c)

-- a static method has no `this`
abbrev pub this_kind : Context → ValueKind
this_kind context = if context.scope.is_static then Of Other else Of (Declared context.scope.class)

abbrev pub this_object : Context → Code
this_object context = if context.scope.is_static then op context (Outside 0) else push_this context

-- whether names are that of the class of the method
abbrev pub is_own_class : Context → Option ClassId → Bool
is_own_class context None = false
is_own_class context (Some c) = same_class c context.scope.class

-- `this` behind names: of any other class than the method's nothing is known (JLS 15.8.4)
abbrev pub this_kind_of : Context → List Ident → ValueKind
this_kind_of context xs = if is_own_class context (class_written context xs) then this_kind context else Of Other

abbrev pub this_object_of : Context → List Ident → Code
this_object_of context xs =
    if is_own_class context (class_written context xs) then this_object context else op context (Outside 0)

-- ---- method references

abbrev pub is_value : Meaning → Bool
is_value (means.Variable v kind) = true
is_value (means.Field f) = true
is_value _ = false

-- whether what a method reference refers to is evaluated: all but a name of a class, and a name of nothing
abbrev pub is_evaluated : Context → Expr → Bool
is_evaluated context (Read (Named x)) = is_value (meaning_of context x)
is_evaluated context _ = true

-- of what has this code
abbrev pub referred : Context → (is_evaluated : Bool) → Code → Code
referred context true e = e ++ op context (Outside 1)
referred context false e = op context (Outside 0)

-- ---- kinds

abbrev mutual
  pub kind : Context → Expr → ValueKind
  kind context tree.Prim = Of Plain
  kind context Unknown = Of Other
  kind context tree.Null = Null
  kind context This = this_kind context
  kind context (ClassOf xs) = Of Other
  kind context (ThisOf xs) = this_kind_of context xs
  kind context (Refer to) = Of Other
  kind context (Read a) = access_kind context a
  kind context (Unary e) = Of Plain
  kind context (Cast t e) = Of (type_kind context t)
  kind context (Binary a b) = Of Plain
  kind context (Logical a b) = Of Plain
  kind context (Conditional c a b) = common_kind (kind context a) (kind context b)
  kind context (Assign a e) = access_kind context a
  kind context (Combine a e) = access_kind context a
  kind context (Count a) = Of Plain
  kind context (Call x es) = result_kind context (own_callee context x (count_exprs es))
  kind context (CallOn e x es) =
      result_kind context (callee_on context (class_before context e) (kind context e) x (count_exprs es))
  kind context (New place t es) = Of (type_kind context t)
  kind context (NewBody place t es) = Of (type_kind context t)
  kind context (NewArray place lengths) = Of Other
  kind context (NewItems place items) = Of Other
  kind context (Paren e) = kind context e

  -- of the left side of an assignment
  pub access_kind : Context → Access → ValueKind
  access_kind context (Named x) = kind_in (of_name context x)
  access_kind context (Selected e x) = kind_in (selected context (class_before context e) (kind context e) [] x)
  access_kind context (Element a i) = Of Other
  access_kind context NoAccess = Of Other

abbrev pub init_kind : Context → Init → ValueKind
init_kind context (Value e) = kind context e
init_kind context (Items items) = Of Other

-- ---- code

-- a cast makes a number, or what nothing is known of
abbrev pub cast : Context → Kind → Code
cast context Plain = op context (Prim 1)
cast context _ = op context (Outside 1)

abbrev mutual
  -- leaves one value
  pub code : Context → Expr → Code
  code context tree.Prim = op context PushPrim
  code context Unknown = op context (Outside 0)
  code context tree.Null = op context PushNull
  code context This = this_object context
  code context (ClassOf xs) = class_object context (class_written context xs)
  code context (ThisOf xs) = this_object_of context xs
  code context (Refer (ToExpr e)) = referred context (is_evaluated context e) (code context e)
  code context (Refer ToType) = op context (Outside 0)
  code context (Read a) = read context (storage context a)
  code context (Unary e) = code context e ++ op context (Prim 1)
  code context (Cast t e) = code context e ++ cast context (type_kind context t)
  code context (Binary a b) = code context a ++ code context b ++ op context (Prim 2)
  code context (Logical a b) =
      code context a ++ op context (Prim 1) ++ choice (code context b ++ op context (Prim 2)) []
  code context (Conditional c a b) = code context c ++ op context Drop ++ choice (code context a) (code context b)
  code context (Assign a e) = assigned context (storage context a) (kind context e) (code context e)
  code context (Combine a e) = combined context (storage context a) (code context e)
  code context (Count a) = counted context (storage context a)
  code context (Call x es) =
      called context x.place (count_exprs es) (λ kinds. passed context kinds es)
      (own_callee context x (count_exprs es))
  code context (CallOn e x es) =
      elim (touched_in context (stored context e) x (count_exprs es)) [
        | Some touched ↦ touching_call context x.place touched (count_exprs es) (passed context [] es)
        | None ↦
            called_on context x.place (class_before context e) (code context e) (count_exprs es)
            (λ kinds. passed context kinds es) (callee_on context (class_before context e) (kind context e) x
            (count_exprs es))
      ]
  code context (New place t es) =
      made context place (type_kind context t) (count_exprs es) (λ kinds. passed context kinds es)
  code context (NewBody place t es) = passed context [] es ++ op_at place (Outside (count_exprs es))
  code context (NewArray place lengths) = passed context [] lengths ++ op_at place (Outside (count_exprs lengths))
  code context (NewItems place items) = items_code context items ++ op_at place (Outside (count_inits items))
  code context (Paren e) = code context e

  -- what an expression is stored in that is written as a name, a field access or an array access
  pub stored : Context → Expr → Storage
  stored context (Read a) = storage context a
  stored context e = Elsewhere 0 []

  pub storage : Context → Access → Storage
  storage context (Named x) = of_name context x
  storage context (Selected e x) = selected context (class_before context e) (kind context e) (code context e) x
  storage context (Element a i) = element (code context a) (code context i)
  storage context NoAccess = Elsewhere 0 []

  -- arguments, converted to the kinds as far as these go
  pub passed : Context → List Kind → Exprs → Code
  passed context kinds no_expr = []
  passed context [] (expr_then e es) = code context e ++ passed context [] es
  passed context (k ∷ kinds) (expr_then e es) =
      code context e ++ converted context k (kind context e) ++ passed context kinds es

  pub init_code : Context → Init → Code
  init_code context (Value e) = code context e
  init_code context (Items items) = items_code context items ++ op context (Outside (count_inits items))

  pub items_code : Context → Inits → Code
  items_code context no_init = []
  items_code context (init_then i is) = init_code context i ++ items_code context is
