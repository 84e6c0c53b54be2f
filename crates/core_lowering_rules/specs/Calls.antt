-- A contract of a public call rests on this: calls and object creations (JLS 15.9, 15.12), with the code of what stands
-- before the name and of the arguments.
use Rattle.std.specs.Prelude.{ℕ, suc, ◌-◌, ◌==◌, Bool, true, false, List, [], ◌++◌, Option, Some, None, length}
use Rattle.std.specs.Prelude.{take, if◌then◌else◌, slice_get}
use Rattle.racer_base.specs.declared.ids.ClassId.{ClassId}
use Rattle.racer_base.specs.declared.ids.MethodId.{MethodId}
use Rattle.racer_base.specs.declared.ids.Kind.{Kind}
use Rattle.racer_base.specs.declared.ids.Kind.TheVariants.{Declared, Other}
use Rattle.racer_base.specs.declared.ids.Place.{Place}
use Rattle.java_tree.specs.declared.words.Ident.{Ident}
use Rattle.java_resolver.specs.declared.infos.MethodInfo.{MethodInfo}
use Rattle.java_resolver.specs.Declarations.{constructor_name}
use Rattle.java_resolver.specs.Meanings.{found}
use Rattle.core_code.specs.declared.code.Op.TheVariants.{New, Drop, Outside, Call, Unread}
use Rattle.core_lowering_rules.specs.ValueKinds.{ValueKind, Of}
use Rattle.core_lowering_rules.specs.Context.{Context, Code, op_at, op, push_this, is_analysed}

-- ---- what is called

-- none of the folder's; a static method, or one of an object
pub data Callee : Type 0 where
  Missing : Callee
  OfClass : MethodId → Callee
  OfObject : MethodId → Callee

abbrev pub info_at : Context → MethodId → Option MethodInfo
info_at context m = slice_get context.folder.methods m.0

abbrev pub callee_of : MethodId → Option MethodInfo → Callee
callee_of m None = Missing
callee_of m (Some info) = if info.is_static then OfClass m else OfObject m

abbrev pub callee_found : Context → Option MethodId → Callee
callee_found context None = Missing
callee_found context (Some m) = callee_of m (info_at context m)

-- the method of a class that a call of its name with so many arguments means
abbrev pub callee_in : Context → ClassId → List ℕ → ℕ → Callee
callee_in context c name count = callee_found context (found context.folder.methods c name count)

-- where there is no object
abbrev pub if_static : Callee → Callee
if_static (OfClass m) = OfClass m
if_static _ = Missing

-- f(..)
abbrev pub own_callee : Context → Ident → ℕ → Callee
own_callee context x count =
    if context.scope.is_static then if_static (callee_in context context.scope.class x.text count)
    else callee_in context context.scope.class x.text count

-- e.f(..), where e has this kind
abbrev pub callee_of_value : Context → ValueKind → Ident → ℕ → Callee
callee_of_value context (Of (Declared c)) x count = callee_in context c x.text count
callee_of_value context _ x count = Missing

-- the same, where the class that e names stands first
abbrev pub callee_on : Context → Option ClassId → ValueKind → Ident → ℕ → Callee
callee_on context (Some c) kind x count = if_static (callee_in context c x.text count)
callee_on context None kind x count = callee_of_value context kind x count

abbrev pub result_of : Option MethodInfo → ValueKind
result_of None = Of Other
result_of (Some info) = Of info.result

abbrev pub result_kind : Context → Callee → ValueKind
result_kind context Missing = Of Other
result_kind context (OfClass m) = result_of (info_at context m)
result_kind context (OfObject m) = result_of (info_at context m)

-- ---- the call

-- the arguments, converted to kinds
abbrev pub Passing : Type 0
Passing = List Kind → Code

abbrev pub parameters_of : Option MethodInfo → List Kind
parameters_of None = []
parameters_of (Some info) = info.parameters

-- what arguments of this number are converted to where these are the kinds of the parameters: where the two are others
-- in number, those that the last parameter takes to nothing (JLS 15.12.4.2)
abbrev pub given_kinds : ℕ → List Kind → List Kind
given_kinds n kinds = if n == length kinds then kinds else take (length kinds - 1) kinds

-- those of a method that is not analysed are converted to nothing
abbrev pub parameter_kinds : Context → MethodId → ℕ → List Kind
parameter_kinds context m n =
    if is_analysed context m then given_kinds n (parameters_of (info_at context m)) else []

-- how many values these are with the object that a method is called on
abbrev pub with_object : (has_object : Bool) → ℕ → ℕ
with_object true n = suc n
with_object false n = n

-- where the arguments and the parameters are others in number, the last parameter takes one value, which is made of
-- those that are left
abbrev pub gathered : Context → (arguments parameters : ℕ) → Code
gathered context n parameters = if n == parameters then [] else op context (Outside (n - (parameters - 1)))

abbrev pub call_of : Context → Place → MethodId → (has_object : Bool) → (arguments parameters : ℕ) → Code
call_of context place m has_object n parameters =
    gathered context n parameters ++ op_at place (Call m (with_object has_object parameters))

-- the call with so many arguments, at the place of the name or of `new`
abbrev pub call_at : Context → Place → MethodId → (has_object : Bool) → ℕ → Code
call_at context place m has_object n =
    if is_analysed context m then call_of context place m has_object n (length (parameters_of (info_at context m)))
    else op_at place (Unread m (with_object has_object n))

-- f(..)
abbrev pub called : Context → Place → ℕ → Passing → Callee → Code
called context place n arguments Missing = arguments [] ++ op context (Outside n)
called context place n arguments (OfClass m) =
    arguments (parameter_kinds context m n) ++ call_at context place m false n
called context place n arguments (OfObject m) =
    push_this context ++ arguments (parameter_kinds context m n) ++ call_at context place m true n

-- e.f(..)
abbrev pub called_on_value : Context → Place → Code → ℕ → Passing → Callee → Code
called_on_value context place e n arguments Missing = e ++ arguments [] ++ op context (Outside (suc n))
called_on_value context place e n arguments (OfClass m) =
    e ++ op context Drop ++ arguments (parameter_kinds context m n) ++ call_at context place m false n
called_on_value context place e n arguments (OfObject m) =
    e ++ arguments (parameter_kinds context m n) ++ call_at context place m true n

-- the same; behind the class that e names stands no object
abbrev pub called_on : Context → Place → Option ClassId → Code → ℕ → Passing → Callee → Code
called_on context place (Some c) e n arguments callee = called context place n arguments callee
called_on context place None e n arguments callee = called_on_value context place e n arguments callee

-- ---- object creations

abbrev pub constructor_of : MethodId → Option MethodInfo → Option MethodId
constructor_of m None = None
constructor_of m (Some info) = if info.is_constructor then Some m else None

abbrev pub constructor_among : Context → Option MethodId → Option MethodId
constructor_among context None = None
constructor_among context (Some m) = constructor_of m (info_at context m)

-- the constructor of a class that so many arguments mean
abbrev pub constructor_in : Context → ClassId → ℕ → Option MethodId
constructor_in context c count = constructor_among context (found context.folder.methods c constructor_name count)

-- new C(..), where this constructor is found
abbrev pub made_by : Context → Place → ClassId → ℕ → Passing → Option MethodId → Code
made_by context place c n arguments None = arguments [] ++ op_at place (Outside n)
made_by context place c n arguments (Some m) =
    op_at place (New c) ++ arguments (parameter_kinds context m n) ++ call_at context place m true n

-- new T(..), where T has this kind
abbrev pub made : Context → Place → Kind → ℕ → Passing → Code
made context place (Declared c) n arguments = made_by context place c n arguments (constructor_in context c n)
made context place _ n arguments = arguments [] ++ op_at place (Outside n)
