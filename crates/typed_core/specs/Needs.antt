-- A contract of a public call rests on this: what an operation or a lock needs, the kinds behind it, and what fails there.
use Rattle.std.specs.Prelude.{ℕ, Bool, true, false, ◌&&◌, ◌||◌, not, List, [], ◌∷◌, Option, None, Some, if◌then◌else◌}
use Rattle.racer_base.specs.declared.ids.FieldId.{FieldId}
use Rattle.racer_base.specs.declared.ids.MethodId.{MethodId}
use Rattle.racer_base.specs.declared.ids.Place.{Place}
use Rattle.core_code.specs.declared.code.Op.{Op as CoreOp}
use Rattle.core_code.specs.declared.code.Op.TheVariants.{Push, PushClass, PushPrim, PushNull, New, Dup, Drop, Get, Put}
use Rattle.core_code.specs.declared.code.Op.TheVariants.{Set, Prim, Outside, Call, Unread, Ret, Throw}
use Rattle.core_code.specs.declared.parts.FieldCore.{FieldCore}
use Rattle.core_code.specs.Tree.{can_return}
use Rattle.core_code.specs.Core.{Core, Method}
use Rattle.core_code.specs.Calls.{method_at, taken_by}
use Rattle.core_code.specs.KindCheck.{field_at}
use Rattle.typed_core.specs.declared.kinds.TypedKind.{TypedKind}
use Rattle.typed_core.specs.declared.kinds.TypedKind.TheVariants as kind
use Rattle.typed_core.specs.declared.states.KindState.{KindState}
use Rattle.typed_core.specs.declared.doubts.Doubt.{Doubt}
use Rattle.typed_core.specs.declared.doubts.Doubt.TheVariants.{Always, IfRead}
use Rattle.typed_core.specs.Kinds.{kind_of, same_kind, is_reference, fits, do_fit}
use Rattle.typed_core.specs.States.{slot_of, top, variable_of, pushed, popped, replaced, with_variable, passed}

-- ---- the kinds behind an operation, whether its need is met or not

abbrev pub field_kind : Core → FieldId → TypedKind
field_kind core f = elim (field_at core f) [ None ↦ kind.Other | Some field ↦ kind_of field.kind ]

abbrev pub result_kind : Core → MethodId → TypedKind
result_kind core m = elim (method_at core m) [ None ↦ kind.Other | Some callee ↦ kind_of callee.result ]

-- behind a return and behind a throw there are none
abbrev pub kinds_behind : Core → CoreOp → KindState → Option KindState
kinds_behind core (Push v) s = Some (pushed s (variable_of s v.0))
kinds_behind core (PushClass c) s = Some (pushed s (kind.Class c))
kinds_behind core PushPrim s = Some (pushed s kind.Plain)
kinds_behind core PushNull s = Some (pushed s kind.Unset)
kinds_behind core (New c) s = Some (pushed s (kind.Object c))
kinds_behind core Dup s = Some (pushed s (top s))
kinds_behind core Drop s = Some (popped s 1)
kinds_behind core (Get f) s = Some (replaced s 1 (field_kind core f))
kinds_behind core (Put f) s = Some (replaced s 2 (top s))
kinds_behind core (Set v) s = Some (with_variable s v.0 (top s))
kinds_behind core (Prim n) s = Some (replaced s n kind.Plain)
kinds_behind core (Outside n) s = Some (replaced s n kind.Other)
kinds_behind core (Call m n) s = Some (replaced s n (result_kind core m))
kinds_behind core (Unread m n) s = Some (replaced s n kind.Other)
kinds_behind core Ret s = None
kinds_behind core Throw s = None

-- ---- needs

-- what the base of a field is to be: an object of its class, and the class itself where the field is static
abbrev pub base_of : FieldCore → TypedKind
base_of field = if field.is_static then kind.Class field.class else kind.Object field.class

abbrev pub is_read_met : Option FieldCore → KindState → Bool
is_read_met None s = false
is_read_met (Some field) s = same_kind (base_of field) (top s)

abbrev pub is_store_met : Option FieldCore → KindState → Bool
is_store_met None s = false
is_store_met (Some field) s = same_kind (base_of field) (slot_of s 1) && fits field.kind (top s)

-- the receiver is an object of the callee's class, and the arguments fit its parameters
abbrev pub is_call_met : Option Method → ℕ → KindState → Bool
is_call_met None n s = false
is_call_met (Some callee) n s = do_fit (taken_by callee) (passed s n)

-- an operation of this method has what it needs
abbrev pub is_met : Core → Method → CoreOp → KindState → Bool
is_met core method (Get f) s = is_read_met (field_at core f) s
is_met core method (Put f) s = is_store_met (field_at core f) s
is_met core method (Call m n) s = is_call_met (method_at core m) n s
is_met core method Ret s = fits method.result (top s)
is_met core method _ s = true

-- ---- what fails

-- a need is asked only where there are kinds
abbrev pub is_unmet : (KindState → Bool) → Option KindState → Bool
is_unmet met None = false
is_unmet met (Some s) = not (met s)

abbrev pub cannot_return : Option Method → Bool
cannot_return None = true
cannot_return (Some callee) = not (can_return callee.code)

-- a call of a method that is not analysed, or of one that cannot return, fails whatever the kinds
abbrev pub is_refused : Core → CoreOp → Bool
is_refused core (Unread m n) = true
is_refused core (Call m n) = cannot_return (method_at core m)
is_refused core _ = false

-- a new object fails where a method that is reached reads a field of its class that may hold null
abbrev pub makes : CoreOp → Place → List Doubt
makes (New c) place = IfRead c place ∷ []
makes _ place = []

-- what may fail at an operation of this method, which stands at this place, with these kinds before it or none
abbrev pub op_doubts : Core → Method → Place → CoreOp → Option KindState → List Doubt
op_doubts core method place op before =
    if is_refused core op || is_unmet (is_met core method op) before then Always place ∷ [] else makes op place

-- a lock needs an object, a class or something that nothing is known of
abbrev pub is_lockable : KindState → Bool
is_lockable s = is_reference (top s)

abbrev pub lock_doubts : Place → Option KindState → List Doubt
lock_doubts place before = if is_unmet is_lockable before then Always place ∷ [] else []
