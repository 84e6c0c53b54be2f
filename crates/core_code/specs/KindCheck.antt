-- A contract of a public call rests on this: `Program::of`. The kind check of code, by cases on the tree: the kinds on
-- the stack before, its top first, and those after, or none where something does not fit (JLS 4.10, 5.2, 15.12.4).
use Rattle.std.specs.Prelude.{ℕ, Bool, true, false, ◌&&◌, ◌||◌, List, [], ◌∷◌, Option, None, Some, drop, length}
use Rattle.std.specs.Prelude.{if◌then◌else◌, is_some, nat_le, reverse, slice_get}
use Rattle.std.specs.List.{list_all}
use Rattle.std.specs.Cmp.Lexicographic.{pointwise}
use Rattle.racer_base.specs.declared.ids.FieldId.{FieldId}
use Rattle.racer_base.specs.declared.ids.VarId.{VarId}
use Rattle.racer_base.specs.declared.ids.Kind.{Kind}
use Rattle.core_code.specs.declared.code.Op.{Op as CoreOp}
use Rattle.core_code.specs.declared.code.Op.TheVariants.{Push, PushClass, PushPrim, PushNull, New, Dup, Drop, Get, Put}
use Rattle.core_code.specs.declared.code.Op.TheVariants.{Set, Prim, Outside, Call, Unread, Ret, Throw}
use Rattle.core_code.specs.declared.parts.FieldCore.{FieldCore}
use Rattle.core_code.specs.Tree.{Tree, Op, Skip, Seq, Choice, Loop, Sync}
use Rattle.core_code.specs.Core.{Core, Method}
use Rattle.core_code.specs.Calls.{method_at, taken_by}
use Rattle.core_code.specs.Kinds.{StackKind, Plain, Declared, Class, Null, Opaque, kind_of, same_kind}
use Rattle.core_code.specs.Kinds.{joined_stack, fits_class, fits}

-- what is made of a stack, or none
abbrev pub Kinds : Type 0
Kinds = Option (List StackKind)

-- the kinds that are left, and then those that a further check makes of them
abbrev pub and_then : Kinds → (List StackKind → Kinds) → Kinds
and_then before check = elim before [ None ↦ None | Some stack ↦ check stack ]

-- the stack where a test holds
abbrev pub where_true : Bool → List StackKind → Kinds
where_true test stack = if test then Some stack else None

-- this kind in place of the so many uppermost ones
abbrev pub after_popping : ℕ → StackKind → List StackKind → Kinds
after_popping n kind stack = where_true (nat_le n (length stack)) (kind ∷ drop n stack)

-- what is below values that fit these kinds, the uppermost first
abbrev pub below_fitting : List Kind → List StackKind → Kinds
below_fitting [] stack = Some stack
below_fitting (kind ∷ kinds) [] = None
below_fitting (kind ∷ kinds) (given ∷ stack) = if fits kind given then below_fitting kinds stack else None

-- what may be the base of a field: an object of its class, and the class itself where the field is static
abbrev pub is_base_of : FieldCore → StackKind → Bool
is_base_of field base = if field.is_static then same_kind (Class field.class) base else fits_class field.class base

abbrev pub field_at : Core → FieldId → Option FieldCore
field_at core f = slice_get core.fields f.0

abbrev pub variable_at : Method → VarId → Option Kind
variable_at method v = slice_get method.variables v.0

abbrev pub after_push : Option Kind → List StackKind → Kinds
after_push None stack = None
after_push (Some kind) stack = Some (kind_of kind ∷ stack)

-- the value stays on the stack
abbrev pub after_set : Option Kind → List StackKind → Kinds
after_set (Some kind) (value ∷ stack) = where_true (fits kind value) (value ∷ stack)
after_set _ _ = None

abbrev pub after_get : Option FieldCore → List StackKind → Kinds
after_get (Some field) (base ∷ stack) = where_true (is_base_of field base) (kind_of field.kind ∷ stack)
after_get _ _ = None

-- the value stays on the stack, in place of the base below it
abbrev pub after_put : Option FieldCore → List StackKind → Kinds
after_put (Some field) (value ∷ base ∷ stack) =
    where_true (is_base_of field base && fits field.kind value) (value ∷ stack)
after_put _ _ = None

-- the receiver and the arguments of the callee, the last one uppermost, fit what it takes
abbrev pub after_call : Option Method → List StackKind → Kinds
after_call None stack = None
after_call (Some callee) stack =
    and_then (below_fitting (reverse (taken_by callee)) stack) (λ rest. Some (kind_of callee.result ∷ rest))

-- the kinds below the returned value go on
abbrev pub after_return : Kind → List StackKind → Kinds
after_return result [] = None
after_return result (value ∷ stack) = where_true (fits result value) stack

abbrev pub kinds_after_op : Core → Method → CoreOp → List StackKind → Kinds
kinds_after_op core method (Push v) stack = after_push (variable_at method v) stack
kinds_after_op core method (PushClass c) stack = Some (Class c ∷ stack)
kinds_after_op core method PushPrim stack = Some (Plain ∷ stack)
kinds_after_op core method PushNull stack = Some (Null ∷ stack)
kinds_after_op core method (New c) stack = Some (Declared c ∷ stack)
kinds_after_op core method Dup [] = None
kinds_after_op core method Dup (kind ∷ stack) = Some (kind ∷ kind ∷ stack)
kinds_after_op core method Drop [] = None
kinds_after_op core method Drop (kind ∷ stack) = Some stack
kinds_after_op core method (Get f) stack = after_get (field_at core f) stack
kinds_after_op core method (Put f) stack = after_put (field_at core f) stack
kinds_after_op core method (Set v) stack = after_set (variable_at method v) stack
kinds_after_op core method (Prim n) stack = after_popping n Plain stack
kinds_after_op core method (Outside n) stack = after_popping n Opaque stack
kinds_after_op core method (Call m n) stack = after_call (method_at core m) stack
kinds_after_op core method (Unread m n) stack = after_popping n Opaque stack
kinds_after_op core method Ret stack = after_return method.result stack
kinds_after_op core method Throw stack = Some stack

abbrev pub same_stack : List StackKind → List StackKind → Bool
same_stack = pointwise same_kind

-- A loop leaves the kinds as it found them. A lock is popped.
abbrev pub kinds_after : Core → Method → Tree → List StackKind → Kinds
kinds_after core method (Op site place op) stack = kinds_after_op core method op stack
kinds_after core method Skip stack = Some stack
kinds_after core method (Seq first rest) stack =
    and_then (kinds_after core method first stack) (λ between. kinds_after core method rest between)
kinds_after core method (Choice left right) stack =
    and_then (kinds_after core method left stack) (λ a.
    and_then (kinds_after core method right stack) (λ b. joined_stack a b))
kinds_after core method (Loop body) stack =
    and_then (kinds_after core method body stack) (λ after. where_true (same_stack stack after) stack)
kinds_after core method (Sync lock body) [] = None
kinds_after core method (Sync lock body) (value ∷ stack) = kinds_after core method body stack

abbrev pub same_declared_kind : Kind → Kind → Bool
same_declared_kind a b = same_kind (kind_of a) (kind_of b)

-- whether a list of kinds begins with these
abbrev pub begins_with : List Kind → List Kind → Bool
begins_with [] kinds = true
begins_with (first ∷ others) [] = false
begins_with (first ∷ others) (kind ∷ kinds) = same_declared_kind first kind && begins_with others kinds

-- the variables begin with what the method takes, and its code is kinded from the empty stack on
abbrev pub is_kinded : Core → Method → Bool
is_kinded core method =
    begins_with (taken_by method) method.variables && is_some (kinds_after core method method.code [])

-- the code of each analysed method is kinded
abbrev pub are_kinded : Core → Bool
are_kinded core = list_all (λ (m : Method). is_some m.status || is_kinded core m) core.methods
