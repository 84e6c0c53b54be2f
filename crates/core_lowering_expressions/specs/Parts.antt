-- A contract of a public call rests on this: the code of accesses and calls in the parts in which it is made.
use Rattle.std.specs.Prelude.{ℕ, suc, true, false, List, [], ◌++◌, Option, Some, None, option_map}
use Rattle.racer_base.specs.declared.ids.ClassId.{ClassId}
use Rattle.racer_base.specs.declared.ids.MethodId.{MethodId}
use Rattle.racer_base.specs.declared.ids.Kind.{Kind}
use Rattle.racer_base.specs.declared.ids.Kind.TheVariants.{Plain, Declared, Other}
use Rattle.racer_base.specs.declared.ids.Place.{Place}
use Rattle.core_code.specs.declared.code.Op.TheVariants.{Push, Dup, Drop, New, Get, Put, Set, Prim, Outside}
use Rattle.core_lowering_rules.specs.Trees.{Exprs, count_exprs}
use Rattle.core_lowering_rules.specs.Expressions.{passed}
use Rattle.core_lowering_rules.specs.ValueKinds.{ValueKind, Of}
use Rattle.core_lowering_rules.specs.Context.{Context, Code, op, op_at, converted, push_this}
use Rattle.core_lowering_rules.specs.Assignments.{Storage, InVariable, InField, Elsewhere}
use Rattle.core_lowering_rules.specs.Calls.{Callee, Missing, OfClass, OfObject, parameter_kinds, call_at}
use Rattle.core_lowering_rules.specs.Calls.{constructor_in}
use Rattle.core_lowering_rules.specs.Calls.{callee_in, if_static, called, result_kind}
use Rattle.java_tree.specs.declared.words.Ident.{Ident}
use Rattle.core_lowering_expressions.specs.declared.storage.Storage.{Storage as CodeStorage}
use Rattle.core_lowering_expressions.specs.declared.storage.Storage.TheVariants as storage
use Rattle.core_lowering_expressions.specs.declared.calls.Callee.{Callee as CodeCallee}
use Rattle.core_lowering_expressions.specs.declared.calls.Callee.TheVariants as callee

-- ---- storage

-- the code of the base of a field, or of the operands
abbrev pub base_of : Storage → Code
base_of (InVariable v kind) = []
base_of (InField f kind name base) = base
base_of (Elsewhere n operands) = operands

-- the rest of it
abbrev pub without_base : Storage → CodeStorage
without_base (InVariable v kind) = storage.InVariable v kind
without_base (InField f kind name base) = storage.InField f kind name
without_base (Elsewhere n operands) = storage.Elsewhere n

-- the kind of what is stored there
abbrev pub storage_kind : CodeStorage → ValueKind
storage_kind (storage.InVariable v kind) = Of kind
storage_kind (storage.InField f kind name) = Of kind
storage_kind (storage.Elsewhere n) = Of Other

-- behind the base, what reads it
abbrev pub then_read : Context → CodeStorage → Code
then_read context (storage.InVariable v kind) = op context (Push v)
then_read context (storage.InField f kind name) = op_at name (Get f)
then_read context (storage.Elsewhere n) = op context (Outside n)

-- behind the base and a value of this kind, what stores the value
abbrev pub then_assigned : Context → CodeStorage → ValueKind → Code
then_assigned context (storage.InVariable v kind) given = converted context kind given ++ op context (Set v)
then_assigned context (storage.InField f kind name) given = converted context kind given ++ op_at name (Put f)
then_assigned context (storage.Elsewhere n) given = op context (Outside (suc n))

-- behind the base, what fetches the value that is to be changed
abbrev pub then_fetched : Context → CodeStorage → Code
then_fetched context (storage.InVariable v kind) = op context (Push v)
then_fetched context (storage.InField f kind name) = op context Dup ++ op_at name (Get f)
then_fetched context (storage.Elsewhere n) = []

-- behind this and another value, what stores a number made of the two
abbrev pub then_combined : Context → CodeStorage → Code
then_combined context (storage.Elsewhere n) = op context (Outside (suc n))
then_combined context s = op context (Prim 2) ++ then_assigned context s (Of Plain)

-- behind what is fetched, what stores a number made of it
abbrev pub then_counted : Context → CodeStorage → Code
then_counted context (storage.Elsewhere n) = op context (Outside n)
then_counted context s = op context (Prim 1) ++ then_assigned context s (Of Plain)

-- ---- calls

abbrev pub callee_seen : CodeCallee → Callee
callee_seen callee.Missing = Missing
callee_seen (callee.OfClass m) = OfClass m
callee_seen (callee.OfObject m) = OfObject m

-- what arguments are converted to
abbrev pub passed_kinds : Context → Callee → ℕ → List Kind
passed_kinds context Missing n = []
passed_kinds context (OfClass m) n = parameter_kinds context m n
passed_kinds context (OfObject m) n = parameter_kinds context m n

-- f(..): before and behind the arguments
abbrev pub call_front : Context → Callee → Code
call_front context Missing = []
call_front context (OfClass m) = []
call_front context (OfObject m) = push_this context

abbrev pub call_end : Context → Place → ℕ → Callee → Code
call_end context place n Missing = op context (Outside n)
call_end context place n (OfClass m) = call_at context place m false n
call_end context place n (OfObject m) = call_at context place m true n

-- e.f(..): between e and the arguments, and behind them
abbrev pub value_call_front : Context → Callee → Code
value_call_front context Missing = []
value_call_front context (OfClass m) = op context Drop
value_call_front context (OfObject m) = []

abbrev pub value_call_end : Context → Place → ℕ → Callee → Code
value_call_end context place n Missing = op context (Outside (suc n))
value_call_end context place n (OfClass m) = call_at context place m false n
value_call_end context place n (OfObject m) = call_at context place m true n

-- new T(..), where T has this kind: its class and the constructor, where they are the folder's
abbrev pub maker_of : Context → Kind → ℕ → Option (ClassId × MethodId)
maker_of context (Declared c) n = option_map (λ m. (c, m)) (constructor_in context c n)
maker_of context _ n = None

-- before the arguments, what these are converted to, and behind them
abbrev pub made_front : Place → Option (ClassId × MethodId) → Code
made_front place None = []
made_front place (Some made) = op_at place (New made.0)

abbrev pub made_kinds : Context → Option (ClassId × MethodId) → ℕ → List Kind
made_kinds context None n = []
made_kinds context (Some made) n = parameter_kinds context made.1 n

abbrev pub made_end : Context → Place → ℕ → Option (ClassId × MethodId) → Code
made_end context place n None = op_at place (Outside n)
made_end context place n (Some made) = call_at context place made.1 true n

-- C.f(..)
abbrev pub class_callee : Context → ClassId → Ident → Exprs → Callee
class_callee context c x es = if_static (callee_in context c x.text (count_exprs es))

abbrev pub class_call : Context → ClassId → Ident → Exprs → Code
class_call context c x es =
    called context x.place (count_exprs es) (λ kinds. passed context kinds es) (class_callee context c x es)

abbrev pub class_call_kind : Context → ClassId → Ident → Exprs → ValueKind
class_call_kind context c x es = result_kind context (class_callee context c x es)
