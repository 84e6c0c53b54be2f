-- No public contract rests on this: forms whose code is made together, in the parts in which it is made.
use Rattle.std.specs.Prelude.{ℕ, suc, Bool, [], ◌++◌, if◌then◌else◌}
use Rattle.racer_base.specs.declared.ids.Place.{Place}
use Rattle.core_code.specs.declared.code.Op.TheVariants.{Prim, Outside}
use Rattle.java_tree.specs.declared.words.Ident.{Ident}
use Rattle.core_lowering_rules.specs.Trees.{Exprs, Call, count_exprs}
use Rattle.core_lowering_rules.specs.ValueKinds.{ValueKind}
use Rattle.core_lowering_rules.specs.Context.{Context, Code, op, choice}
use Rattle.core_lowering_rules.specs.Calls.{Callee, own_callee, callee_in, if_static, callee_of_value, result_kind}
use Rattle.core_lowering_rules.specs.Touches.{touch}
use Rattle.core_lowering_rules.specs.Expressions.{code, passed}
use Rattle.core_lowering_touches.specs.declared.touches.Touched.{Touched}
use Rattle.core_lowering_touches.specs.Touching.{fetched}
use Rattle.core_lowering_expressions.specs.declared.storage.Storage.{Storage}
use Rattle.core_lowering_expressions.specs.declared.calls.Target.{Target}
use Rattle.core_lowering_expressions.specs.declared.calls.Target.TheVariants as target
use Rattle.core_lowering_expressions.specs.Parts.{then_assigned, then_fetched, then_combined, passed_kinds, call_front}
use Rattle.core_lowering_expressions.specs.Parts.{call_end, value_call_front, value_call_end, class_call}
use Rattle.core_lowering_context.specs.Views.{value_kind}

-- ---- an operator with two operands, of which some are logical: behind the left one, and behind the right one

abbrev pub operator_front : Context → Bool → Code
operator_front context is_logical = if is_logical then op context (Prim 1) else []

abbrev pub operator_end : Context → Bool → Code → Code
operator_end context is_logical right =
    if is_logical then choice (right ++ op context (Prim 2)) [] else right ++ op context (Prim 2)

-- ---- an assignment, of which some are simple: behind the access, and behind the value

abbrev pub assign_front : Context → Bool → Storage → Code
assign_front context is_simple s = if is_simple then [] else then_fetched context s

abbrev pub assign_end : Context → Bool → Storage → ValueKind → Code
assign_end context is_simple s given =
    if is_simple then then_assigned context s given else then_combined context s

-- ---- a call, by what stands before the name

abbrev pub target_callee : Context → Target → Ident → ℕ → Callee
target_callee context target.Own x n = own_callee context x n
target_callee context (target.Class c) x n = if_static (callee_in context c x.text n)
target_callee context (target.Value kind) x n = callee_of_value context (value_kind kind) x n

abbrev pub target_front : Context → Target → Callee → Code
target_front context target.Own m = call_front context m
target_front context (target.Class c) m = call_front context m
target_front context (target.Value kind) m = value_call_front context m

abbrev pub target_end : Context → Target → Place → ℕ → Callee → Code
target_end context target.Own place n m = call_end context place n m
target_end context (target.Class c) place n m = call_end context place n m
target_end context (target.Value kind) place n m = value_call_end context place n m

-- behind a value, where this is the callee
abbrev pub called_behind : Context → Place → Callee → Exprs → Code
called_behind context place m es =
    value_call_front context m ++ (passed context (passed_kinds context m (count_exprs es)) es
    ++ value_call_end context place (count_exprs es) m)

abbrev pub target_call : Context → Target → Ident → Exprs → Code
target_call context target.Own x es = code context (Call x es)
target_call context (target.Class c) x es = class_call context c x es
target_call context (target.Value kind) x es =
    called_behind context x.place (callee_of_value context (value_kind kind) x (count_exprs es)) es

abbrev pub target_kind : Context → Target → Ident → Exprs → ValueKind
target_kind context t x es = result_kind context (target_callee context t x (count_exprs es))

-- ---- a call on a container, behind its base

abbrev pub touching_call : Context → Place → Touched → Exprs → Code
touching_call context place t es =
    fetched context t
    ++ (passed context [] es
    ++ (op context (Outside (suc (count_exprs es))) ++ touch context place t.content t.touch))
