-- A contract of a public call rests on this: the code of statements, a row a form (JLS 14).
use Rattle.std.specs.Prelude.{ℕ, zero, suc, Bool, true, false, ◌&&◌, ◌||◌, List, [], ◌∷◌, ◌++◌, Option, Some, None}
use Rattle.std.specs.Prelude.{length}
use Rattle.std.specs.Prelude.{take, drop, ◌/◌, is_none, if◌then◌else◌}
use Rattle.std.specs.List.{list_any}
use Rattle.racer_base.specs.declared.ids.VarId.{VarId}
use Rattle.racer_base.specs.declared.ids.Kind.{Kind}
use Rattle.racer_base.specs.declared.ids.Kind.TheVariants as kinds
use Rattle.core_code.specs.declared.code.LockKind.TheVariants.{Own, Explicit}
use Rattle.core_code.specs.declared.code.Op.TheVariants.{Push, PushPrim, Drop, Set, Outside, Ret}
use Rattle.core_code.specs.declared.code.Op.TheVariants as Op
use Rattle.core_lowering_drafts.specs.Drafts.{Normal, Exit, has, Leave, Never}
use Rattle.java_tree.specs.Trees.{Ty}
use Rattle.core_lowering_rules.specs.Trees.{Expr, Exprs, no_expr, expr_then, Init, Variable, Start, Declares, Runs}
use Rattle.core_lowering_rules.specs.Trees.{Condition, Resource, Stmt, Run, Local, If, IfElse, While, Do, For, ForEach}
use Rattle.core_lowering_rules.specs.Trees.{Sync, Return, Block, Empty, Throw, Break, Continue, Labelled, Assert}
use Rattle.core_lowering_rules.specs.Trees.{Switch}
use Rattle.core_lowering_rules.specs.Trees.{Locked, Try, Finally, Stmts, no_stmt, stmt_then, Groups, no_group}
use Rattle.core_lowering_rules.specs.Trees.{group_then}
use Rattle.core_lowering_rules.specs.Context.{Context, Guard, Itself, Nothing, Value, Code, Result, ends_of, op, op_at}
use Rattle.core_lowering_rules.specs.Context.{choice, repeated, again, held, within, ending, guarded, converted}
use Rattle.core_lowering_rules.specs.Context.{push_this}
use Rattle.core_lowering_rules.specs.Context.{type_kind, variable_kind_in}
use Rattle.core_lowering_rules.specs.Touches.{container_in, looked_over}
use Rattle.core_lowering_rules.specs.Expressions.{kind, code, stored, init_kind, init_code}
use Rattle.core_lowering_rules.specs.Scopes.{next_variable, of_type, started, after, after_all, after_groups, back_in}
use Rattle.core_lowering_rules.specs.Scopes.{new_variables, in_loop, in_switch, in_labelled, with_label, is_loop}
use Rattle.core_lowering_rules.specs.Scopes.{break_to}
use Rattle.core_lowering_rules.specs.Scopes.{continue_to, in_guard, out_of_guard, returned_variable, with_resource}
use Rattle.core_lowering_rules.specs.Scopes.{with_resources, unlocked_in, caught_behind}

-- ---- parts of statements

abbrev pub run : Context → Expr → Code
run context e = code context e ++ op context Drop

-- what a `for` goes over, of which only that it is looked at is used
abbrev pub gone_over : Context → Expr → Code
gone_over context e = elim (container_in context (stored context e)) [
  | Some container ↦ looked_over context container ++ op context Drop
  | None ↦ run context e
]

abbrev pub run_all : Context → Exprs → Code
run_all context no_expr = []
run_all context (expr_then e es) = run context e ++ run_all context es

abbrev pub set : Context → VarId → Code
set context v = op context (Set v) ++ op context Drop

-- the value that a variable begins with
abbrev pub begun : Context → VarId → Kind → Option Init → Code
begun context v kind None = []
begun context v kind (Some i) = init_code context i ++ converted context kind (init_kind context i) ++ set context v

-- each in scope from its own initialiser on
abbrev pub begun_all : Context → Ty → List Variable → Code
begun_all context t [] = []
begun_all context t (v ∷ vs) =
    let inside = of_type context t v.arrays v.name in
    begun inside (next_variable context) (variable_kind_in context t v.arrays).kind v.initialiser
    ++ begun_all inside t vs

abbrev pub start : Context → Start → Code
start context (Declares t vs) = begun_all context t vs
start context (Runs es) = run_all context es

-- the condition of a `for`
abbrev pub tested : Context → Option Condition → Code
tested context None = []
tested context (Some c) = run context c.on

abbrev pub is_endless : Option Condition → Bool
is_endless None = true
is_endless (Some c) = c.is_true

-- the variables that a block or a `for` declares are null at its end
abbrev pub closed : Context → Context → Code → Code
closed before inside body = ending before.place (new_variables before inside) body

-- ---- jumps (JLS 14.15, 14.16)

abbrev pub jump : Option ℕ → Code
jump None = []
jump (Some exit) = Leave exit ∷ []

-- ---- returns (JLS 14.17)

abbrev pub returned_nothing : Context → Result → Code
returned_nothing context Itself = push_this context
returned_nothing context Nothing = op context PushPrim
returned_nothing context (Value kinds.Plain) = op context PushPrim
returned_nothing context (Value _) = op context (Outside 0)

abbrev pub returned_value : Context → Result → Expr → Code
returned_value context Itself e = run context e ++ push_this context
returned_value context Nothing e = run context e ++ op context PushPrim
returned_value context (Value k) e = code context e ++ converted context k (kind context e)

abbrev pub variable_in : Context → Guard → VarId
variable_in context guard = elim guard.variable [ None ↦ next_variable context | Some v ↦ v ]

-- in the first part of a `try` with a `finally` that is done first
abbrev pub sent_back : Context → Code
sent_back context = elim context.guards [
  | [] ↦ op context Ret
  | ◌∷◌ guard outer ↦ set context (variable_in context guard) ++ Leave guard.exit ∷ []
]

abbrev pub returned : Context → Option Expr → Code
returned context None = returned_nothing context context.result ++ sent_back context
returned context (Some e) = returned_value context context.result e ++ sent_back context

-- ---- loops (JLS 14.12 to 14.14)

-- a loop, behind which a `break` leads; where it has no condition but the literal `true`, nothing else does
abbrev pub broken : Context → (is_endless : Bool) → (body loop : Code) → Code
broken context is_endless body loop =
    within context.exits
    (loop ++ (if is_endless && has (ends_of body) (Exit context.exits) then Never ∷ [] else []))

-- the body of a loop, behind which a `continue` leads
abbrev pub one_round : Context → Code → Code
one_round context body = within (suc context.exits) body

-- ---- `switch` (JLS 14.11)

abbrev pub entered : Option Code → Code
entered None = []
entered (Some before) = choice before []

abbrev pub does_fall : Code → Groups → Bool
does_fall group no_group = false
does_fall group (group_then labels ss gs) = has (ends_of group) Normal

-- one of these, by halves
abbrev pub forked_by : ℕ → List Code → Code
forked_by zero options = []
forked_by (suc n) [] = []
forked_by (suc n) (option ∷ []) = option
forked_by (suc n) options =
    let half = length options / 2 in
    choice (forked_by n (take half options)) (forked_by n (drop half options))

abbrev pub forked : List Code → Code
forked options = forked_by (length options) options

abbrev pub has_default : Groups → Bool
has_default no_group = false
has_default (group_then labels ss gs) = list_any is_none labels || has_default gs

-- ---- `try` (JLS 14.20)

abbrev pub begun_resource : Context → Resource → Code
begun_resource context r =
    let inside = with_resource context r in
    code inside r.value ++ converted inside (type_kind context r.kind) (kind inside r.value)
    ++ set inside (next_variable context)

abbrev pub begun_resources : Context → List Resource → Code
begun_resources context [] = []
begun_resources context (r ∷ rs) = begun_resource context r ++ begun_resources (with_resource context r) rs

-- what was returned in the first part is returned behind `finally`
abbrev pub last_of : Context → Option VarId → Code
last_of context None = []
last_of context (Some v) = op context (Push v) ++ sent_back context

abbrev pub kept_null : Context → Option VarId → Code → Code
kept_null context None body = body
kept_null context (Some v) body = ending context.place (v ∷ []) body

-- ---- statements

abbrev mutual
  -- leaves the stack as it was
  pub stmt : Context → Stmt → Code
  stmt context (Run e) = run context e
  stmt context (Local t vs) = begun_all context t vs
  stmt context (If e s) = run context e ++ choice (stmt context s) []
  stmt context (IfElse e s t) = run context e ++ choice (stmt context s) (stmt (after context s) t)
  stmt context (While c s) =
      let inside = in_loop context in
      let body = stmt inside s in
      run context c.on
      ++ broken context c.is_true body (repeated (one_round context body ++ run (after inside s) c.on))
  stmt context (Do s c) =
      let inside = in_loop context in
      let body = stmt inside s in
      broken context c.is_true body (again (one_round context body ++ run (after inside s) c.on))
  stmt context (For i c updates s) =
      let inside = started context i in
      let body = stmt (in_loop inside) s in
      let behind = after (in_loop inside) s in
      closed context behind (start context i ++ tested inside c
      ++ broken inside (is_endless c) body
      (repeated (one_round inside body ++ run_all behind updates ++ tested behind c)))
  stmt context (ForEach t x e s) =
      let inside = of_type context t 0 x in
      let body = stmt (in_loop inside) s in
      closed context (after (in_loop inside) s) (gone_over context e
      ++ broken inside false body
      (repeated (op context (Outside 0) ++ set context (next_variable context) ++ one_round inside body)))
  stmt context (Sync place e ss) =
      code context e ++ held Own place (closed context (after_all context ss) (stmts context ss))
  stmt context (Return e) = returned context e
  stmt context (Block ss) = closed context (after_all context ss) (stmts context ss)
  stmt context Empty = []
  stmt context (Throw place e) = run context e ++ op_at place Op.Throw
  stmt context (Break x) = jump (break_to context x)
  stmt context (Continue x) = jump (continue_to context x)
  stmt context (Labelled x s) =
      if is_loop s then stmt (with_label context x) s else within context.exits (stmt (in_labelled context x) s)
  stmt context (Assert e told) = choice (run context e) []
  stmt context (Switch e gs) =
      let inside = in_switch context in
      run context e
      ++ closed context (after_groups inside gs)
      (within context.exits (forked (options inside None gs ++ (if has_default gs then [] else [] ∷ []))))
  stmt context (Locked place e ss catches) =
      code context e ++ held Explicit place (closed context (after_all context ss) (stmts context ss))
  stmt context (Try rs ss catches) =
      let inside = with_resources context rs in
      closed context inside (begun_resources context rs
      ++ closed inside (after_all inside ss) (stmts inside ss))
  stmt context (Finally rs ss catches finally) =
      let guarded_in = in_guard context in
      let inside = with_resources guarded_in rs in
      let end = after_all inside ss in
      let body = closed context inside (begun_resources guarded_in rs ++ closed inside end (stmts inside ss)) in
      let behind = unlocked_in (caught_behind (back_in context (out_of_guard context end)) catches) finally in
      let last_context = back_in behind (after_all behind finally) in
      let variable = returned_variable end in
      kept_null context variable
      (guarded context.exits body (closed behind (after_all behind finally) (stmts behind finally))
      (last_of last_context variable))

  pub stmts : Context → Stmts → Code
  stmts context no_stmt = []
  stmts context (stmt_then s ss) = stmt context s ++ stmts (after context s) ss

  -- what may be entered: groups that end otherwise than normally, and the last; each other goes on in the next
  pub options : Context → (before : Option Code) → Groups → List Code
  options context before no_group = []
  options context before (group_then labels ss gs) =
      let group = entered before ++ stmts context ss in
      if does_fall group gs then options (after_all context ss) (Some group) gs
      else group ∷ options (after_all context ss) None gs
