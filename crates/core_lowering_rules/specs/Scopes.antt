-- A contract of a public call rests on this: which variables are in scope behind declarations and statements (JLS 6.3).
use Rattle.std.specs.Prelude.{ℕ, suc, Bool, true, false, ◌&&◌, ◌||◌, List, [], ◌∷◌, ◌++◌, Option, None, Some, drop}
use Rattle.std.specs.Prelude.{length}
use Rattle.std.specs.Prelude.{map, slice_get, option_map, is_some, bytes_eq, codes, if◌then◌else◌}
use Rattle.std.specs.Option.{option_and_then}
use Rattle.std.specs.List.{list_any, find}
use Rattle.racer_base.specs.declared.ids.VarId.{VarId}
use Rattle.racer_base.specs.declared.ids.Kind.{Kind}
use Rattle.racer_base.specs.declared.ids.Kind.TheVariants.{Declared, Other}
use Rattle.java_resolver.specs.Meanings.{exactly_found}
use Rattle.java_tree.specs.declared.words.Ident.{Ident}
use Rattle.java_resolver.specs.declared.scope.ScopeVariable.{ScopeVariable}
use Rattle.java_resolver.specs.declared.scope.VariableKind.{VariableKind}
use Rattle.java_tree.specs.Trees.{Ty}
use Rattle.core_lowering_rules.specs.Trees.{Variable, Start, Declares, Runs, Stmt, Run, Local, If, IfElse, While, Do}
use Rattle.core_lowering_rules.specs.Trees.{For}
use Rattle.core_lowering_rules.specs.Trees.{ForEach, Sync, Return, Block, Empty, Throw, Break, Continue, Labelled}
use Rattle.core_lowering_rules.specs.Trees.{Assert}
use Rattle.core_lowering_rules.specs.Trees.{Switch, Locked, Try, Finally, Resource, Stmts, no_stmt, stmt_then, Groups}
use Rattle.core_lowering_rules.specs.Trees.{no_group, group_then, Catches, no_catch, catch_then}
use Rattle.core_lowering_rules.specs.Context.{Context, Target, Guard, type_kind, variable_kind_in}
use Rattle.core_lowering_rules.specs.Sought.{Unlocking, do_any_stand}
use Rattle.core_lowering_rules.specs.Locks.{is_stored_in, lock_kept, lock_noted}

-- the next variable
abbrev pub next_variable : Context → VarId
next_variable context = record { 0 = length context.kinds }

abbrev pub new_variable : Context → VariableKind → Ident → ScopeVariable
new_variable context known x =
    record { name = x.text; id = next_variable context; kind = known.kind; is_lock = known.is_lock }

-- x is declared as this, and is in scope
abbrev pub declared : Context → VariableKind → Ident → Context
declared context known x =
    record context {
      scope = record context.scope { variables = context.scope.variables ++ new_variable context known x ∷ [] };
      kinds = context.kinds ++ known.kind ∷ [];
    }

-- the same with a type, and so many `[ ]` behind its name
abbrev pub of_type : Context → Ty → (further : ℕ) → Ident → Context
of_type context t further x = declared context (variable_kind_in context t further) x

-- the parameter of a `catch`, of which no lock is known
abbrev pub of_catch : Context → Ident → Context
of_catch context x = declared context (record { kind = Other; is_lock = false }) x

abbrev pub all_declared : Context → Ty → List Variable → Context
all_declared context t [] = context
all_declared context t (v ∷ vs) = all_declared (of_type context t v.arrays v.name) t vs

abbrev pub started : Context → Start → Context
started context (Declares t vs) = all_declared context t vs
started context (Runs es) = context

-- behind the end of a block, a `for` or a lock, with the scope that was before
abbrev pub back_in : Context → Context → Context
back_in before inside = record inside { scope = before.scope }

-- the variables that came into scope
abbrev pub new_variables : Context → Context → List VarId
new_variables before inside =
    map (λ (v : ScopeVariable). v.id) (drop (length before.scope.variables) inside.scope.variables)

-- ---- what jumps lead behind

abbrev pub loop_target : Context → Target
loop_target context = record {
  labels = context.labels;
  break_to = context.exits;
  continue_to = Some (suc context.exits);
  is_unnamed = true;
}

abbrev pub in_loop : Context → Context
in_loop context =
    record context {
      exits = suc (suc context.exits);
      labels = [];
      targets = loop_target context ∷ context.targets;
    }

abbrev pub in_switch : Context → Context
in_switch context =
    record context {
      exits = suc context.exits;
      targets =
          record { labels = []; break_to = context.exits; continue_to = None; is_unnamed = true } ∷ context.targets;
    }

-- a labelled statement that is no loop
abbrev pub in_labelled : Context → Ident → Context
in_labelled context x =
    record context {
      exits = suc context.exits;
      targets =
          record { labels = x.text ∷ []; break_to = context.exits; continue_to = None; is_unnamed = false }
          ∷ context.targets;
    }

-- a loop has all labels before it
abbrev pub with_label : Context → Ident → Context
with_label context x = record context { labels = x.text ∷ context.labels }

-- behind such a statement
abbrev pub back_from : Context → Context → Context
back_from before inside = record inside { exits = before.exits; labels = []; targets = before.targets }

-- whether a statement is a loop, behind labels
abbrev pub is_loop : Stmt → Bool
is_loop (While c s) = true
is_loop (Do s c) = true
is_loop (For i c updates s) = true
is_loop (ForEach t x e s) = true
is_loop (Labelled x s) = is_loop s
is_loop _ = false

abbrev pub has_label : Ident → Target → Bool
has_label x target = list_any (bytes_eq x.text) target.labels

abbrev pub is_meant : Option Ident → Target → Bool
is_meant None target = target.is_unnamed
is_meant (Some x) target = has_label x target

-- the exit of the innermost statement that is meant (JLS 14.15)
abbrev pub break_to : Context → Option Ident → Option ℕ
break_to context x = option_map (λ (t : Target). t.break_to) (find (is_meant x) context.targets)

-- of the innermost loop that is meant (JLS 14.16)
abbrev pub continue_to : Context → Option Ident → Option ℕ
continue_to context x =
    option_and_then (λ (t : Target). t.continue_to)
    (find (λ (t : Target). is_some t.continue_to && is_meant x t) context.targets)

abbrev pub jumped : Context → Option ℕ → Context
jumped context None = record context { is_apart = true }
jumped context (Some exit) = context

-- ---- returns through `finally`

abbrev pub in_guard : Context → Context
in_guard context =
    record context {
      exits = suc context.exits;
      guards = record { exit = context.exits; variable = None } ∷ context.guards;
    }

abbrev pub out_of_guard : Context → Context → Context
out_of_guard before inside = record inside { exits = before.exits; guards = drop 1 inside.guards }

-- the variable of what was returned in the first part
abbrev pub returned_variable : Context → Option VarId
returned_variable inside = option_and_then (λ (g : Guard). g.variable) (slice_get inside.guards 0)

-- the first return in the first part of a `try` with a `finally` makes the variable
abbrev pub with_variable : Context → Guard → List Guard → Context
with_variable context guard outer =
    record context {
      kinds = context.kinds ++ context.given ∷ [];
      guards = record guard { variable = Some (next_variable context) } ∷ outer;
    }

abbrev pub after_return : Context → Context
after_return context = elim context.guards [
  | [] ↦ context
  | ◌∷◌ guard outer ↦ if is_some guard.variable then context else with_variable context guard outer
]

-- behind the last, which returns what was returned
abbrev pub after_last : Option VarId → Context → Context
after_last None context = context
after_last (Some v) context = after_return context

-- ---- resources and `finally`

-- whether a method of the folder without parameters closes a resource
abbrev pub is_closed_by : Context → Kind → Bool
is_closed_by context (Declared c) = is_some (exactly_found context.folder.methods c (codes "close") 0)
is_closed_by context _ = false

abbrev pub with_resource : Context → Resource → Context
with_resource context r =
    record (of_type context r.kind 0 r.name) {
      is_apart = context.is_apart || is_closed_by context (type_kind context r.kind);
    }

abbrev pub with_resources : Context → List Resource → Context
with_resources context [] = context
with_resources context (r ∷ rs) = with_resources (with_resource context r) rs

abbrev pub unlocked_in : Context → Stmts → Context
unlocked_in context finally = record context { other_lock = context.other_lock || do_any_stand Unlocking finally }

-- ---- statements

abbrev mutual
  pub after : Context → Stmt → Context
  after context (Run e) = context
  after context (Local t vs) = all_declared context t vs
  after context (If e s) = after context s
  after context (IfElse e s t) = after (after context s) t
  after context (While c s) = back_from context (after (in_loop context) s)
  after context (Do s c) = back_from context (after (in_loop context) s)
  after context (For i c updates s) =
      let started_in = started context i in
      back_in context (back_from started_in (after (in_loop started_in) s))
  after context (ForEach t x e s) =
      let inside = of_type context t 0 x in
      back_in context (back_from inside (after (in_loop inside) s))
  after context (Sync place e ss) = back_in context (after_all context ss)
  after context (Return e) = after_return context
  after context (Block ss) = back_in context (after_all context ss)
  after context Empty = context
  after context (Throw place e) = context
  after context (Break x) = jumped context (break_to context x)
  after context (Continue x) = jumped context (continue_to context x)
  after context (Labelled x s) =
      if is_loop s then after (with_label context x) s else back_from context (after (in_labelled context x) s)
  after context (Assert e told) = context
  after context (Switch e gs) = back_in context (back_from context (after_groups (in_switch context) gs))
  after context (Locked place e ss catches) =
      let behind = lock_noted (back_in context (after_all context ss)) e (is_stored_in e ss) in
      lock_kept behind (caught behind catches)
  after context (Try rs ss catches) =
      let behind = back_in context (after_all (with_resources context rs) ss) in
      lock_kept behind (caught behind catches)
  after context (Finally rs ss catches finally) =
      let inside = after_all (with_resources (in_guard context) rs) ss in
      let behind = back_in context (out_of_guard context inside) in
      let cleared = unlocked_in (lock_kept behind (caught behind catches)) finally in
      after_last (returned_variable inside) (back_in cleared (after_all cleared finally))

  pub after_all : Context → Stmts → Context
  after_all context no_stmt = context
  after_all context (stmt_then s ss) = after_all (after context s) ss

  pub after_groups : Context → Groups → Context
  after_groups context no_group = context
  after_groups context (group_then labels ss gs) = after_groups (after_all context ss) gs

  -- catch clauses are not lowered: of their locks alone something is known
  pub caught : Context → Catches → Context
  caught context no_catch = context
  caught context (catch_then x ss catches) =
      caught (lock_kept context (after_all (of_catch context x) ss)) catches

-- behind a `try`
abbrev pub caught_behind : Context → Catches → Context
caught_behind behind catches = lock_kept behind (caught behind catches)
