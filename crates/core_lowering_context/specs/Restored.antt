-- A contract of a public call rests on this: what is as before behind code that is not kept, and behind statements that
-- jumps and returns lead behind.
use Rattle.std.specs.Prelude.{ℕ, suc, Bool, true, ◌||◌, List, [], ◌∷◌, ◌++◌, Option, None, Some, take, drop, map}
use Rattle.std.specs.Prelude.{length}
use Rattle.racer_base.specs.declared.ids.VarId.{VarId}
use Rattle.racer_base.specs.declared.ids.Kind.{Kind}
use Rattle.java_resolver.specs.declared.scope.ScopeVariable.{ScopeVariable}
use Rattle.core_lowering_rules.specs.Context.{Context, Guard}
use Rattle.core_lowering_rules.specs.Scopes.{is_closed_by, next_variable}
use Rattle.core_lowering_rules.specs.Statements.{variable_in}

-- ---- behind what jumps and returns lead behind

-- behind a statement with a target, where so many exits were open before
abbrev pub left_target : ℕ → Context → Context
left_target exits context = record context { exits = exits; labels = []; targets = drop 1 context.targets }

-- behind the first part of a `try` with a `finally`
abbrev pub left_guard : ℕ → Context → Context
left_guard exits context = record context { exits = exits; guards = drop 1 context.guards }

-- where a return leads that is behind a `finally` first, and the variable of what is returned
abbrev pub sent_to : Context → Option (ℕ × VarId)
sent_to context = elim context.guards [
  | [] ↦ None
  | ◌∷◌ guard outer ↦ Some (guard.exit, variable_in context guard)
]

-- one more exit is open
abbrev pub with_exit : Context → Context
with_exit context = record context { exits = suc context.exits }

-- one more variable, for what is returned
abbrev pub with_given : Context → Context
with_given context = record context { kinds = context.kinds ++ context.given ∷ [] }

-- where a `try` has no variable yet for what is returned, there is one more
abbrev pub with_returned : Option VarId → Context → Context
with_returned None context = with_given context
with_returned (Some v) context = context

abbrev pub returned_in : Option VarId → Context → VarId
returned_in None context = next_variable context
returned_in (Some v) context = v

-- ---- what is noted

abbrev pub with_apart : Context → Context
with_apart context = record context { is_apart = true }

-- where a resource of this kind is closed by a method of the folder
abbrev pub with_closing : Kind → Context → Context
with_closing kind context = record context { is_apart = context.is_apart || is_closed_by context kind }

-- ---- variables

-- those in scope from this one on
abbrev pub variables_from : ℕ → Context → List VarId
variables_from at context = map (λ (v : ScopeVariable). v.id) (drop at context.scope.variables)

-- ---- code that is not kept

-- how many variables are in scope, and there so far; how many exits are open; the labels of the statement that comes;
-- where returns lead; whether there is something that sets the method apart
pub record Kept : Type 0 where
  pub variables : ℕ
  pub kinds : ℕ
  pub exits : ℕ
  pub labels : List (List ℕ)
  pub guards : List Guard
  pub is_apart : Bool

abbrev pub kept : Context → Kept
kept context =
    record {
      variables = length context.scope.variables;
      kinds = length context.kinds;
      exits = context.exits;
      labels = context.labels;
      guards = context.guards;
      is_apart = context.is_apart;
    }

abbrev pub restored : Kept → Context → Context
restored before context =
    record context {
      scope = record context.scope { variables = take before.variables context.scope.variables };
      kinds = take before.kinds context.kinds;
      exits = before.exits;
      labels = before.labels;
      guards = before.guards;
      is_apart = before.is_apart;
    }
