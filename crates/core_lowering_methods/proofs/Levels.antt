-- Behind a statement jumps lead where they led before it.
use Rattle.std.proofs.Common.{◌≡◌, ℕ, Bool, true, false, cond, List, [], ◌∷◌, Option, None, Some, drop, refl, ap, ◌∙◌}
use Rattle.std.specs.Prelude.{is_some}
use Rattle.racer_base.specs.declared.ids.VarId.{VarId}
use Rattle.java_tree.specs.Trees.{Ty}
use Rattle.core_lowering_rules.specs.Trees.{Variable, Start, Declares, Runs, Stmt, Run, Local, If, IfElse, While, Do}
use Rattle.core_lowering_rules.specs.Trees.{For, ForEach, Sync, Return, Block, Empty, Throw, Break, Continue, Labelled}
use Rattle.core_lowering_rules.specs.Trees.{Assert, Switch, Locked, Try, Finally, Resource, Stmts, no_stmt, stmt_then}
use Rattle.core_lowering_rules.specs.Trees.{Groups, no_group, group_then}
use Rattle.core_lowering_rules.specs.Context.{Context, Guard, Target}
use Rattle.core_lowering_rules.specs.Scopes.{of_type, all_declared, started, back_in, back_from, in_labelled}
use Rattle.core_lowering_rules.specs.Scopes.{with_label, is_loop, break_to, continue_to, jumped, in_guard}
use Rattle.core_lowering_rules.specs.Scopes.{out_of_guard, returned_variable, with_variable, after_last}
use Rattle.core_lowering_rules.specs.Scopes.{with_resource, with_resources, unlocked_in, after, after_all, after_groups}
use Rattle.core_lowering_rules.specs.Scopes.{caught_behind}
use Rattle.core_lowering_rules.proofs.ScopeSteps.{return_in}
use Rattle.core_lowering_context.specs.Restored.{left_target}

-- jumps lead where they led
abbrev pub Level : (before inside : Context) → Type 0
Level before inside = inside.targets ≡ before.targets

level-declared : (context : Context) (t : Ty) (vs : List Variable) → Level context (all_declared context t vs)
level-declared context t [] = refl
level-declared context t (v ∷ vs) = level-declared (of_type context t v.arrays v.name) t vs

level-started : (context : Context) (i : Start) → Level context (started context i)
level-started context (Declares t vs) = level-declared context t vs
level-started context (Runs es) = refl

level-resources : (context : Context) (rs : List Resource) → Level context (with_resources context rs)
level-resources context [] = refl
level-resources context (r ∷ rs) = level-resources (with_resource context r) rs

level-jumped : (context : Context) (o : Option ℕ) → Level context (jumped context o)
level-jumped context None = refl
level-jumped context (Some exit) = refl

level-either : (b : Bool) (context first second : Context) → Level context first → Level context second →
    Level context (cond b first second)
level-either true context first second p q = p
level-either false context first second p q = q

level-return_in : (context : Context) (guards : List Guard) → Level context (return_in context guards)
level-return_in context [] = refl
level-return_in context (guard ∷ outer) =
    level-either (is_some guard.variable) context context (with_variable context guard outer) refl refl

level-after_last : (context : Context) (o : Option VarId) → Level context (after_last o context)
level-after_last context None = refl
level-after_last context (Some v) = level-return_in context context.guards

mutual
  pub level-after : (context : Context) (s : Stmt) → Level context (after context s)
  level-after context (Run e) = refl
  level-after context (Local t vs) = level-declared context t vs
  level-after context (If e s) = level-after context s
  level-after context (IfElse e s t) = level-after (after context s) t ∙ level-after context s
  level-after context (While c s) = refl
  level-after context (Do s c) = refl
  level-after context (For i c updates s) = level-started context i
  level-after context (ForEach t x e s) = refl
  level-after context (Sync place e ss) = level-after_all context ss
  level-after context (Return e) = level-return_in context context.guards
  level-after context (Block ss) = level-after_all context ss
  level-after context Empty = refl
  level-after context (Throw place e) = refl
  level-after context (Break x) = level-jumped context (break_to context x)
  level-after context (Continue x) = level-jumped context (continue_to context x)
  level-after context (Labelled x s) =
      level-either (is_loop s) context (after (with_label context x) s)
      (back_from context (after (in_labelled context x) s)) (level-after (with_label context x) s) refl
  level-after context (Assert e told) = refl
  level-after context (Switch e gs) = refl
  level-after context (Locked place e ss catches) = level-after_all context ss
  level-after context (Try rs ss catches) =
      level-after_all (with_resources context rs) ss ∙ level-resources context rs
  level-after context (Finally rs ss catches finally) =
      let guarded = in_guard context in
      let inside = after_all (with_resources guarded rs) ss in
      let behind = back_in context (out_of_guard context inside) in
      let cleared = unlocked_in (caught_behind behind catches) finally in
      let last = after_all cleared finally in
      level-after_last (back_in cleared last) (returned_variable inside)
      ∙ level-after_all cleared finally
      ∙ level-after_all (with_resources guarded rs) ss
      ∙ level-resources guarded rs

  pub level-after_all : (context : Context) (ss : Stmts) → Level context (after_all context ss)
  level-after_all context no_stmt = refl
  level-after_all context (stmt_then s ss) = level-after_all (after context s) ss ∙ level-after context s

pub level-after_groups : (context : Context) (gs : Groups) → Level context (after_groups context gs)
level-after_groups context no_group = refl
level-after_groups context (group_then labels ss gs) =
    level-after_groups (after_all context ss) gs ∙ level-after_all context ss

-- out of a statement that jumps lead behind
pub target-left : (before inside : Context) (exit : ℕ) → exit ≡ before.exits →
    drop 1 inside.targets ≡ before.targets → left_target exit inside ≡ back_from before inside
target-left before inside exit p q =
    ap (λ (e : ℕ). left_target e inside) p
    ∙ ap (λ (ts : List Target). record inside { exits = before.exits; labels = []; targets = ts }) q
