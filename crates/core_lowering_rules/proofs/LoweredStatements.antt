-- A fact of lowered code holds of the drafts of all statements. The list of a block goes on by one statement a row.
use Rattle.std.proofs.Common.{◌≡◌, ℕ, suc, Bool, true, false, cond, ◌&&◌, List, [], ◌∷◌, ◌++◌, Option, Some, None}
use Rattle.std.proofs.Common.{refl, subst, sym, ap, ◌∙◌}
use Rattle.racer_base.specs.declared.ids.VarId.{VarId}
use Rattle.racer_base.specs.declared.ids.Kind.{Kind}
use Rattle.racer_base.specs.declared.ids.Kind.TheVariants as types
use Rattle.java_tree.specs.Trees.{Ty}
use Rattle.core_code.specs.declared.code.Reason.{Reason}
use Rattle.core_code.specs.declared.code.LockKind.TheVariants.{Own, Explicit}
use Rattle.core_code.specs.declared.code.Op.{Op as CoreOp}
use Rattle.core_code.specs.declared.code.Op.TheVariants.{PushPrim, Drop, Set, Outside, Ret, Push}
use Rattle.core_code.specs.declared.code.Op.TheVariants as core
use Rattle.core_lowering_drafts.specs.Drafts.{Ends, Exit, has, Op, Leave}
use Rattle.core_lowering_rules.specs.Trees.{Expr, Exprs, no_expr, expr_then, Init, Variable, Start, Declares, Runs}
use Rattle.core_lowering_rules.specs.Trees.{Condition, Resource, Stmt, Run, Local, If, IfElse, While, Do, For, ForEach}
use Rattle.core_lowering_rules.specs.Trees.{Sync, Return, Block, Empty, Throw, Break, Continue, Labelled, Assert}
use Rattle.core_lowering_rules.specs.Trees.{Switch}
use Rattle.core_lowering_rules.specs.Trees.{Locked, Try, Finally, Stmts, no_stmt, stmt_then, Groups, no_group}
use Rattle.core_lowering_rules.specs.Trees.{group_then}
use Rattle.core_lowering_rules.specs.Context.{Context, Guard, Itself, Nothing, Value, Result, Code, ends_of, op}
use Rattle.core_lowering_rules.specs.Context.{type_kind, variable_kind_in}
use Rattle.core_lowering_rules.specs.Context.{within, guarded}
use Rattle.core_lowering_rules.specs.Expressions.{kind, code, stored, init_kind}
use Rattle.core_lowering_rules.specs.Scopes.{next_variable, started, back_in, after, after_all, after_groups}
use Rattle.core_lowering_rules.specs.Scopes.{new_variables, in_loop, in_switch, in_labelled, with_label, is_loop}
use Rattle.core_lowering_rules.specs.Scopes.{break_to, of_type}
use Rattle.core_lowering_rules.specs.Scopes.{continue_to, in_guard, out_of_guard, returned_variable}
use Rattle.core_lowering_rules.specs.Scopes.{with_resource, with_resources, unlocked_in}
use Rattle.core_lowering_rules.specs.Scopes.{caught_behind}
use Rattle.core_lowering_rules.specs.Statements.{run, gone_over, run_all, set, begun, begun_all, start, tested, is_endless}
use Rattle.core_lowering_rules.specs.Statements.{closed, jump, returned_nothing, returned_value, variable_in, returned}
use Rattle.core_lowering_rules.specs.Statements.{broken, one_round, entered, does_fall, has_default}
use Rattle.core_lowering_rules.specs.Statements.{begun_resource, begun_resources, last_of, kept_null, stmt, stmts}
use Rattle.core_lowering_rules.specs.Statements.{options}
use Rattle.core_lowering_rules.proofs.LoweredFacts.{Grounded, Fact, is_named, joined, follows}
use Rattle.core_lowering_rules.proofs.LoweredFacts.{follows_3, branches}
use Rattle.core_lowering_rules.proofs.LoweredFacts.{again_and_again, under, by_tests, within_exit, ends_null}
use Rattle.core_lowering_rules.proofs.LoweredFacts.{guarded_by}
use Rattle.core_lowering_rules.proofs.LoweredTouches.{looked-stands}
use Rattle.core_lowering_rules.proofs.LoweredExpressions.{here, conv, code-holds, stored-holds, init-holds}
use Rattle.core_lowering_rules.proofs.PlacedTrees.{PlacedExpr, PlacedExprs, PlacedOption, PlacedBegin, PlacedVariables}
use Rattle.core_lowering_rules.proofs.PlacedTrees.{PlacedStart, PlacedCondition, PlacedResources, PlacedStmt}
use Rattle.core_lowering_rules.proofs.PlacedTrees.{PlacedStmts}
use Rattle.core_lowering_rules.proofs.PlacedTrees.{PlacedGroups}
use Rattle.core_lowering_rules.proofs.ScopeSteps.{ScopeFact}
use Rattle.core_lowering_rules.proofs.ScopeSteps.{goes-started}
use Rattle.core_lowering_rules.proofs.ScopeSteps.{goes-switch, goes-labelled, goes-label}
use Rattle.core_lowering_rules.proofs.ScopeSteps.{goes-resource, goes-resources, goes-unlocked, goes-clauses}
use Rattle.core_lowering_rules.proofs.StatusesUnseen.{with_statuses}
use Rattle.core_lowering_rules.proofs.LoweredScopes.{Beside, declares, backs, guards, unguards, stays-beside}
use Rattle.core_lowering_rules.proofs.LoweredScopes.{same-variable, after-beside, after_all-beside, groups-beside}
use Rattle.core_lowering_rules.proofs.LoweredScopes.{loop-beside}
use Rattle.core_lowering_rules.proofs.LoweredGroups.{AllStand, SomeStands, all-append, all-by, forked-stand}
use Rattle.core_lowering_rules.proofs.LoweredGroups.{entered-stands, falls-alike, default-stands}

-- where a return goes
abbrev pub sent_by : Context → List Guard → Code
sent_by context guards = elim guards [
  | [] ↦ op context Ret
  | ◌∷◌ guard outer ↦ set context (variable_in context guard) ++ Leave guard.exit ∷ []
]

abbrev guarded_at : Context → (body finally last : Code) → Code
guarded_at context body finally last = guarded context.exits body finally last

module _ (f : Fact) (statuses : List (Option Reason)) where
  abbrev other : Context → Context
  other context = with_statuses statuses context

  abbrev Pair : Context → Context → Type 0
  Pair x c = Beside f statuses x c

  abbrev stays : ScopeFact
  stays = stays-beside f statuses

  -- ---- parts of statements

  -- of two contexts, where it holds of one with other statuses
  pub moved : (x c : Context) → Pair x c → (F : Context → Code) →
      (Grounded f.tests c → f.Stands (F (other c)) (F c)) → f.Stands (F x) (F c)
  moved x c b F step = subst (λ (y : Context). f.Stands (F y) (F c)) (sym b.same) (step b.grounded)

  pub value-moved : (x c : Context) → Pair x c → (F : Context → Code) →
      (Grounded f.tests c → f.Holds (F (other c)) (F c)) → f.Holds (F x) (F c)
  value-moved x c b F step = subst (λ (y : Context). f.Holds (F y) (F c)) (sym b.same) (step b.grounded)

  pub op-stands : (x c : Context) → Pair x c → (o : CoreOp) →
      is_named f.tests.is_class f.tests.is_method o ≡ true → f.Stands (op x o) (op c o)
  op-stands x c b o h = moved x c b (λ y. op y o) (λ g. f.done c.place o g.here h)

  expr-holds : (x c : Context) → Pair x c → (e : Expr) → PlacedExpr f.tests.is_place e → f.Holds (code x e) (code c e)
  expr-holds x c b e h = value-moved x c b (λ y. code y e) (λ g. code-holds f statuses c g e h)

  -- a value, and the operation behind it
  pub ran : (c : Context) → Grounded f.tests c → (o : CoreOp) → is_named f.tests.is_class f.tests.is_method o ≡ true →
      {a e : Code} → f.Holds a e → f.Stands (a ++ op (other c) o) (e ++ op c o)
  ran c g o h {a} {e} p = f.behind a e p (Op c.place o) (Op c.place o) [] [] (f.done c.place o g.here h)

  run-stands : (x c : Context) → Pair x c → (e : Expr) → PlacedExpr f.tests.is_place e → f.Stands (run x e) (run c e)
  run-stands x c b e h = moved x c b (λ y. run y e) (λ g. ran c g Drop refl (code-holds f statuses c g e h))

  run-holds : (c : Context) → Grounded f.tests c → (e : Expr) → PlacedExpr f.tests.is_place e →
      f.Holds (run (other c) e) (run c e)
  run-holds c g e h = joined f (code-holds f statuses c g e h) (here f statuses c g Drop refl)

  gone-stands : (x c : Context) → Pair x c → (e : Expr) → PlacedExpr f.tests.is_place e →
      f.Stands (gone_over x e) (gone_over c e)
  gone-stands x c b e h =
      moved x c b (λ y. gone_over y e)
      (λ g. looked-stands f statuses c g (stored (other c) e) (stored c e) (stored-holds f statuses c g e h)
      (ran c g Drop refl (code-holds f statuses c g e h)))

  run_all-stand : (x c : Context) → Pair x c → (es : Exprs) → PlacedExprs f.tests.is_place es →
      f.Stands (run_all x es) (run_all c es)
  run_all-stand x c b no_expr h = f.none
  run_all-stand x c b (expr_then e es) h = follows f (run-stands x c b e h.0) (run_all-stand x c b es h.1)

  tested-stands : (x c : Context) → Pair x c → (o : Option Condition) → PlacedCondition f.tests.is_place o →
      f.Stands (tested x o) (tested c o)
  tested-stands x c b None h = f.none
  tested-stands x c b (Some e) h = run-stands x c b e.on h

  set-stands : (c : Context) → Grounded f.tests c → (v : VarId) → f.Stands (set (other c) v) (set c v)
  set-stands c g v =
      f.in_turn (op c (Set v)) (op c Drop) (op c (Set v)) (op c Drop) (f.done c.place (Set v) g.here refl)
      (f.done c.place Drop g.here refl)

  -- a value that a variable is set to
  value-set : (c : Context) → Grounded f.tests c → (v : VarId) {a e : Code} → f.Holds a e →
      f.Stands (a ++ set (other c) v) (e ++ set c v)
  value-set c g v {a} {e} p =
      f.behind a e p (Op c.place (Set v)) (Op c.place (Set v)) (op c Drop) (op c Drop) (set-stands c g v)

  begun-stands : (c : Context) → Grounded f.tests c → (v : VarId) (k : Kind) (o : Option Init) →
      PlacedBegin f.tests.is_place o → f.Stands (begun (other c) v k o) (begun c v k o)
  begun-stands c g v k None h = f.none
  begun-stands c g v k (Some i) h =
      value-set c g v
      (joined f (init-holds f statuses c g i h) (conv f statuses c g k k (init_kind (other c) i) (init_kind c i)))

  begun_all-stand : (x c : Context) → Pair x c → (t : Ty) (vs : List Variable) →
      PlacedVariables f.tests.is_place vs → f.Stands (begun_all x t vs) (begun_all c t vs)
  begun_all-stand x c b t [] h = f.none
  begun_all-stand x c b t (v ∷ vs) h =
      let n = v.arrays in
      let inside = declares f statuses x c t n v.name b in
      follows f
      (moved x c b
      (λ y. begun (of_type y t n v.name) (next_variable y) (variable_kind_in y t n).kind v.initialiser)
      (λ g. begun-stands (of_type c t n v.name) inside.grounded (next_variable c) (variable_kind_in c t n).kind
      v.initialiser h.0))
      (begun_all-stand (of_type x t n v.name) (of_type c t n v.name) inside t vs h.1)

  start-stands : (x c : Context) → Pair x c → (i : Start) → PlacedStart f.tests.is_place i →
      f.Stands (start x i) (start c i)
  start-stands x c b (Declares t vs) h = begun_all-stand x c b t vs h
  start-stands x c b (Runs es) h = run_all-stand x c b es h

  pub closed-stands : (x c y d : Context) → Pair x c → Pair y d → {a e : Code} → f.Stands a e →
      f.Stands (closed x y a) (closed c d e)
  closed-stands x c y d b p {a} {e} h =
      subst (λ (z : Context). f.Stands (closed x z a) (closed c d e)) (sym p.same)
      (subst (λ (z : Context). f.Stands (closed z (other d) a) (closed c d e)) (sym b.same)
      (ends_null f c.place (new_variables c d) (let g = b.grounded in g.here) h))

  -- the next variable takes an element
  element-stands : (x c : Context) → Pair x c →
      f.Stands (op x (Outside 0) ++ set x (next_variable x)) (op c (Outside 0) ++ set c (next_variable c))
  element-stands x c b =
      moved x c b (λ y. op y (Outside 0) ++ set y (next_variable y))
      (λ g. value-set c g (next_variable c) (here f statuses c g (Outside 0) refl))

  -- ---- jumps and returns

  jump-stands : (o : Option ℕ) → f.Stands (jump o) (jump o)
  jump-stands None = f.none
  jump-stands (Some exit) = f.left exit

  nothing-holds : (c : Context) → Grounded f.tests c → (r : Result) →
      f.Holds (returned_nothing (other c) r) (returned_nothing c r)
  nothing-holds c g Itself = here f statuses c g (Push (record { 0 = 0 })) refl
  nothing-holds c g Nothing = here f statuses c g PushPrim refl
  nothing-holds c g (Value types.Plain) = here f statuses c g PushPrim refl
  nothing-holds c g (Value (types.Declared i)) = here f statuses c g (Outside 0) refl
  nothing-holds c g (Value types.Other) = here f statuses c g (Outside 0) refl

  value-holds : (c : Context) → Grounded f.tests c → (r : Result) (e : Expr) → PlacedExpr f.tests.is_place e →
      f.Holds (returned_value (other c) r e) (returned_value c r e)
  value-holds c g Itself e h = joined f (run-holds c g e h) (here f statuses c g (Push (record { 0 = 0 })) refl)
  value-holds c g Nothing e h = joined f (run-holds c g e h) (here f statuses c g PushPrim refl)
  value-holds c g (Value k) e h =
      joined f (code-holds f statuses c g e h) (conv f statuses c g k k (kind (other c) e) (kind c e))

  sent-stands : (c : Context) → Grounded f.tests c → {a e : Code} → f.Holds a e → (all : List Guard) →
      f.Stands (a ++ sent_by (other c) all) (e ++ sent_by c all)
  sent-stands c g p [] = ran c g Ret refl p
  sent-stands c g {a} {e} p (guard ∷ outer) =
      let v = variable_in c guard in
      f.behind a e p (Op c.place (Set v)) (Op c.place (Set v)) (Op c.place Drop ∷ Leave guard.exit ∷ [])
      (Op c.place Drop ∷ Leave guard.exit ∷ [])
      (f.in_turn (set c v) (Leave guard.exit ∷ []) (set c v) (Leave guard.exit ∷ []) (set-stands c g v)
      (f.left guard.exit))

  pub returned-stands : (x c : Context) → Pair x c → (o : Option Expr) → PlacedOption f.tests.is_place o →
      f.Stands (returned x o) (returned c o)
  returned-stands x c b o h = moved x c b (λ y. returned y o) (λ g. by g o h)
    where
      by : Grounded f.tests c → (o : Option Expr) → PlacedOption f.tests.is_place o →
          f.Stands (returned (other c) o) (returned c o)
      by g None h = sent-stands c g (nothing-holds c g c.result) c.guards
      by g (Some e) h = sent-stands c g (value-holds c g c.result e h) c.guards

  -- ---- loops

  within-stands : (x c : Context) → Pair x c → {a e : Code} → f.Stands a e →
      f.Stands (within x.exits a) (within c.exits e)
  within-stands x c b p = within_exit f x.exits c.exits (ap (λ (y : Context). y.exits) b.same) p

  round-stands : (x c : Context) → Pair x c → {a e : Code} → f.Stands a e →
      f.Stands (one_round x a) (one_round c e)
  round-stands x c b p = within_exit f (suc x.exits) (suc c.exits) (ap (λ (y : Context). suc y.exits) b.same) p

  broken-stands : (x c : Context) → Pair x c → (is_endless : Bool) {a e r s : Code} → f.Stands a e → f.Stands r s →
      f.Stands (broken x is_endless a r) (broken c is_endless e s)
  broken-stands x c b endless {a} {e} p q =
      within-stands x c b (follows f q
      (by_tests f (endless && has (ends_of a) (Exit x.exits)) (endless && has (ends_of e) (Exit c.exits))
      (ap (λ (es : Ends). endless && has es (Exit x.exits)) (f.same_ends a e p)
      ∙ ap (λ (y : Context). endless && has (ends_of e) (Exit y.exits)) b.same) f.never f.none))

  -- ---- resources, and what is done last

  resources-stand : (x c : Context) → Pair x c → (rs : List Resource) → PlacedResources f.tests.is_place rs →
      f.Stands (begun_resources x rs) (begun_resources c rs)
  resources-stand x c b [] h = f.none
  resources-stand x c b (r ∷ rs) h =
      let p : Pair (with_resource x r) (with_resource c r) = goes-resource stays x c r b in
      follows f
      (moved x c b (λ y. begun_resource y r) (λ g. resource-stands c g r p.grounded h.0))
      (resources-stand (with_resource x r) (with_resource c r) p rs h.1)
    where
      resource-stands : (c : Context) → Grounded f.tests c → (r : Resource) → Grounded f.tests (with_resource c r) →
          PlacedExpr f.tests.is_place r.value → f.Stands (begun_resource (other c) r) (begun_resource c r)
      resource-stands c g r i h =
          let inside = with_resource c r in
          let k = type_kind c r.kind in
          value-set inside i (next_variable c)
          (joined f (code-holds f statuses inside i r.value h)
          (conv f statuses inside i k k (kind (other inside) r.value) (kind inside r.value)))

  last-stands : (x c : Context) → Pair x c → (o : Option VarId) → f.Stands (last_of x o) (last_of c o)
  last-stands x c b None = f.none
  last-stands x c b (Some v) =
      moved x c b (λ y. last_of y (Some v))
      (λ g. sent-stands c g (here f statuses c g (Push v) refl) c.guards)

  null-stands : (x c : Context) → Pair x c → (o : Option VarId) {a e : Code} → f.Stands a e →
      f.Stands (kept_null x o a) (kept_null c o e)
  null-stands x c b None p = p
  null-stands x c b (Some v) {a} {e} p =
      let g = b.grounded in
      subst (λ (y : Context). f.Stands (kept_null y (Some v) a) (kept_null c (Some v) e)) (sym b.same)
      (ends_null f c.place (v ∷ []) g.here p)

  -- what stands behind the first part of a `try`, with the variable of what was returned there
  finally-stands : (x c y d z e : Context) → Pair x c → Pair y d → Pair z e → {a q r s : Code} → f.Stands a r →
      f.Stands q s →
      f.Stands (kept_null x (returned_variable y) (guarded_at x a q (last_of z (returned_variable y))))
      (kept_null c (returned_variable d) (guarded_at c r s (last_of e (returned_variable d))))
  finally-stands x c y d z e b p l {a} {q} {r} {s} h k =
      subst (λ (o : Option VarId).
      f.Stands (kept_null x o (guarded_at x a q (last_of z o)))
      (kept_null c (returned_variable d) (guarded_at c r s (last_of e (returned_variable d)))))
      (sym (same-variable f statuses y d p))
      (null-stands x c b (returned_variable d)
      (guarded_by f x.exits c.exits (ap (λ (y : Context). y.exits) b.same) h k
      (last-stands z e l (returned_variable d))))

  -- ---- statements

  by-loop : (is_first : Bool) {a c e g : Code} → f.Stands a e → f.Stands c g →
      f.Stands (cond is_first a c) (cond is_first e g)
  by-loop true p q = p
  by-loop false p q = q

  mutual
    stmt-stands : (x c : Context) → Pair x c → (s : Stmt) → PlacedStmt f.tests.is_place s →
        f.Stands (stmt x s) (stmt c s)
    stmt-stands x c b (Run e) h = run-stands x c b e h
    stmt-stands x c b (Local t vs) h = begun_all-stand x c b t vs h
    stmt-stands x c b (If e s) h =
        follows f (run-stands x c b e h.0) (branches f (stmt-stands x c b s h.1) f.none)
    stmt-stands x c b (IfElse e s t) h =
        follows f (run-stands x c b e h.0)
        (branches f (stmt-stands x c b s h.1)
        (stmt-stands (after x s) (after c s) (after-beside f statuses x c b s) t h.2))
    stmt-stands x c b (While e s) h =
        let y = in_loop x in
        let d = in_loop c in
        let p = loop-beside f statuses x c b in
        let body = stmt-stands y d p s h.1 in
        follows f (run-stands x c b e.on h.0)
        (broken-stands x c b e.is_true body
        (again_and_again f (follows f (round-stands x c b body)
        (run-stands (after y s) (after d s) (after-beside f statuses y d p s) e.on h.0))))
    stmt-stands x c b (Do s e) h =
        let y = in_loop x in
        let d = in_loop c in
        let p = loop-beside f statuses x c b in
        let body = stmt-stands y d p s h.1 in
        let turn = follows f (round-stands x c b body)
        (run-stands (after y s) (after d s) (after-beside f statuses y d p s) e.on h.0) in
        broken-stands x c b e.is_true body (follows f turn (again_and_again f turn))
    stmt-stands x c b (For i e updates s) h =
        let y = started x i in
        let d = started c i in
        let p : Pair y d = goes-started stays x c i b in
        let inner = loop-beside f statuses y d p in
        let z = after (in_loop y) s in
        let n = after (in_loop d) s in
        let q : Pair z n = after-beside f statuses (in_loop y) (in_loop d) inner s in
        let body = stmt-stands (in_loop y) (in_loop d) inner s h.3 in
        closed-stands x c z n b q
        (follows_3 f (start-stands x c b i h.0) (tested-stands y d p e h.1)
        (broken-stands y d p (is_endless e) body
        (again_and_again f (follows_3 f (round-stands y d p body) (run_all-stand z n q updates h.2)
        (tested-stands z n q e h.1)))))
    stmt-stands x c b (ForEach t name e s) h =
        let y = of_type x t 0 name in
        let d = of_type c t 0 name in
        let p = declares f statuses x c t 0 name b in
        let inner = loop-beside f statuses y d p in
        let z = after (in_loop y) s in
        let n = after (in_loop d) s in
        let body = stmt-stands (in_loop y) (in_loop d) inner s h.1 in
        closed-stands x c z n b (after-beside f statuses (in_loop y) (in_loop d) inner s)
        (follows f (gone-stands x c b e h.0)
        (broken-stands y d p false body
        (again_and_again f (follows f (element-stands x c b) (round-stands y d p body)))))
    stmt-stands x c b (Sync place e ss) h =
        let block = under f Own place h.0 (closed-stands x c (after_all x ss) (after_all c ss) b
        (after_all-beside f statuses x c b ss) (stmts-stand x c b ss h.2)) in
        f.behind (code x e) (code c e) (expr-holds x c b e h.1) _ _ [] [] block
    stmt-stands x c b (Return e) h = returned-stands x c b e h
    stmt-stands x c b (Block ss) h =
        closed-stands x c (after_all x ss) (after_all c ss) b (after_all-beside f statuses x c b ss)
        (stmts-stand x c b ss h)
    stmt-stands x c b Empty h = f.none
    stmt-stands x c b (Throw place e) h =
        follows f (run-stands x c b e h.1) (f.done place core.Throw h.0 refl)
    stmt-stands x c b (Break o) h =
        moved x c b (λ y. jump (break_to y o)) (λ g. jump-stands (break_to c o))
    stmt-stands x c b (Continue o) h =
        moved x c b (λ y. jump (continue_to y o)) (λ g. jump-stands (continue_to c o))
    stmt-stands x c b (Labelled name s) h =
        let y = with_label x name in
        let d = with_label c name in
        let z = in_labelled x name in
        let n = in_labelled c name in
        by-loop (is_loop s) (stmt-stands y d (goes-label stays x c name b) s h)
        (within-stands x c b (stmt-stands z n (goes-labelled stays x c name b) s h))
    stmt-stands x c b (Assert e told) h = branches f (run-stands x c b e h) f.none
    stmt-stands x c b (Switch e gs) h =
        let y = in_switch x in
        let d = in_switch c in
        let p : Pair y d = goes-switch stays x c b in
        let rest : List Code = cond (has_default gs) [] ([] ∷ []) in
        follows f (run-stands x c b e h.0)
        (closed-stands x c (after_groups y gs) (after_groups d gs) b (groups-beside f statuses y d p gs)
        (within-stands x c b (forked-stand f (options y None gs ++ rest) (options d None gs ++ rest)
        (all-append f (options y None gs) rest (options d None gs) rest (options-stand y d p None None tt gs h.1)
        (default-stands f (has_default gs))))))
    stmt-stands x c b (Locked place e ss catches) h =
        let block = under f Explicit place h.0 (closed-stands x c (after_all x ss) (after_all c ss) b
        (after_all-beside f statuses x c b ss) (stmts-stand x c b ss h.2)) in
        f.behind (code x e) (code c e) (expr-holds x c b e h.1) _ _ [] [] block
    stmt-stands x c b (Try rs ss catches) h =
        let y = with_resources x rs in
        let d = with_resources c rs in
        let p : Pair y d = goes-resources stays x c rs b in
        closed-stands x c y d b p
        (follows f (resources-stand x c b rs h.0)
        (closed-stands y d (after_all y ss) (after_all d ss) p (after_all-beside f statuses y d p ss)
        (stmts-stand y d p ss h.1)))
    stmt-stands x c b (Finally rs ss catches finally) h =
        let g = in_guard x in
        let u = in_guard c in
        let guarded_pair = guards f statuses x c b in
        let y = with_resources g rs in
        let d = with_resources u rs in
        let p : Pair y d = goes-resources stays g u rs guarded_pair in
        let z = after_all y ss in
        let n = after_all d ss in
        let q : Pair z n = after_all-beside f statuses y d p ss in
        let body = closed-stands x c y d b p
        (follows f (resources-stand g u guarded_pair rs h.0) (closed-stands y d z n p q (stmts-stand y d p ss h.1))) in
        let out_x = back_in x (out_of_guard x z) in
        let out_c = back_in c (out_of_guard c n) in
        let out = backs f statuses x c (out_of_guard x z) (out_of_guard c n) b (unguards f statuses x c z n b q) in
        let caught_x = caught_behind out_x catches in
        let caught_c = caught_behind out_c catches in
        let i = unlocked_in caught_x finally in
        let j = unlocked_in caught_c finally in
        let begins : Pair i j = goes-unlocked stays caught_x caught_c finally
        (goes-clauses stays out_x out_c catches out) in
        let ends = after_all-beside f statuses i j begins finally in
        finally-stands x c z n (back_in i (after_all i finally)) (back_in j (after_all j finally)) b q
        (backs f statuses i j (after_all i finally) (after_all j finally) begins ends) body
        (closed-stands i j (after_all i finally) (after_all j finally) begins ends (stmts-stand i j begins finally h.2))

    pub stmts-stand : (x c : Context) → Pair x c → (ss : Stmts) → PlacedStmts f.tests.is_place ss →
        f.Stands (stmts x ss) (stmts c ss)
    stmts-stand x c b no_stmt h = f.none
    stmts-stand x c b (stmt_then s ss) h =
        follows f (stmt-stands x c b s h.0)
        (stmts-stand (after x s) (after c s) (after-beside f statuses x c b s) ss h.1)

    options-stand : (x c : Context) → Pair x c → (o p : Option Code) → SomeStands f o p → (gs : Groups) →
        PlacedGroups f.tests.is_place gs → AllStand f (options x o gs) (options c p gs)
    options-stand x c b o p s no_group h = tt
    options-stand x c b o p s (group_then labels ss gs) h =
        let y = after_all x ss in
        let d = after_all c ss in
        let behind = after_all-beside f statuses x c b ss in
        let a = entered o ++ stmts x ss in
        let e = entered p ++ stmts c ss in
        let group = follows f (entered-stands f o p s) (stmts-stand x c b ss h.0) in
        all-by f (does_fall a gs) (does_fall e gs) (falls-alike f a e group gs) (options y (Some a) gs)
        (a ∷ options y None gs) (options d (Some e) gs) (e ∷ options d None gs)
        (options-stand y d behind (Some a) (Some e) group gs h.1)
        (group, options-stand y d behind None None tt gs h.1)

  pub block-stands : (x c : Context) → Pair x c → (ss : Stmts) → PlacedStmts f.tests.is_place ss →
      f.Stands (closed x (after_all x ss) (stmts x ss)) (closed c (after_all c ss) (stmts c ss))
  block-stands x c b ss h =
      closed-stands x c (after_all x ss) (after_all c ss) b (after_all-beside f statuses x c b ss)
      (stmts-stand x c b ss h)
