-- Trees that are lowered, all of whose places pass a test.
use Rattle.std.proofs.Common.{Bool, true, false, ◌&&◌, if◌then◌else◌, List, [], ◌∷◌, Option, Some, None, ◌≡◌, codes}
use Rattle.std.proofs.Common.{refl, subst}
use Rattle.std.specs.Prelude.{bytes_eq}
use Rattle.java_tree.specs.declared.words.Ident.{Ident}
use Rattle.racer_base.specs.declared.ids.Place.{Place}
use Rattle.core_lowering_rules.specs.Trees.{Expr, Unknown, This, ClassOf, Read, Unary, Cast, Binary, Logical}
use Rattle.core_lowering_rules.specs.Trees.{Conditional}
use Rattle.core_lowering_rules.specs.Trees.{Assign, Combine, Count, Call, CallOn, New, NewBody, NewArray, NewItems}
use Rattle.core_lowering_rules.specs.Trees.{Paren}
use Rattle.core_lowering_rules.specs.Trees.{ThisOf, Refer, ToExpr, ToType}
use Rattle.core_lowering_rules.specs.Trees.{Access, Named, Selected, Element, NoAccess, Exprs, no_expr, expr_then, Init}
use Rattle.core_lowering_rules.specs.Trees.{Value, Items, Inits, no_init, init_then, Variable, Start, Declares, Runs}
use Rattle.core_lowering_rules.specs.Trees.{Condition, Resource, Stmt, Run, Local, If, IfElse, While, Do, For, ForEach}
use Rattle.core_lowering_rules.specs.Trees.{Sync, Return, Block, Empty, Throw, Break, Continue, Labelled, Assert}
use Rattle.core_lowering_rules.specs.Trees.{Switch}
use Rattle.core_lowering_rules.specs.Trees.{Locked, Try, Finally, Stmts, no_stmt, stmt_then, Groups, no_group}
use Rattle.core_lowering_rules.specs.Trees.{group_then}
use Rattle.core_lowering_rules.specs.Trees.{Catches, plain_call, run_call, do_unlock, lock_of, lock_before, joined}
use Rattle.core_lowering_rules.specs.Trees.{put_before}
use Rattle.core_lowering_rules.specs.Trees as tree

some-same : {A : Type 0} {x y : A} → Some x ≡ Some y → x ≡ y
some-same e = cc

chosen-same : {A : Type 0} (b : Bool) (x y : A) → (if b then Some x else None) ≡ Some y → x ≡ y
chosen-same true x y e = some-same e
chosen-same false x y e = absurd cc

abbrev pub Passes : (Place → Bool) → Place → Type 0
Passes test place = test place ≡ true

abbrev mutual
  pub PlacedExpr : (Place → Bool) → Expr → Type 0
  PlacedExpr test tree.Prim = Unit {0}
  PlacedExpr test Unknown = Unit {0}
  PlacedExpr test tree.Null = Unit {0}
  PlacedExpr test This = Unit {0}
  PlacedExpr test (ClassOf xs) = Unit {0}
  PlacedExpr test (ThisOf xs) = Unit {0}
  PlacedExpr test (Refer (ToExpr e)) = PlacedExpr test e
  PlacedExpr test (Refer ToType) = Unit {0}
  PlacedExpr test (Read a) = PlacedAccess test a
  PlacedExpr test (Unary e) = PlacedExpr test e
  PlacedExpr test (Cast t e) = PlacedExpr test e
  PlacedExpr test (Binary a b) = PlacedExpr test a × PlacedExpr test b
  PlacedExpr test (Logical a b) = PlacedExpr test a × PlacedExpr test b
  PlacedExpr test (Conditional c a b) = PlacedExpr test c × PlacedExpr test a × PlacedExpr test b
  PlacedExpr test (Assign a e) = PlacedAccess test a × PlacedExpr test e
  PlacedExpr test (Combine a e) = PlacedAccess test a × PlacedExpr test e
  PlacedExpr test (Count a) = PlacedAccess test a
  PlacedExpr test (Call x es) = Passes test x.place × PlacedExprs test es
  PlacedExpr test (CallOn e x es) = PlacedExpr test e × Passes test x.place × PlacedExprs test es
  PlacedExpr test (New place t es) = Passes test place × PlacedExprs test es
  PlacedExpr test (NewBody place t es) = Passes test place × PlacedExprs test es
  PlacedExpr test (NewArray place lengths) = Passes test place × PlacedExprs test lengths
  PlacedExpr test (NewItems place items) = Passes test place × PlacedInits test items
  PlacedExpr test (Paren e) = PlacedExpr test e

  pub PlacedAccess : (Place → Bool) → Access → Type 0
  PlacedAccess test (Named x) = Passes test x.place
  PlacedAccess test (Selected e x) = PlacedExpr test e × Passes test x.place
  PlacedAccess test (Element a i) = PlacedExpr test a × PlacedExpr test i
  PlacedAccess test NoAccess = Unit {0}

  pub PlacedExprs : (Place → Bool) → Exprs → Type 0
  PlacedExprs test no_expr = Unit {0}
  PlacedExprs test (expr_then e es) = PlacedExpr test e × PlacedExprs test es

  pub PlacedInit : (Place → Bool) → Init → Type 0
  PlacedInit test (Value e) = PlacedExpr test e
  PlacedInit test (Items items) = PlacedInits test items

  pub PlacedInits : (Place → Bool) → Inits → Type 0
  PlacedInits test no_init = Unit {0}
  PlacedInits test (init_then i is) = PlacedInit test i × PlacedInits test is

abbrev pub PlacedOption : (Place → Bool) → Option Expr → Type 0
PlacedOption test None = Unit {0}
PlacedOption test (Some e) = PlacedExpr test e

abbrev pub PlacedBegin : (Place → Bool) → Option Init → Type 0
PlacedBegin test None = Unit {0}
PlacedBegin test (Some i) = PlacedInit test i

abbrev pub PlacedVariables : (Place → Bool) → List Variable → Type 0
PlacedVariables test [] = Unit {0}
PlacedVariables test (v ∷ vs) = PlacedBegin test v.initialiser × PlacedVariables test vs

abbrev pub PlacedStart : (Place → Bool) → Start → Type 0
PlacedStart test (Declares t vs) = PlacedVariables test vs
PlacedStart test (Runs es) = PlacedExprs test es

abbrev pub PlacedCondition : (Place → Bool) → Option Condition → Type 0
PlacedCondition test None = Unit {0}
PlacedCondition test (Some c) = PlacedExpr test c.on

abbrev pub PlacedResources : (Place → Bool) → List Resource → Type 0
PlacedResources test [] = Unit {0}
PlacedResources test (r ∷ rs) = PlacedExpr test r.value × PlacedResources test rs

-- of what is lowered: no catch clauses, no labels of groups, and nothing behind the `:` of an `assert`
abbrev mutual
  pub PlacedStmt : (Place → Bool) → Stmt → Type 0
  PlacedStmt test (Run e) = PlacedExpr test e
  PlacedStmt test (Local t vs) = PlacedVariables test vs
  PlacedStmt test (If e s) = PlacedExpr test e × PlacedStmt test s
  PlacedStmt test (IfElse e s t) = PlacedExpr test e × PlacedStmt test s × PlacedStmt test t
  PlacedStmt test (While c s) = PlacedExpr test c.on × PlacedStmt test s
  PlacedStmt test (Do s c) = PlacedExpr test c.on × PlacedStmt test s
  PlacedStmt test (For i c updates s) =
      PlacedStart test i × PlacedCondition test c × PlacedExprs test updates × PlacedStmt test s
  PlacedStmt test (ForEach t x e s) = PlacedExpr test e × PlacedStmt test s
  PlacedStmt test (Sync place e ss) = Passes test place × PlacedExpr test e × PlacedStmts test ss
  PlacedStmt test (Return e) = PlacedOption test e
  PlacedStmt test (Block ss) = PlacedStmts test ss
  PlacedStmt test Empty = Unit {0}
  PlacedStmt test (Throw place e) = Passes test place × PlacedExpr test e
  PlacedStmt test (Break x) = Unit {0}
  PlacedStmt test (Continue x) = Unit {0}
  PlacedStmt test (Labelled x s) = PlacedStmt test s
  PlacedStmt test (Assert e told) = PlacedExpr test e
  PlacedStmt test (Switch e gs) = PlacedExpr test e × PlacedGroups test gs
  PlacedStmt test (Locked place e ss catches) = Passes test place × PlacedExpr test e × PlacedStmts test ss
  PlacedStmt test (Try rs ss catches) = PlacedResources test rs × PlacedStmts test ss
  PlacedStmt test (Finally rs ss catches finally) =
      PlacedResources test rs × PlacedStmts test ss × PlacedStmts test finally

  pub PlacedStmts : (Place → Bool) → Stmts → Type 0
  PlacedStmts test no_stmt = Unit {0}
  PlacedStmts test (stmt_then s ss) = PlacedStmt test s × PlacedStmts test ss

  pub PlacedGroups : (Place → Bool) → Groups → Type 0
  PlacedGroups test no_group = Unit {0}
  PlacedGroups test (group_then labels ss gs) = PlacedStmts test ss × PlacedGroups test gs

-- ---- two statements that are one

module _ (test : Place → Bool) where
  abbrev PlacedCall : Expr × Ident → Type 0
  PlacedCall call = PlacedExpr test call.0 × Passes test call.1.place

  call-placed : (e : Expr) (call : Expr × Ident) → PlacedExpr test e → plain_call e ≡ Some call → PlacedCall call
  call-placed (CallOn e x no_expr) call p is =
      let same : Some (e, x) ≡ Some call = is in
      let one : (e, x) ≡ call = some-same same in
      subst PlacedCall one (p.0, p.1)
  call-placed tree.Prim call p is = absurd cc
  call-placed Unknown call p is = absurd cc
  call-placed tree.Null call p is = absurd cc
  call-placed This call p is = absurd cc
  call-placed (ClassOf xs) call p is = absurd cc
  call-placed (ThisOf xs) call p is = absurd cc
  call-placed (Refer to) call p is = absurd cc
  call-placed (Read a) call p is = absurd cc
  call-placed (Unary e) call p is = absurd cc
  call-placed (Cast t e) call p is = absurd cc
  call-placed (Binary a b) call p is = absurd cc
  call-placed (Logical a b) call p is = absurd cc
  call-placed (Conditional c a b) call p is = absurd cc
  call-placed (Assign a e) call p is = absurd cc
  call-placed (Combine a e) call p is = absurd cc
  call-placed (Count a) call p is = absurd cc
  call-placed (Call x es) call p is = absurd cc
  call-placed (New place t es) call p is = absurd cc
  call-placed (NewBody place t es) call p is = absurd cc
  call-placed (NewArray place lengths) call p is = absurd cc
  call-placed (NewItems place items) call p is = absurd cc
  call-placed (Paren e) call p is = absurd cc
  call-placed (CallOn e x (expr_then f fs)) call p is = absurd cc

  run-placed : (s : Stmt) (call : Expr × Ident) → PlacedStmt test s → run_call s ≡ Some call → PlacedCall call
  run-placed (Run e) call p is = call-placed e call p is
  run-placed (Local t vs) call p is = absurd cc
  run-placed (If e s) call p is = absurd cc
  run-placed (IfElse e s t) call p is = absurd cc
  run-placed (While e s) call p is = absurd cc
  run-placed (For i e updates s) call p is = absurd cc
  run-placed (ForEach t x e s) call p is = absurd cc
  run-placed (Sync place e ss) call p is = absurd cc
  run-placed (Return e) call p is = absurd cc
  run-placed (Block ss) call p is = absurd cc
  run-placed Empty call p is = absurd cc
  run-placed (Locked place e ss catches) call p is = absurd cc
  run-placed (Do t c) call p is = absurd cc
  run-placed (Throw place e) call p is = absurd cc
  run-placed (Break x) call p is = absurd cc
  run-placed (Continue x) call p is = absurd cc
  run-placed (Labelled x t) call p is = absurd cc
  run-placed (Assert e told) call p is = absurd cc
  run-placed (Switch e gs) call p is = absurd cc
  run-placed (Try rs ss catches) call p is = absurd cc
  run-placed (Finally rs ss catches finally) call p is = absurd cc

  abbrev PlacedLock : Place × Expr → Type 0
  PlacedLock lock = Passes test lock.0 × PlacedExpr test lock.1

  lock-placed : (s : Stmt) (finally : Stmts) (lock : Place × Expr) (o : Option (Expr × Ident)) → PlacedStmt test s →
      run_call s ≡ o → lock_of o finally ≡ Some lock → PlacedLock lock
  lock-placed s finally lock None p called is = absurd cc
  lock-placed s finally lock (Some call) p called is =
      let placed = run-placed s call p called in
      let test_of = bytes_eq call.1.text (codes "lock") && do_unlock call.0 finally in
      subst PlacedLock (chosen-same test_of (call.1.place, call.0) lock is) (placed.1, placed.0)

  joined-placed : (s : Stmt) (body : Stmts) (catches : Catches) (finally rest : Stmts) (o : Option (Place × Expr)) →
      lock_before s finally ≡ o → PlacedStmt test s →
      PlacedStmts test (stmt_then (Finally [] body catches finally) rest) →
      PlacedStmts test (joined o s body catches finally rest)
  joined-placed s body catches finally rest None is p q = (p, q)
  joined-placed s body catches finally rest (Some lock) is p q =
      let l = lock-placed s finally lock (run_call s) p refl is in ((l.0, l.1, q.0.1), q.1)

  pub put-placed : (s : Stmt) (ss : Stmts) → PlacedStmt test s → PlacedStmts test ss →
      PlacedStmts test (put_before s ss)
  put-placed s no_stmt p q = (p, q)
  put-placed s (stmt_then (Finally [] body catches finally) rest) p q =
      joined-placed s body catches finally rest (lock_before s finally) refl p q
  put-placed s (stmt_then (Run e) ss) p q = (p, q)
  put-placed s (stmt_then (Local t vs) ss) p q = (p, q)
  put-placed s (stmt_then (If e u) ss) p q = (p, q)
  put-placed s (stmt_then (IfElse e u v) ss) p q = (p, q)
  put-placed s (stmt_then (While e u) ss) p q = (p, q)
  put-placed s (stmt_then (For i e updates u) ss) p q = (p, q)
  put-placed s (stmt_then (ForEach t x e u) ss) p q = (p, q)
  put-placed s (stmt_then (Sync place e us) ss) p q = (p, q)
  put-placed s (stmt_then (Return e) ss) p q = (p, q)
  put-placed s (stmt_then (Block us) ss) p q = (p, q)
  put-placed s (stmt_then Empty ss) p q = (p, q)
  put-placed s (stmt_then (Locked place e us catches) ss) p q = (p, q)
  put-placed s (stmt_then (Do u c) ss) p q = (p, q)
  put-placed s (stmt_then (Throw place e) ss) p q = (p, q)
  put-placed s (stmt_then (Break x) ss) p q = (p, q)
  put-placed s (stmt_then (Continue x) ss) p q = (p, q)
  put-placed s (stmt_then (Labelled x u) ss) p q = (p, q)
  put-placed s (stmt_then (Assert e told) ss) p q = (p, q)
  put-placed s (stmt_then (Switch e gs) ss) p q = (p, q)
  put-placed s (stmt_then (Try rs us catches) ss) p q = (p, q)
  put-placed s (stmt_then (Finally (r ∷ rs) us catches finally) ss) p q = (p, q)
