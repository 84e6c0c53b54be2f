-- Which two statements are one.
use Rattle.std.proofs.Common.{◌≡◌, ◌≤◌, false, Box, Vec, Global, List, [], ◌∷◌, Option, Some, None, map, length}
use Rattle.std.proofs.Common.{option_map, refl, sym, ap, ◌∙◌, rules, arith}
use Rattle.racer_base.specs.declared.ids.Place.{Place}
use Rattle.java_tree.specs.declared.statements.CatchTree.{CatchTree, out-CatchTree}
use Rattle.java_tree.specs.declared.statements.Statement.{Statement}
use Rattle.java_tree.specs.declared.statements.Statement as form
use Rattle.java_tree.specs.declared.statements.Statement.TheFolds.{the_lemmas}
use Rattle.java_tree.specs.declared.statements.TryTree.{TryTree, out-TryTree}
use Rattle.core_lowering_rules.specs.Trees.{Expr, Stmt, Stmts, Catches, no_stmt, stmt_then, no_catch}
use Rattle.core_lowering_rules.specs.Trees.{Run, Local, If, IfElse, While, For, ForEach, Sync, Return, Block, Empty, Do}
use Rattle.core_lowering_rules.specs.Trees.{Throw, Break, Continue, Labelled, Assert, Switch, Locked, Try, Finally}
use Rattle.core_lowering_rules.specs.Trees.{Resource, lock_before, joined, put_before, pack_stmts}
use Rattle.core_lowering_rules.specs.Trees.{run_call, do_unlock}
use Rattle.core_lowering_rules.specs.TreesOf.{stmt_of, catch_of, try_of, tried}
use Rattle.core_lowering_locks_pairs.specs.Seen.{lock_for, finally_of, lock_behind, body_of, clauses_of, stand}
use Rattle.core_lowering_locks_pairs.specs.Seen.{has_resource}
use Rattle.core_lowering_locks_pairs.specs.Seen.{under, resources_in}

-- ---- a statement before others

abbrev Lock : Type 0
Lock = Place × Expr

-- what a statement locks before the first of these
abbrev lock_first : Stmt → Stmts → Option Lock
lock_first s no_stmt = None
lock_first s (stmt_then u ss) = lock_behind s u

abbrev body : Stmts → Stmts
body (stmt_then (Finally rs ss catches finally) rest) = ss
body _ = no_stmt

abbrev caught : Stmts → Catches
caught (stmt_then (Finally rs ss catches finally) rest) = catches
caught _ = no_catch

abbrev behind : Stmts → Stmts
behind no_stmt = no_stmt
behind (stmt_then s ss) = ss

abbrev put : Option Lock → Stmt → Stmts → Stmts
put None s ss = stmt_then s ss
put (Some lock) s ss = stmt_then (Locked lock.0 lock.1 (body ss) (caught ss)) (behind ss)

put-try : (o : Option Lock) (s : Stmt) (ts : Stmts) (catches : Catches) (finally rest : Stmts) →
    joined o s ts catches finally rest ≡ put o s (stmt_then (Finally [] ts catches finally) rest)
put-try None s ts catches finally rest = refl
put-try (Some lock) s ts catches finally rest = refl

put-by_lock : (s : Stmt) (ss : Stmts) → put_before s ss ≡ put (lock_first s ss) s ss
put-by_lock s no_stmt = refl
put-by_lock s (stmt_then (Finally [] ts catches finally) rest) =
    put-try (lock_before s finally) s ts catches finally rest
put-by_lock s (stmt_then (Finally (r ∷ rs) ts catches finally) ss) = refl
put-by_lock s (stmt_then (Run e) ss) = refl
put-by_lock s (stmt_then (Local t vs) ss) = refl
put-by_lock s (stmt_then (If e t) ss) = refl
put-by_lock s (stmt_then (IfElse e t u) ss) = refl
put-by_lock s (stmt_then (While e t) ss) = refl
put-by_lock s (stmt_then (For i e updates t) ss) = refl
put-by_lock s (stmt_then (ForEach t x e u) ss) = refl
put-by_lock s (stmt_then (Sync place e ts) ss) = refl
put-by_lock s (stmt_then (Return e) ss) = refl
put-by_lock s (stmt_then (Block ts) ss) = refl
put-by_lock s (stmt_then Empty ss) = refl
put-by_lock s (stmt_then (Locked place e ts catches) ss) = refl
put-by_lock s (stmt_then (Do t c) ss) = refl
put-by_lock s (stmt_then (Throw place e) ss) = refl
put-by_lock s (stmt_then (Break x) ss) = refl
put-by_lock s (stmt_then (Continue x) ss) = refl
put-by_lock s (stmt_then (Labelled x t) ss) = refl
put-by_lock s (stmt_then (Assert e told) ss) = refl
put-by_lock s (stmt_then (Switch e gs) ss) = refl
put-by_lock s (stmt_then (Try rs ts catches) ss) = refl

-- ---- two statements that are one

-- a `try` is no call of `lock`
try-locks : (ts : Stmts) (catches : Catches) (finally : Stmts) (o : Option Stmts) →
    lock_for (Finally [] ts catches finally) o ≡ None
try-locks ts catches finally None = refl
try-locks ts catches finally (Some last) = refl

try-first : (ts : Stmts) (catches : Catches) (finally ss : Stmts) →
    lock_first (Finally [] ts catches finally) ss ≡ None
try-first ts catches finally no_stmt = refl
try-first ts catches finally (stmt_then u ss) = try-locks ts catches finally (finally_of u)

parts-locked : (s : Stmt) (rs : List Resource) (ts : Stmts) (catches : Catches) (finally : Option Stmts)
    (rest : Stmts) (lock : Lock) → lock_behind s (tried rs ts catches finally) ≡ Some lock →
    put_before s (put_before (tried rs ts catches finally) rest) ≡ stmt_then (Locked lock.0 lock.1 ts catches) rest
parts-locked s [] ts catches (Some finally) rest lock h =
    let t = Finally [] ts catches finally in
    ap (put_before s) (put-by_lock t rest ∙ ap (λ o. put o t rest) (try-first ts catches finally rest))
    ∙ ap (λ o. joined o s ts catches finally rest) h
parts-locked s [] ts catches None rest lock h = absurd cc
parts-locked s (r ∷ rs) ts catches None rest lock h = absurd cc
parts-locked s (r ∷ rs) ts catches (Some finally) rest lock h = absurd cc

abbrev finally_in : TryTree → Option Stmts
finally_in t = option_map (λ ss. pack_stmts (map stmt_of ss.items)) (out-TryTree t).finally

pub try-form : (t : TryTree) → try_of t ≡ tried (resources_in t) (body_of t) (clauses_of t) (finally_in t)
try-form t = search (rules, the_lemmas)

pub locked : (s : Stmt) (t : TryTree) (rest : Stmts) (lock : Lock) → lock_behind s (try_of t) ≡ Some lock →
    put_before s (put_before (try_of t) rest) ≡ stmt_then (under lock t) rest
locked s t rest lock h =
    ap (λ u. put_before s (put_before u rest)) (try-form t)
    ∙ parts-locked s (resources_in t) (body_of t) (clauses_of t) (finally_in t) rest lock
    (sym (ap (lock_behind s) (try-form t)) ∙ h)

-- of a `try` without resources
pub behind-finally : (s : Stmt) (t : TryTree) (finally : Vec Statement Global) → has_resource t ≡ false →
    (out-TryTree t).finally ≡ Some finally →
    lock_behind s (try_of t) ≡ lock_before s (pack_stmts (map stmt_of finally.items))
behind-finally s t finally none is =
    ap (lock_behind s) (try-form t) ∙ by (resources_in t) none
    ∙ ap (λ (o : Option (Vec Statement Global)).
    lock_for s (option_map (λ ss. pack_stmts (map stmt_of ss.items)) o)) is
  where
    by_last : (ts : Stmts) (catches : Catches) (o : Option Stmts) →
        lock_behind s (tried [] ts catches o) ≡ lock_for s o
    by_last ts catches None = refl
    by_last ts catches (Some last) = refl

    by : (rs : List Resource) → stand rs ≡ false →
        lock_behind s (tried rs (body_of t) (clauses_of t) (finally_in t)) ≡ lock_for s (finally_in t)
    by [] h = by_last (body_of t) (clauses_of t) (finally_in t)
    by (r ∷ rs) h = absurd cc

-- ---- forms

pub try-statement : (s : Statement) (t : Box TryTree Global) → s ≡ form.Try t → stmt_of s ≡ try_of t.value
try-statement s t is = ap stmt_of is ∙ boxed t
  where
    boxed : (b : Box TryTree Global) → stmt_of (form.Try b) ≡ try_of b.value
    boxed b = search (rules, the_lemmas)

pub catch-form : (c : CatchTree) →
    catch_of c ≡ ((out-CatchTree c).parameter.name, pack_stmts (map stmt_of (out-CatchTree c).body.items))
catch-form c = search (rules, the_lemmas)

module _ {A : Type 0} (f : Stmt → A) (x : A)
    (seen : (rs : List Resource) (ts : Stmts) (catches : Catches) → x ≡ f (Try rs ts catches))
    (last : (rs : List Resource) (ts : Stmts) (catches : Catches) (finally : Stmts) →
    x ≡ f (Finally rs ts catches finally)) where
  of_parts : (rs : List Resource) (ts : Stmts) (catches : Catches) (finally : Option Stmts) →
      x ≡ f (tried rs ts catches finally)
  of_parts rs ts catches (Some finally) = last rs ts catches finally
  of_parts rs ts catches None = seen rs ts catches

  -- what is the same of all that a `try` is seen as
  pub of_try : (t : TryTree) → x ≡ f (try_of t)
  of_try t = of_parts (resources_in t) (body_of t) (clauses_of t) (finally_in t) ∙ sym (ap f (try-form t))

pub try_is_no_call : (t : TryTree) → None ≡ run_call (try_of t)
try_is_no_call t = of_try run_call None (λ rs ts catches. refl) (λ rs ts catches finally. refl) t

-- ---- one statement `E.unlock();`

locked-unlocks : (e : Expr) (lock : Lock) (ts : Stmts) (catches : Catches) (rest : Stmts) →
    false ≡ do_unlock e (stmt_then (Locked lock.0 lock.1 ts catches) rest)
locked-unlocks e lock ts catches no_stmt = refl
locked-unlocks e lock ts catches (stmt_then s ss) = refl

two-by : (e : Expr) (s u : Stmt) (ss : Stmts) (o p : Option Lock) → false ≡ do_unlock e (put p s (put o u ss))
two-by e s u ss None None = refl
two-by e s u ss (Some lock) None = refl
two-by e s u ss None (Some lock) = locked-unlocks e lock (body (stmt_then u ss)) (caught (stmt_then u ss)) ss
two-by e s u ss (Some other) (Some lock) = locked-unlocks e lock no_stmt no_catch (behind ss)

-- two statements and more are not one `E.unlock();`
pub two_unlock_nothing : (e : Expr) (s u : Stmt) (ss : Stmts) → false ≡ do_unlock e (put_before s (put_before u ss))
two_unlock_nothing e s u ss =
    let next = put (lock_first u ss) u ss in
    two-by e s u ss (lock_first u ss) (lock_first s next)
    ∙ ap (do_unlock e) (sym (ap (put_before s) (put-by_lock u ss) ∙ put-by_lock s next))

pub more_unlock_nothing : (e : Expr) (ss : List Statement) → 2 ≤ length ss →
    false ≡ do_unlock e (pack_stmts (map stmt_of ss))
more_unlock_nothing e [] more = absurd (omega (arith, more))
more_unlock_nothing e (s ∷ []) more = absurd (omega (arith, more))
more_unlock_nothing e (s ∷ t ∷ ss) more =
    two_unlock_nothing e (stmt_of s) (stmt_of t) (pack_stmts (map stmt_of ss))
