-- A contract of a public call rests on this: what is seen of calls, locks and items, in the words of the lowering.
use Rattle.std.specs.Prelude.{◌≡◌, ◌<◌, ◌≤◌, ℕ, Option, Some, None, List, [], ◌∷◌, length, map, Bool, true}
use Rattle.std.specs.Prelude.{false}
use denote.Param.Weighed.{most}
use Rattle.racer_base.specs.declared.ids.Place.{Place}
use Rattle.java_tree.specs.declared.words.Ident.{Ident}
use Rattle.java_tree.specs.declared.statements.Statement.{Statement, size-Statement}
use Rattle.java_tree.specs.declared.statements.TryTree.{TryTree, out-TryTree, size-TryTree}
use Rattle.core_lowering_rules.specs.Trees.{Expr, Stmt, Stmts, Catches, stmt_then, Locked, Finally, Resource}
use Rattle.core_lowering_rules.specs.Trees.{lock_before, pack_stmts, pack_catches}
use Rattle.core_lowering_rules.specs.TreesOf.{expr_of, stmt_of, catch_of, try_of, resources_of}
use Rattle.core_lowering_locks_pairs.specs.declared.calls.PlainCall.{PlainCall}
use Rattle.core_lowering_locks_pairs.specs.declared.pairs.Lock.{Lock}
use Rattle.core_lowering_locks_pairs.specs.declared.pairs.Locked as pair
use Rattle.core_lowering_locks_pairs.specs.declared.pairs.Item.{Item}
use Rattle.core_lowering_locks_pairs.specs.declared.pairs.Item.TheVariants as item

abbrev pub call_seen : PlainCall → Expr × Ident
call_seen call = (expr_of call.on.now, call.name.now)

abbrev pub lock_seen : Lock → Place × Expr
lock_seen lock = (lock.place, expr_of lock.on.now)

-- the `finally` of a `try` without resources
abbrev pub finally_of : Stmt → Option Stmts
finally_of (Finally [] body catches finally) = Some finally
finally_of _ = None

abbrev pub lock_for : Stmt → Option Stmts → Option (Place × Expr)
lock_for s None = None
lock_for s (Some finally) = lock_before s finally

-- what a statement locks before the next
abbrev pub lock_behind : Stmt → Stmt → Option (Place × Expr)
lock_behind s next = lock_for s (finally_of next)

-- ---- the parts of a `try`

abbrev pub body_of : TryTree → Stmts
body_of t = pack_stmts (map stmt_of (out-TryTree t).body.items)

abbrev pub clauses_of : TryTree → Catches
clauses_of t = pack_catches (map catch_of (out-TryTree t).clauses.items)

abbrev pub resources_in : TryTree → List Resource
resources_in t = resources_of (out-TryTree t).resources

-- whether there are resources
abbrev pub stand : List Resource → Bool
stand [] = false
stand (r ∷ rs) = true

abbrev pub has_resource : TryTree → Bool
has_resource t = stand (resources_in t)

-- under what is locked before it
abbrev pub under : Place × Expr → TryTree → Stmt
under lock t = Locked lock.0 lock.1 (body_of t) (clauses_of t)

-- ---- items

abbrev pub locked_seen : pair.Locked → Stmt
locked_seen locked = under (lock_seen locked.lock) locked.tried.now

abbrev pub item_seen : Item → Stmt
item_seen (item.Alone s) = stmt_of s.now
item_seen (item.Locked locked) = locked_seen locked

-- how deep the tree of an item is
abbrev pub item_size : Item → ℕ
item_size (item.Alone s) = size-Statement s.now
item_size (item.Locked locked) = size-TryTree locked.tried.now

pub record IsLockedTry (first : Statement) (t : TryTree) (locked : pair.Locked) : Type 0 where
  pub is : lock_behind (stmt_of first) (try_of t) ≡ Some (lock_seen locked.lock)
  pub same : locked.tried.now ≡ t

-- two statements are this locked try
pub record IsLocked (first next : Statement) (locked : pair.Locked) : Type 0 where
  pub is : lock_behind (stmt_of first) (stmt_of next) ≡ Some (lock_seen locked.lock)
  pub same : stmt_of next ≡ try_of locked.tried.now
  pub fits : size-TryTree locked.tried.now ≤ size-Statement next

-- statements are an item, of this size, and a rest
pub record IsCut (statements : List Statement) (one : Stmt) (size : ℕ) (rest : List Statement) : Type 0 where
  pub is : pack_stmts (map stmt_of statements) ≡ stmt_then one (pack_stmts (map stmt_of rest))
  pub shorter : length rest < length statements
  pub one_fits : size ≤ most size-Statement statements
  pub rest_fits : most size-Statement rest ≤ most size-Statement statements
