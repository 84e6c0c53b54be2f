-- A contract of a public call rests on this: trees of expressions and statements with what core code is made of. What
-- has one row in the lowering is one form here, and names, `new` and `synchronized` have their places.
use Rattle.std.specs.Prelude.{List, [], ◌∷◌, Option, Some, None, ℕ, zero, suc, Bool, true, false, ◌&&◌, ◌||◌}
use Rattle.std.specs.Prelude.{bytes_eq, codes, if◌then◌else◌}
use Rattle.racer_base.specs.declared.ids.Place.{Place}
use Rattle.java_tree.specs.declared.words.Ident.{Ident}
use Rattle.java_tree.specs.Trees.{Ty}

-- ---- expressions (JLS 15) and array initialisers (JLS 10.6)

mutual
  pub data Expr : Type 0 where
    -- a number, a character, `true`, `false`
    Prim : Expr
    -- of which nothing is known: a text, a lambda, a class literal but of names
    Unknown : Expr
    Null : Expr
    This : Expr
    ClassOf : List Ident → Expr
    -- `this` behind names
    ThisOf : List Ident → Expr
    -- a method reference
    Refer : Referee → Expr
    Read : Access → Expr
    -- a prefix operator that stores nothing, and `instanceof`
    Unary : Expr → Expr
    Cast : Ty → Expr → Expr
    -- a binary operator but `&&` and `||`
    Binary : Expr → Expr → Expr
    Logical : Expr → Expr → Expr
    Conditional : Expr → Expr → Expr → Expr
    -- `=`
    Assign : Access → Expr → Expr
    -- any other assignment operator
    Combine : Access → Expr → Expr
    -- `++` and `--`, before or after
    Count : Access → Expr
    Call : Ident → Exprs → Expr
    CallOn : Expr → Ident → Exprs → Expr
    New : Place → Ty → Exprs → Expr
    -- with a class body
    NewBody : Place → Ty → Exprs → Expr
    NewArray : Place → (lengths : Exprs) → Expr
    NewItems : Place → Inits → Expr
    Paren : Expr → Expr

  -- what may stand on the left of an assignment (JLS 15.26): `x`, `e.x`, `e[i]`; any other is not formed there
  pub data Access : Type 0 where
    Named : Ident → Access
    Selected : Expr → Ident → Access
    Element : Expr → Expr → Access
    NoAccess : Access

  -- what a method reference refers to: an expression, or a type or `super`
  pub data Referee : Type 0 where
    ToExpr : Expr → Referee
    ToType : Referee

  pub data Exprs : Type 0 where
    no_expr : Exprs
    expr_then : Expr → Exprs → Exprs

  pub data Init : Type 0 where
    Value : Expr → Init
    Items : Inits → Init

  pub data Inits : Type 0 where
    no_init : Inits
    init_then : Init → Inits → Inits

abbrev pub pack_exprs : List Expr → Exprs
pack_exprs [] = no_expr
pack_exprs (e ∷ es) = expr_then e (pack_exprs es)

abbrev pub pack_inits : List Init → Inits
pack_inits [] = no_init
pack_inits (i ∷ is) = init_then i (pack_inits is)

abbrev pub count_exprs : Exprs → ℕ
count_exprs no_expr = zero
count_exprs (expr_then e es) = suc (count_exprs es)

abbrev pub count_inits : Inits → ℕ
count_inits no_init = zero
count_inits (init_then i is) = suc (count_inits is)

-- ---- statements (JLS 14)

-- a variable, with the number of the `[ ]` behind its name, and what it begins with
pub record Variable : Type 0 where
  pub name : Ident
  pub arrays : ℕ
  pub initialiser : Option Init

-- the condition of a loop, and whether it is the literal `true`
pub record Condition : Type 0 where
  pub on : Expr
  pub is_true : Bool

-- a resource of a `try`
pub record Resource : Type 0 where
  pub kind : Ty
  pub name : Ident
  pub value : Expr

-- what stands before the first `;` of a `for`
pub data Start : Type 0 where
  Declares : Ty → List Variable → Start
  Runs : Exprs → Start

mutual
  pub data Stmt : Type 0 where
    Run : Expr → Stmt
    Local : Ty → List Variable → Stmt
    If : Expr → Stmt → Stmt
    IfElse : Expr → Stmt → Stmt → Stmt
    While : Condition → Stmt → Stmt
    For : Start → (condition : Option Condition) → (updates : Exprs) → Stmt → Stmt
    ForEach : Ty → Ident → Expr → Stmt → Stmt
    Sync : Place → Expr → Stmts → Stmt
    Return : Option Expr → Stmt
    Block : Stmts → Stmt
    Empty : Stmt
    Do : Stmt → Condition → Stmt
    Throw : Place → Expr → Stmt
    Break : Option Ident → Stmt
    Continue : Option Ident → Stmt
    Labelled : Ident → Stmt → Stmt
    Assert : Expr → (told : Option Expr) → Stmt
    Switch : Expr → Groups → Stmt
    -- `E.lock();` and the locked try behind it: the place of `lock`, E, the block and the catch clauses
    Locked : Place → Expr → Stmts → Catches → Stmt
    -- a `try` without a `finally`, and one with it that does not stand behind its lock
    Try : List Resource → Stmts → Catches → Stmt
    Finally : List Resource → Stmts → Catches → (finally : Stmts) → Stmt

  pub data Stmts : Type 0 where
    no_stmt : Stmts
    stmt_then : Stmt → Stmts → Stmts

  -- the groups of a `switch`, each with its labels: what stands behind `case`, or nothing for `default`
  pub data Groups : Type 0 where
    no_group : Groups
    group_then : (labels : List (Option Expr)) → Stmts → Groups → Groups

  -- catch clauses, each with the name of its parameter
  pub data Catches : Type 0 where
    no_catch : Catches
    catch_then : Ident → Stmts → Catches → Catches

-- ---- locked trys

abbrev pub is_this : Expr → Bool
is_this This = true
is_this _ = false

-- x, and the x of `this . x`
abbrev pub simple_name : Expr → Option Ident
simple_name (Read (Named x)) = Some x
simple_name _ = None

abbrev pub own_name : Expr → Option Ident
own_name (Read (Selected e x)) = if is_this e then Some x else None
own_name _ = None

abbrev pub is_same_name : Option Ident → Option Ident → Bool
is_same_name (Some x) (Some y) = bytes_eq x.text y.text
is_same_name _ _ = false

-- whether two expressions are one E: both x, or both `this . x`
abbrev pub is_same_lock : Expr → Expr → Bool
is_same_lock e f = is_same_name (simple_name e) (simple_name f) || is_same_name (own_name e) (own_name f)

-- e and x of `e . x ( ) ;`
abbrev pub plain_call : Expr → Option (Expr × Ident)
plain_call (CallOn e x no_expr) = Some (e, x)
plain_call _ = None

abbrev pub run_call : Stmt → Option (Expr × Ident)
run_call (Run e) = plain_call e
run_call _ = None

abbrev pub is_call_on : List ℕ → Expr → Option (Expr × Ident) → Bool
is_call_on name e None = false
is_call_on name e (Some call) = bytes_eq call.1.text name && is_same_lock e call.0

-- whether statements are the one statement `E . unlock ( ) ;`
abbrev pub do_unlock : Expr → Stmts → Bool
do_unlock e (stmt_then s no_stmt) = is_call_on (codes "unlock") e (run_call s)
do_unlock e _ = false

-- the place of `lock` and E, of a statement `E . lock ( ) ;` before a `finally` that unlocks the same
abbrev pub lock_of : Option (Expr × Ident) → (finally : Stmts) → Option (Place × Expr)
lock_of None finally = None
lock_of (Some call) finally =
    if bytes_eq call.1.text (codes "lock") && do_unlock call.0 finally then Some (call.1.place, call.0) else None

abbrev pub lock_before : Stmt → (finally : Stmts) → Option (Place × Expr)
lock_before s finally = lock_of (run_call s) finally

abbrev pub joined : Option (Place × Expr) → Stmt → (body : Stmts) → Catches → (finally rest : Stmts) → Stmts
joined None s body catches finally rest = stmt_then s (stmt_then (Finally [] body catches finally) rest)
joined (Some lock) s body catches finally rest = stmt_then (Locked lock.0 lock.1 body catches) rest

-- a statement before others: with a locked try directly behind it, it is one
abbrev pub put_before : Stmt → Stmts → Stmts
put_before s (stmt_then (Finally [] body catches finally) rest) =
    joined (lock_before s finally) s body catches finally rest
put_before s ss = stmt_then s ss

-- the items of a block
abbrev pub pack_stmts : List Stmt → Stmts
pack_stmts [] = no_stmt
pack_stmts (s ∷ ss) = put_before s (pack_stmts ss)

abbrev pub pack_catches : List (Ident × Stmts) → Catches
pack_catches [] = no_catch
pack_catches (c ∷ cs) = catch_then c.0 c.1 (pack_catches cs)

abbrev pub pack_groups : List (List (Option Expr) × Stmts) → Groups
pack_groups [] = no_group
pack_groups (g ∷ gs) = group_then g.0 g.1 (pack_groups gs)
