-- Where what is sought stands: what operators, literals and assignments have in them, and parts of a `try`.
use Rattle.std.proofs.Common.{◌≡◌, ◌≤◌, ◌||◌, Bool, true, false, cond, List, [], ◌∷◌, ℕ, Option, Some, None, Box, Vec}
use Rattle.std.proofs.Common.{Global, rules}
use Rattle.std.proofs.Common.{map, option_map, length, refl, sym, ap, ◌∙◌, arith}
use Rattle.java_lexer.specs.declared.token.TokenKind.{TokenKind}
use Rattle.java_tree.specs.declared.words.Ident.{Ident}
use Rattle.java_tree.specs.declared.expressions.Expression.{Expression}
use Rattle.java_tree.specs.declared.expressions.Expression as form
use Rattle.java_tree.specs.declared.expressions.Expression.TheFolds.{the_lemmas}
use Rattle.java_tree.specs.declared.statements.Statement.{Statement}
use Rattle.java_tree.specs.declared.statements.TryTree.{TryTree, out-TryTree}
use Rattle.core_lowering_rules.specs.Trees.{Expr, Access, Binary, Logical, Unary, Count, Assign, Combine}
use Rattle.core_lowering_rules.specs.Trees.{Stmts, pack_exprs, pack_stmts}
use Rattle.core_lowering_rules.specs.TreesOf.{binary, prefix, assignment, literal, is_logical, is_count, is_assignment}
use Rattle.core_lowering_rules.specs.TreesOf.{access_of, expr_of, stmt_of, try_of, tried}
use Rattle.core_lowering_locks_pairs.specs.Seen.{resources_in, body_of, clauses_of}
use Rattle.core_lowering_locks_pairs.proofs.Operators.{either, literal-in}
use Rattle.core_lowering_locks_pairs.proofs.JoinedStatements.{try-form}
use Rattle.core_lowering_rules.specs.Sought.{Sought, is_unlock, does_stand, does_left_stand, do_any_stand}
use Rattle.core_lowering_rules.specs.Sought.{does_stmt_stand, do_resources_stand, do_clauses_stand}

-- a call with arguments
pub arguments_unlock_nothing : (x : Ident) (es : List Expression) → 1 ≤ length es →
    false ≡ is_unlock x (pack_exprs (map expr_of es))
arguments_unlock_nothing x [] some = absurd (omega (arith, some))
arguments_unlock_nothing x (e ∷ es) some = refl

binary_stands : (sought : Sought) (op : List ℕ) (a b : Expr) →
    (does_stand sought a || does_stand sought b) ≡ does_stand sought (binary op a b)
binary_stands sought op a b =
    either (does_stand sought) (does_stand sought a || does_stand sought b) (is_logical op) (Logical a b) (Binary a b)
    refl refl

pub binary_in : (sought : Sought) (e : Expression) (a : Box Expression Global) (op : List ℕ)
    (b : Box Expression Global) → e ≡ form.Binary a op b →
    (does_stand sought (expr_of a.value) || does_stand sought (expr_of b.value)) ≡ does_stand sought (expr_of e)
binary_in sought e a op b is =
    binary_stands sought op (expr_of a.value) (expr_of b.value)
    ∙ ap (does_stand sought) (sym (ap expr_of is ∙ shown a op b))
  where
    shown : (l : Box Expression Global) (o : List ℕ) (r : Box Expression Global) →
        expr_of (form.Binary l o r) ≡ binary o (expr_of l.value) (expr_of r.value)
    shown l o r = search (rules, the_lemmas)

assignment_stands : (sought : Sought) (op : List ℕ) (a : Access) (b : Expr) →
    (does_left_stand sought a || does_stand sought b) ≡ does_stand sought (assignment op a b)
assignment_stands sought op a b =
    either (does_stand sought) (does_left_stand sought a || does_stand sought b) (is_assignment op) (Assign a b)
    (Combine a b) refl refl

pub assignment_in : (sought : Sought) (e : Expression) (a : Box Expression Global) (op : List ℕ)
    (b : Box Expression Global) → e ≡ form.Assign a op b →
    (does_left_stand sought (access_of (expr_of a.value)) || does_stand sought (expr_of b.value))
    ≡ does_stand sought (expr_of e)
assignment_in sought e a op b is =
    assignment_stands sought op (access_of (expr_of a.value)) (expr_of b.value)
    ∙ ap (does_stand sought) (sym (ap expr_of is ∙ shown a op b))
  where
    shown : (l : Box Expression Global) (o : List ℕ) (r : Box Expression Global) →
        expr_of (form.Assign l o r) ≡ assignment o (access_of (expr_of l.value)) (expr_of r.value)
    shown l o r = search (rules, the_lemmas)

pub literal_stands : (sought : Sought) (k : TokenKind) (text : List ℕ) → false ≡ does_stand sought (literal k text)
literal_stands sought k text = literal-in (does_stand sought) false k text refl refl refl

pub count_stands : (sought : Sought) (op : List ℕ) (a : Expr) → is_count op ≡ true →
    does_left_stand sought (access_of a) ≡ does_stand sought (prefix op a)
count_stands sought op a is = ap (λ b. does_stand sought (cond b (Count (access_of a)) (Unary a))) (sym is)

pub unary_stands : (sought : Sought) (op : List ℕ) (a : Expr) → is_count op ≡ false →
    does_stand sought a ≡ does_stand sought (prefix op a)
unary_stands sought op a is = ap (λ b. does_stand sought (cond b (Count (access_of a)) (Unary a))) (sym is)

-- ---- what is no access

abbrev pub in_left : Sought → Expr → Bool
in_left sought e = does_left_stand sought (access_of e)

pub binary_is_no_access : (sought : Sought) (op : List ℕ) (a b : Expr) →
    false ≡ does_left_stand sought (access_of (binary op a b))
binary_is_no_access sought op a b =
    either (in_left sought) false (is_logical op) (Logical a b) (Binary a b) refl refl

pub prefix_is_no_access : (sought : Sought) (op : List ℕ) (a : Expr) →
    false ≡ does_left_stand sought (access_of (prefix op a))
prefix_is_no_access sought op a =
    either (in_left sought) false (is_count op) (Count (access_of a)) (Unary a) refl refl

pub assignment_is_no_access : (sought : Sought) (op : List ℕ) (a : Access) (b : Expr) →
    false ≡ does_left_stand sought (access_of (assignment op a b))
assignment_is_no_access sought op a b =
    either (in_left sought) false (is_assignment op) (Assign a b) (Combine a b) refl refl

pub literal_is_no_access : (sought : Sought) (k : TokenKind) (text : List ℕ) →
    false ≡ does_left_stand sought (access_of (literal k text))
literal_is_no_access sought k text = literal-in (in_left sought) false k text refl refl refl

-- ---- a `try`

abbrev parts : Sought → TryTree → Bool
parts sought t =
    do_resources_stand sought (resources_in t) || do_any_stand sought (body_of t)
    || do_clauses_stand sought (clauses_of t)

abbrev last_in : Option (Vec Statement Global) → Option Stmts
last_in o = option_map (λ ss. pack_stmts (map stmt_of ss.items)) o

abbrev by_last : Sought → TryTree → Option (Vec Statement Global) → Bool
by_last sought t o = does_stmt_stand sought (tried (resources_in t) (body_of t) (clauses_of t) (last_in o))

pub try_stands : (sought : Sought) (t : TryTree) → (out-TryTree t).finally ≡ None →
    parts sought t ≡ does_stmt_stand sought (try_of t)
try_stands sought t is = sym (ap (does_stmt_stand sought) (try-form t) ∙ ap (by_last sought t) is)

join-or : (a b c d : Bool) → ((a || b || c) || d) ≡ (a || b || c || d)
join-or true b c d = refl
join-or false true c d = refl
join-or false false true d = refl
join-or false false false d = refl

pub finally_stands : (sought : Sought) (t : TryTree) (finally : Vec Statement Global) →
    (out-TryTree t).finally ≡ Some finally →
    (parts sought t || do_any_stand sought (pack_stmts (map stmt_of finally.items))) ≡ does_stmt_stand sought (try_of t)
finally_stands sought t finally is =
    join-or (do_resources_stand sought (resources_in t)) (do_any_stand sought (body_of t))
    (do_clauses_stand sought (clauses_of t)) (do_any_stand sought (pack_stmts (map stmt_of finally.items)))
    ∙ sym (ap (does_stmt_stand sought) (try-form t) ∙ ap (by_last sought t) is)
