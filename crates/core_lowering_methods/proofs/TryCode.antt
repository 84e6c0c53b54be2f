-- The code of `try` out of the steps in which it is made.
use Rattle.std.proofs.Common.{◌≡◌, ℕ, ◌++◌, List, Vec, Global, Option, Some, None, length, map, option_map, sym, ap}
use Rattle.std.proofs.Common.{◌∙◌}
use Rattle.racer_base.specs.declared.ids.VarId.{VarId}
use Rattle.java_tree.specs.declared.statements.Statement.{Statement}
use Rattle.java_tree.specs.declared.statements.TryTree.{TryTree, out-TryTree}
use Rattle.core_lowering_rules.specs.Trees.{Resource, Stmt, Stmts, Catches, Try, Finally, Block, pack_stmts}
use Rattle.core_lowering_rules.specs.TreesOf.{stmt_of, try_of, tried}
use Rattle.core_lowering_rules.specs.Context.{Context, Code, guarded}
use Rattle.core_lowering_rules.specs.Scopes.{back_in, with_resources, in_guard, unlocked_in, after}
use Rattle.core_lowering_rules.specs.Scopes.{after_all, after_last, caught, returned_variable}
use Rattle.core_lowering_rules.specs.Statements.{closed, begun_resources, stmt, stmts, last_of}
use Rattle.core_lowering_locks_pairs.specs.Seen.{body_of, clauses_of, resources_in}
use Rattle.core_lowering_locks_pairs.proofs.JoinedStatements.{try-form}
use Rattle.core_lowering_context.specs.Restored.{left_guard}
use Rattle.core_lowering_parts.specs.StatementParts.{Becomes, closed_from}
use Rattle.core_lowering_methods.specs.StatementSteps.{BothBecome, behind_first, first_part}
use Rattle.core_lowering_methods.specs.StatementSteps.{guarded_by}
use Rattle.core_lowering_methods.proofs.FinallyCode.{null-there}
use Rattle.core_lowering_context.proofs.Pieces.{two_pieces}
use Rattle.core_lowering_methods.proofs.StatementCode.{block-made}
use Rattle.core_lowering_methods.proofs.StatementContexts.{inside-first, behind_clauses, finally-place, guard-left}

-- the resources and the block
pub first-made : (a b behind : Context) (rs : List Resource) (ss : Stmts) (old one second new : Code) (n at : ℕ) →
    n ≡ length a.scope.variables → at ≡ length old → b ≡ with_resources a rs → one ≡ old ++ begun_resources a rs →
    behind ≡ after b (Block ss) → second ≡ one ++ stmt b (Block ss) → Becomes at (closed_from n behind) second new →
    new ≡ old ++ first_part a rs ss
first-made a b behind rs ss old one second new n at k here p begins left is closes =
    let first = with_resources a rs in
    let end = after_all first ss in
    let block = closed first end (stmts first ss) in
    block-made a (back_in first end) behind old second new (begun_resources a rs ++ block) n at k
    (left ∙ ap (λ (x : Context). after x (Block ss)) p) (inside-first a rs ss) here
    (two_pieces old one second (begun_resources a rs) block begins
    (is ∙ ap (λ (x : Context). one ++ stmt x (Block ss)) p))
    closes

pub guarded-made : (a behind last : Context) (rs : List Resource) (ss : Stmts) (catches : Catches) (finally : Stmts)
    (variable : Option VarId) (first : Context) (old second third new : Code) (exit at middle : ℕ) →
    exit ≡ a.exits → at ≡ length old → first ≡ behind_first (in_guard a) rs ss →
    variable ≡ returned_variable first → second ≡ old ++ first_part (in_guard a) rs ss → middle ≡ length second →
    behind ≡ unlocked_in (behind_clauses a rs ss catches) finally → last ≡ after behind (Block finally) →
    third ≡ second ++ stmt behind (Block finally) → BothBecome at middle (guarded_by last exit variable) third new →
    new ≡ old ++ stmt a (Finally rs ss catches finally)
guarded-made a behind last rs ss catches finally variable first old second third new exit at middle e here p v is there
    q l cleans made =
    let inside = after_all (with_resources (in_guard a) rs) ss in
    let body = first_part (in_guard a) rs ss in
    let cleared = unlocked_in (behind_clauses a rs ss catches) finally in
    let cleanup : Code = stmt cleared (Block finally) in
    let end = back_in cleared (after_all cleared finally) in
    let at_end : last ≡ end = l ∙ ap (λ (x : Context). after x (Block finally)) q in
    let returned : variable ≡ returned_variable inside = v ∙ ap returned_variable p in
    let whole : third ≡ old ++ body ++ cleanup =
    cleans ∙ ap (λ (x : Code). x ++ stmt behind (Block finally)) is
    ∙ ap (λ (x : Context). (old ++ body) ++ stmt x (Block finally)) q in
    made old body cleanup here (there ∙ ap length is) whole
    ∙ ap (λ (x : Context). old ++ guarded_by x exit variable body cleanup) at_end
    ∙ ap (λ (n : ℕ). old ++ guarded_by end n variable body cleanup) e
    ∙ ap (λ (o : Option VarId). old ++ guarded_by end a.exits o body cleanup) returned
    ∙ ap (λ (x : Code). old ++ x)
    (null-there end a (returned_variable inside)
    (guarded a.exits body cleanup (last_of end (returned_variable inside))) (finally-place a rs ss catches finally))

-- ---- contexts

pub cleared-there : (a b first left passed cleared : Context) (rs : List Resource) (ss : Stmts) (catches : Catches)
    (finally : Stmts) (exit : ℕ) → b ≡ in_guard a → exit ≡ a.exits → first ≡ behind_first b rs ss →
    left ≡ left_guard exit first → passed ≡ caught left catches → cleared ≡ unlocked_in passed finally →
    cleared ≡ unlocked_in (behind_clauses a rs ss catches) finally
cleared-there a b first left passed cleared rs ss catches finally exit p e q l c u =
    u
    ∙ ap (λ (x : Context). unlocked_in x finally)
    (guard-left a first passed rs ss catches exit e (q ∙ ap (λ (x : Context). behind_first x rs ss) p)
    (c ∙ ap (λ (x : Context). caught x catches) l))

pub finally-there : (a b first cleared last new : Context) (rs : List Resource) (ss : Stmts) (catches : Catches)
    (finally : Stmts) (variable : Option VarId) → b ≡ in_guard a → first ≡ behind_first b rs ss →
    variable ≡ returned_variable first → cleared ≡ unlocked_in (behind_clauses a rs ss catches) finally →
    last ≡ after cleared (Block finally) → new ≡ after_last variable last →
    new ≡ after a (Finally rs ss catches finally)
finally-there a b first cleared last new rs ss catches finally variable p q v u l n =
    let inside = after_all (with_resources (in_guard a) rs) ss in
    let behind = unlocked_in (behind_clauses a rs ss catches) finally in
    n
    ∙ ap (after_last variable) (l ∙ ap (λ (x : Context). after x (Block finally)) u)
    ∙ ap (λ (o : Option VarId). after_last o (back_in behind (after_all behind finally)))
    (v ∙ ap returned_variable (q ∙ ap (λ (x : Context). behind_first x rs ss) p))

-- ---- which `try` it is

abbrev finally_in : Option (Vec Statement Global) → Option Stmts
finally_in finally = option_map (λ ss. pack_stmts (map stmt_of ss.items)) finally

pub with-finally : {A : Type 0} (f : Stmt → A) (t : TryTree) (finally : Vec Statement Global) (ss : List Statement) →
    (out-TryTree t).finally ≡ Some finally → ss ≡ finally.items →
    f (Finally (resources_in t) (body_of t) (clauses_of t) (pack_stmts (map stmt_of ss))) ≡ f (try_of t)
with-finally f t finally ss is same =
    ap (λ (xs : List Statement). f (Finally (resources_in t) (body_of t) (clauses_of t) (pack_stmts (map stmt_of xs))))
    same
    ∙ sym (ap (λ o. f (tried (resources_in t) (body_of t) (clauses_of t) (finally_in o))) is)
    ∙ sym (ap f (try-form t))

pub without-finally : {A : Type 0} (f : Stmt → A) (t : TryTree) → (out-TryTree t).finally ≡ None →
    f (Try (resources_in t) (body_of t) (clauses_of t)) ≡ f (try_of t)
without-finally f t is =
    sym (ap (λ o. f (tried (resources_in t) (body_of t) (clauses_of t) (finally_in o))) is)
    ∙ sym (ap f (try-form t))

pub finally-code : (a : Context) (old new : Code) (t : TryTree) (finally : Vec Statement Global)
    (ss : List Statement) → (out-TryTree t).finally ≡ Some finally → ss ≡ finally.items →
    new ≡ old ++ stmt a (Finally (resources_in t) (body_of t) (clauses_of t) (pack_stmts (map stmt_of ss))) →
    new ≡ old ++ stmt a (try_of t)
finally-code a old new t finally ss is same made =
    made ∙ with-finally (λ (s : Stmt). old ++ stmt a s) t finally ss is same

-- behind it nothing is kept of its clauses
pub try-code : (a : Context) (old first new : Code) (t : TryTree) → (out-TryTree t).finally ≡ None →
    first ≡ old ++ first_part a (resources_in t) (body_of t) → new ≡ first → new ≡ old ++ stmt a (try_of t)
try-code a old first new t is made kept =
    kept ∙ made ∙ without-finally (λ (s : Stmt). old ++ stmt a s) t is
