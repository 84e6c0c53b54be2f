-- No public contract rests on this: parts of statements with statements in them, as the code makes them.
use Rattle.std.specs.Prelude.{◌≡◌, ℕ, false, List, ◌++◌, Option, length, map}
use Rattle.racer_base.specs.declared.ids.VarId.{VarId}
use Rattle.java_tree.specs.declared.words.Ident.{Ident}
use Rattle.java_tree.specs.declared.statements.GroupTree.{GroupTree, out-GroupTree}
use Rattle.core_lowering_rules.specs.Trees.{Resource, Stmt, Stmts, pack_stmts}
use Rattle.core_lowering_rules.specs.TreesOf.{stmt_of}
use Rattle.core_lowering_rules.specs.Context.{Context, Code, repeated, guarded}
use Rattle.core_lowering_rules.specs.Locks.{lock_kept}
use Rattle.core_lowering_rules.specs.Scopes.{back_in, of_catch, after_all, in_loop, with_resources}
use Rattle.core_lowering_rules.specs.Statements.{broken, one_round, closed, stmt, stmts, begun_resources, last_of}
use Rattle.core_lowering_rules.specs.Statements.{kept_null}
use Rattle.core_lowering_parts.specs.StatementParts.{next_element}

-- the parts from one on and those from two on become what is made of both
abbrev pub BothBecome : (at behind : ℕ) → (Code → Code → Code) → Code → Code → Type 0
BothBecome at behind f old new =
    (left first second : Code) → at ≡ length left → behind ≡ length (left ++ first) → old ≡ left ++ first ++ second →
    new ≡ left ++ f first second

-- the loop of a `for` over elements, where its variable is in scope
abbrev pub elements : Context → VarId → Stmt → Code
elements context v s =
    let body = stmt (in_loop context) s in
    broken context false body (repeated (next_element context v ++ one_round context body))

-- the statements of a group of a `switch`
abbrev pub statements_of : GroupTree → Stmts
statements_of g = pack_stmts (map stmt_of (out-GroupTree g).body.items)

-- ---- `try`

-- behind resources and a block, and their code
abbrev pub behind_first : Context → List Resource → Stmts → Context
behind_first context rs ss = back_in context (after_all (with_resources context rs) ss)

abbrev pub first_part : Context → List Resource → Stmts → Code
first_part context rs ss =
    let inside = with_resources context rs in
    closed context inside (begun_resources context rs ++ closed inside (after_all inside ss) (stmts inside ss))

-- with a `finally`
abbrev pub guarded_by : Context → ℕ → Option VarId → (first finally : Code) → Code
guarded_by context exit variable first finally =
    kept_null context variable (guarded exit first finally (last_of context variable))

-- behind a catch clause
abbrev pub passed_by : Context → Ident × Stmts → Context
passed_by context clause = lock_kept context (after_all (of_catch context clause.0) clause.1)
