-- The groups of a `switch` are read, each up to the next label or the `}`.
use Rattle.std.proofs.Common.{◌≡◌, ℕ, zero, suc, ◌≤◌, ◌<◌, true, false, ◌||◌, List, [], ◌∷◌, length, Some, None}
use Rattle.std.proofs.Common.{IsTrue, codes, refl, arith}
use Rattle.std.specs.Prelude.{is_some}
use Rattle.java_tree.specs.declared.words.Spelled.{Spelled}
use Rattle.java_tree.specs.Words.{sign}
use Rattle.java_tree.specs.Trees.{Label, Case, Default, Stmt, Stmts, no_stmt, stmt_then, Pieces, a_switch, Groups}
use Rattle.java_tree.specs.Trees.{no_group, group_then}
use Rattle.java_tree.specs.Spelling.{labels_onto, stmts_onto, pieces_onto, groups_onto}
use Rattle.java_tree.specs.FormedModifiers.{Each, has_some}
use Rattle.java_tree.specs.Formed.{has_stmt, has_group, FormedLabel, FormedStmts, FormedGroups}
use Rattle.java_tree.specs.Nesting.{most_over, label_nesting}
use Rattle.java_tree.specs.Rows.{ASwitch, Slots, ◌▹◌}
use Rattle.java_parser_grammar.specs.BalancedReading.{Reading}
use Rattle.java_parser_grammar.specs.Taking.{after_sign, after_keyword}
use Rattle.java_parser_grammar.specs.Readers.{Readers}
use Rattle.java_parser_grammar.specs.StatementReading.{begins_label, group_stmts_at, groups_at, pieces_at, stmt_at}
use Rattle.java_parser_grammar.proofs.FindingReaders.{Finds}
use Rattle.java_parser_grammar.proofs.FoundForms.{EachRead, pack-unpack_stmts}
use Rattle.java_parser_grammar.proofs.FoundRowParts.{labels_found}
use Rattle.java_parser_grammar.proofs.FoundRows.{RowRead}
use Rattle.java_parser_grammar.proofs.LongerStatements.{unpack_stmts, stmts_fit, labels_fit}
use Rattle.java_parser_grammar.proofs.ReadableRows.{groups_of}
use Rattle.java_parser_grammar.proofs.StatementFronts.{NoJoin, joining_cases, starts_statement}

-- the groups that are left, and the `}`
abbrev pub groups_tail : Groups → List Spelled → List Spelled
groups_tail gs rest = groups_onto gs (sign (codes "}") ∷ rest)

-- they do not go on with a statement
pub groups_quiet : (gs : Groups) (rest : List Spelled) → FormedGroups gs → NoJoin (groups_tail gs rest)
groups_quiet no_group rest f = joining_cases (λ w. after_keyword w (groups_tail no_group rest) ≡ None) refl refl refl
groups_quiet (group_then [] ss gs) rest f = absurd cc
groups_quiet (group_then (Case e ∷ ls) ss gs) rest f =
    joining_cases (λ w. after_keyword w (groups_tail (group_then (Case e ∷ ls) ss gs) rest) ≡ None) refl refl refl
groups_quiet (group_then (Default ∷ ls) ss gs) rest f =
    joining_cases (λ w. after_keyword w (groups_tail (group_then (Default ∷ ls) ss gs) rest) ≡ None) refl refl refl

-- a label is no `}`
labels_open : (ls : List Label) (rest : List Spelled) → IsTrue (has_some ls)
    → after_sign (codes "}") (labels_onto ls rest) ≡ None
labels_open [] rest some = absurd cc
labels_open (Case e ∷ ls) rest some = refl
labels_open (Default ∷ ls) rest some = refl

module _ (readers : Readers) (EndsTy EndsExpr : List Spelled → Type 0) (finds : Finds readers EndsTy EndsExpr) where
  groups_stop : (gs : Groups) (rest : List Spelled) → FormedGroups gs
      → (begins_label readers (groups_tail gs rest) || is_some (after_sign (codes "}") (groups_tail gs rest))) ≡ true
  groups_stop no_group rest f = refl
  groups_stop (group_then [] ss gs) rest f = absurd cc
  groups_stop (group_then (Case e ∷ ls) ss gs) rest f = refl
  groups_stop (group_then (Default ∷ ls) ss gs) rest f = refl

  -- behind the labels of a group stands a statement, or the `}` of the last one
  labels_stop : (ss : Stmts) (gs : Groups) (rest : List Spelled) → FormedStmts ss
      → (IsTrue (has_group gs) → IsTrue (has_stmt ss))
      → begins_label readers (stmts_onto ss (groups_tail gs rest)) ≡ false
  labels_stop (stmt_then s ss) gs rest f some =
      let starts = starts_statement s (stmts_onto ss (groups_tail gs rest)) f.0 in
      rw (starts.no_case, starts.no_default) refl
  labels_stop no_stmt no_group rest f some = refl
  labels_stop no_stmt (group_then labels ts gs) rest f some = let has = some refl in absurd cc

  group_stmts_read : (read : Reading Stmt) (ss : Stmts) (m : ℕ) (gs : Groups) (rest : List Spelled)
      → FormedStmts ss → FormedGroups gs → EachRead readers EndsTy EndsExpr finds read ss (groups_tail gs rest)
      → length (unpack_stmts ss) < m → group_stmts_at readers read m (stmts_onto ss (groups_tail gs rest)) ≡ Some
      (unpack_stmts ss, groups_tail gs rest)
  unfolding group_stmts_at unpack_stmts
  group_stmts_read read ss zero gs rest f g each room = absurd (omega arith)
  group_stmts_read read no_stmt (suc m) gs rest f g each room = rw (groups_stop gs rest g) refl
  group_stmts_read read (stmt_then s ss) (suc m) gs rest f g each room =
      let starts = starts_statement s (stmts_onto ss (groups_tail gs rest)) f.0 in
      rw (
        starts.no_case,
        starts.no_default,
        starts.no_brace,
        each.0,
        group_stmts_read read ss m gs rest f.1 g each.1 (omega arith),
      ) refl

  abbrev pub GroupsRead : ℕ → ℕ → Groups → List Spelled → Type 0
  GroupsRead n m gs rest = groups_at readers (stmt_at readers n) n m (groups_tail gs rest) ≡ Some (gs, rest)

  pub no_more_groups : (n m : ℕ) (rest : List Spelled) → GroupsRead n (suc m) no_group rest
  unfolding groups_at
  no_more_groups n m rest = refl

  pub one_more_group : (n m : ℕ) (labels : List Label) (ss : Stmts) (gs : Groups) (rest : List Spelled)
      → IsTrue (has_some labels) → Each FormedLabel labels → most_over label_nesting labels ≤ n → FormedStmts ss
      → (IsTrue (has_group gs) → IsTrue (has_stmt ss)) → FormedGroups gs
      → EachRead readers EndsTy EndsExpr finds (stmt_at readers n) ss (groups_tail gs rest) → GroupsRead n m gs rest
      → GroupsRead n (suc m) (group_then labels ss gs) rest
  unfolding groups_at
  one_more_group n m labels ss gs rest some f fits g last h each k =
      let behind = stmts_onto ss (groups_tail gs rest) in
      let room : length labels ≤ length (labels_onto labels behind) = omega (arith, labels_fit labels f behind) in
      rw (
        labels_open labels behind some,
        labels_found readers EndsTy EndsExpr finds labels n (length (labels_onto labels behind)) behind f fits room
            (labels_stop ss gs rest g last),
        some,
        group_stmts_read (stmt_at readers n) ss (suc (length behind)) gs rest g h each
            (omega (arith, stmts_fit ss g (groups_tail gs rest))),
        pack-unpack_stmts ss,
        k,
      ) refl

  pub switch_read : (n : ℕ) (row : Slots) (gs : Groups) (ps : Pieces) (rest : List Spelled)
      → GroupsRead n (length (groups_tail gs (pieces_onto ps rest))) gs (pieces_onto ps rest)
      → RowRead readers EndsTy EndsExpr finds n row ps rest
      → RowRead readers EndsTy EndsExpr finds n (ASwitch ▹ row) (a_switch gs ps) rest
  unfolding pieces_at
  switch_read n row gs ps rest k h = rw (k, h) refl

  pub group_less : (labels : List Label) (ss : Stmts) (gs : Groups) (m : ℕ)
      → groups_of (group_then labels ss gs) < suc m → groups_of gs < m
  unfolding groups_of
  group_less labels ss gs m h = omega (arith, h)
