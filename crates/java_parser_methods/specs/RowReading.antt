-- No public contract rests on this: reading parts of statements that begin with a keyword of their own, by themselves.
use Rattle.std.specs.Prelude.{ℕ, suc, Bool, true, false, List, [], ◌∷◌, ◌++◌, length, Option, Some, None, codes}
use Rattle.std.specs.Prelude.{if◌then◌else◌, ◌||◌, is_some, option_map}
use Rattle.java_tree.specs.declared.words.Spelled.{Spelled}
use Rattle.java_tree.specs.Formed.{is_body}
use Rattle.java_tree.specs.Operators.{assignment_level}
use Rattle.java_tree.specs.FormedModifiers.{has_some}
use Rattle.java_tree.specs.Rows.{Do, Try, catch_row}
use Rattle.java_tree.specs.Trees.{Modifier, Ty, Resource, Resources, Stmt, Stmts, pack_stmts, Labelled, Pieces}
use Rattle.java_tree.specs.Trees.{Several, no_row}
use Rattle.java_tree.specs.Trees.{row_then, Groups, group_then}
use Rattle.java_tree.specs.View.{Finally, Group}
use Rattle.java_parser_grammar.specs.BalancedReading.{Reading}
use Rattle.java_parser_grammar.specs.Taking.{◌>>=◌, match_option, after_sign, after_keyword, after_name}
use Rattle.java_parser_grammar.specs.Readers.{Readers}
use Rattle.java_parser_grammar.specs.StatementReading.{body_at, labels_at, group_stmts_at, maybe_resources_at}
use Rattle.java_parser_grammar.specs.StatementReading.{named_at, again_at, pieces_at}
use Rattle.java_parser_grammar.specs.TypeReading.{between_each}
use Rattle.java_parser_parts.specs.Parts.{has_row, last_condition_at}

-- this statement, and the tokens behind it
abbrev pub as_made : Stmt → Reading Stmt
as_made s ts = Some (s, ts)

-- a statement behind this name and its `:`, which is no declaration
abbrev pub labelled_with : (name : List ℕ) → Stmt → Reading Stmt
labelled_with x s ts = if is_body s then Some (Labelled x s, ts) else None

-- a `try` of these parts, of which one that may be left out stands
abbrev pub try_with : Option Resources → Stmts → Several → Option Stmts → Reading Stmt
try_with resources ss clauses last ts =
    if is_some resources || (has_row clauses || is_some last) then Some (
      Try resources ss clauses (option_map Finally
          last),
      ts,
    ) else None

-- these rows, and then more
abbrev pub rows_onto : List Pieces → Several → Several
rows_onto [] more = more
rows_onto (ps ∷ front) more = row_then ps (rows_onto front more)

-- these clauses in front of those that are read
abbrev pub parts_finished : List Pieces → Option ((Several × Option Stmts) × List Spelled)
    → Option ((Several × Option Stmts) × List Spelled)
parts_finished front read = read >>= λ x. Some ((rows_onto front x.0.0, x.0.1), x.1)

-- these groups, and then more
abbrev pub groups_onto : List Group → Groups → Groups
groups_onto [] more = more
groups_onto (g ∷ front) more = group_then g.0 g.1 (groups_onto front more)

abbrev pub groups_finished : List Group → Option (Groups × List Spelled) → Option (Groups × List Spelled)
groups_finished front read = read >>= λ x. Some (groups_onto front x.0, x.1)

-- the tokens behind the `;` before one more resource
abbrev pub resource_behind : List Spelled → Option (List Spelled)
resource_behind ts = match_option (after_sign (codes ")") ts) (match_option (after_sign (codes ";") ts) None (λ r.
    match_option (after_sign (codes ")") r) (Some r) (λ s. None))) (λ s. None)

-- no further resource, whether a last `;` stands, and the tokens behind the `)`
abbrev pub resources_close : List Spelled → Option ((List Resource × Bool) × List Spelled)
resources_close ts = match_option (after_sign (codes ")") ts) (do
  r ← after_sign (codes ";") ts
  s ← after_sign (codes ")") r
  Some (([], true), s)) (λ s. Some (([], false), s))

abbrev pub the_resources : List Resource → (last : Bool) → Resources
the_resources items last = record { items = items; last = last }

-- these resources, and those that are read behind them
abbrev pub resources_end : List Resource → Option ((List Resource × Bool) × List Spelled) → Option (Resources
    × List Spelled)
resources_end front read = do
  others ← read
  Some (the_resources (front ++ others.0.0) others.0.1, others.1)

module _ (readers : Readers) where
  -- the `do` of this body, from behind it on
  abbrev pub do_end_at : ℕ → Stmt → Reading Stmt
  do_end_at n s ts = do
    e ← last_condition_at readers n ts
    Some (Do s e.0, e.1)

  -- a statement behind this name and its `:`
  abbrev pub labelled_at : Reading Stmt → (name : List ℕ) → Reading Stmt
  labelled_at read x ts = do
    s ← body_at readers read ts
    Some (Labelled x s.0, s.1)

  -- a resource behind these modifiers and this type
  unfoldable pub resource_from : ℕ → List Modifier × Ty → Reading Resource
  resource_from n front ts = do
    x ← after_name ts
    r ← after_sign (codes "=") x.1
    e ← readers.expr n assignment_level r
    Some (record { modifiers = front.0; kind = front.1; name = x.0; value = e.0 }, e.1)

  -- the types of a `catch`
  abbrev pub caught_at : ℕ → Reading (List Ty)
  caught_at n ts = between_each (codes "|") (named_at readers n) ts

  -- labels and the statements behind them
  abbrev pub group_at : Reading Stmt → ℕ → Reading Group
  group_at read n ts = do
    ls ← labels_at readers n (length ts) ts
    if has_some ls.0 then (do
      ss ← group_stmts_at readers read (suc (length ls.1)) ls.1
      Some ((ls.0, pack_stmts ss.0), ss.1)) else None

  -- what stands behind the `catch`es, and behind each
  abbrev pub clauses_at : Reading Stmt → Reading Stmts → ℕ → Reading Several
  clauses_at read block n ts = again_at readers (pieces_at readers read block n catch_row) (codes "catch") (suc (length
      ts)) ts

  -- the block behind `finally`, where this stands here
  abbrev pub finally_at : Reading Stmts → Reading (Option Stmts)
  finally_at block ts = match_option (after_keyword (codes "finally") ts) (Some (None, ts)) (λ r. do
    ss ← block r
    Some (Some ss.0, ss.1))

  -- the clauses and the last block
  abbrev pub parts_at : Reading Stmt → Reading Stmts → ℕ → Reading (Several × Option Stmts)
  parts_at read block n ts = do
    clauses ← clauses_at read block n ts
    last ← finally_at block clauses.1
    Some ((clauses.0, last.0), last.1)

  -- what is still read of them, where the last block was read or was not: fewer than m clauses
  abbrev pub parts_left : Reading Pieces → Reading Stmts → (m : ℕ) → Option Stmts → Reading (Several × Option Stmts)
  parts_left one block m (Some last) ts = Some ((no_row, Some last), ts)
  parts_left one block m None ts = do
    clauses ← again_at readers one (codes "catch") m ts
    last ← finally_at block clauses.1
    Some ((clauses.0, last.0), last.1)

  -- behind `try`
  unfoldable pub try_at : Reading Stmt → Reading Stmts → ℕ → Reading Stmt
  try_at read block n ts = do
    resources ← maybe_resources_at readers n ts
    ss ← block resources.1
    parts ← parts_at read block n ss.1
    try_with resources.0 ss.0 parts.0.0 parts.0.1 parts.1
