-- A contract of a public call rests on this: what is read before the statements inside of a statement and behind them.
use Rattle.std.specs.Prelude.{ℕ, Bool, true, false, List, Some, codes}
use Rattle.java_tree.specs.declared.words.Spelled.{Spelled}
use Rattle.java_tree.specs.Trees.{Expr, Label, Default, Several, no_row, row_then}
use Rattle.java_parser_grammar.specs.BalancedReading.{Reading}
use Rattle.java_parser_grammar.specs.Taking.{◌>>=◌, match_option, after_sign, after_keyword}
use Rattle.java_parser_grammar.specs.Readers.{Readers}
use Rattle.java_parser_grammar.specs.StatementReading.{condition_at}

-- whether there is a row
abbrev pub has_row : Several → Bool
has_row no_row = false
has_row (row_then ps more) = true

-- `default :`
abbrev pub default_at : Reading Label
default_at ts = do
  r ← after_keyword (codes "default") ts
  c ← after_sign (codes ":") r
  Some (Default, c)

-- a part of a `try` behind its block, and the tokens behind its word
pub data Part : Type 0 where
  Clause : List Spelled → Part
  Last : List Spelled → Part
  Nothing : Part

-- the part that stands here, where the last block was read or was not
abbrev pub next_part : (had_last : Bool) → List Spelled → Part
next_part true ts = Nothing
next_part false ts = match_option (after_keyword (codes "catch") ts)
    (match_option (after_keyword (codes "finally") ts) Nothing Last) Clause

module _ (readers : Readers) where
  -- the value of a `switch`, and the tokens behind the `{` of its groups
  abbrev pub switch_front_at : ℕ → Reading Expr
  switch_front_at n ts = do
    e ← condition_at readers n ts
    r ← after_sign (codes "{") e.1
    Some (e.0, r)

  -- `while ( E ) ;`
  abbrev pub last_condition_at : ℕ → Reading Expr
  last_condition_at n ts = do
    r ← after_keyword (codes "while") ts
    e ← condition_at readers n r
    s ← after_sign (codes ";") e.1
    Some (e.0, s)
