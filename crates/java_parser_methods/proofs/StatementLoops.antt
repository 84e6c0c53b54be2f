-- A loop that reads statements up to a brace: what it has, and what it still reads.
use Rattle.std.proofs.Common.{◌≡◌, ℕ, suc, ◌+◌, ◌-◌, ◌≤◌, ◌<◌, List, [], ◌∷◌, ◌++◌, length, map, codes, Option}
use Rattle.std.proofs.Common.{Some, None, refl, sym, ◌∙◌, ap, append-nil}
use Rattle.java_lexer.specs.declared.token.Token.{Token}
use Rattle.java_tree.specs.declared.words.Spelled.{Spelled}
use Rattle.java_tree.specs.Trees.{Stmt}
use Rattle.java_parser_types.specs.declared.error.ReadError.{ReadError}
use Rattle.java_parser_types.specs.declared.error.ReadError.TheVariants.{Memory, Unformed}
use Rattle.java_parser_grammar.specs.BalancedReading.{Reading}
use Rattle.java_parser_grammar.specs.Taking.{after_sign}
use Rattle.java_parser_grammar.specs.Readers.{Readers}
use Rattle.java_parser_grammar.specs.Lookahead.{statement_lead}
use Rattle.java_parser_grammar.specs.StatementReading.{stmts_at, braces_at, by_lead, stmt_at, block_at}
use Rattle.java_parser_types.specs.Tokens.{spelled}
use Rattle.java_parser_types.specs.Finishing.{finished}
use Rattle.java_parser_types.specs.ReadAnswer.{Fails}
use Rattle.java_parser_types.proofs.ReadLoops.{some_left, none_left, regroup}

module _ {B : Type 0} (readers : Readers) (read : Reading Stmt) (finish : List Stmt × List Spelled
    → Option B) (total : Option B) (tokens : List Token) (i : ℕ) (front : List Stmt) where
  pub statement_goes_on : (x : Stmt) (here rest : List Spelled) → i < length tokens
      → after_sign (codes "}") here ≡ None → read here ≡ Some (x, rest)
      → finished finish front (stmts_at readers read (length (map spelled tokens) - i) here) ≡ total
      → finished finish (front ++ x ∷ []) (stmts_at readers read (length (map spelled tokens) - (i + 1)) rest) ≡ total
  unfolding stmts_at
  statement_goes_on x here rest lt g h so_far =
      let k = some_left tokens i lt in
      let one : finished finish front (stmts_at readers read (length (map spelled tokens) - i) here) ≡ finished finish
      (front ++ x ∷ []) (stmts_at readers read (length (map spelled tokens) - (i + 1)) rest) =
      rw (k, g, h) (regroup finish front x (stmts_at readers read (length (map spelled tokens) - (i + 1))
      rest)) in
      sym one ∙ so_far

  pub statement_fails : (e : ReadError) (here : List Spelled) → i < length tokens → after_sign (codes "}") here ≡ None
      → Fails e (read here) → finished finish front (stmts_at readers read (length (map spelled tokens) - i) here)
      ≡ total → Fails e total
  unfolding stmts_at
  statement_fails Memory here lt g h so_far = tt
  statement_fails Unformed here lt g h so_far =
      let k = some_left tokens i lt in
      let one : finished finish front (stmts_at readers read (length (map spelled tokens) - i) here) ≡ None =
      rw (k, g, h) refl in
      sym so_far ∙ one

  pub statements_end : (here after : List Spelled) → i < length tokens → after_sign (codes "}") here ≡ Some after
      → finished finish front (stmts_at readers read (length (map spelled tokens) - i) here) ≡ total
      → total ≡ finish (front, after)
  unfolding stmts_at
  statements_end here after lt g so_far =
      let k = some_left tokens i lt in
      let one : finished finish front (stmts_at readers read (length (map spelled tokens) - i) here) ≡ finish (
        front,
        after,
      ) = rw (k, g) (ap (λ (xs : List Stmt). finish (xs, after)) (append-nil front)) in
      sym so_far ∙ one

  pub statements_run_out : (here : List Spelled) → length tokens ≤ i
      → finished finish front (stmts_at readers read (length (map spelled tokens) - i) here) ≡ total → total ≡ None
  unfolding stmts_at
  statements_run_out here le so_far =
      let k = none_left tokens i le in
      let one : finished finish front (stmts_at readers read (length (map spelled tokens) - i) here) ≡ None =
      rw k refl in
      sym so_far ∙ one

-- ---- one nesting less

module _ (readers : Readers) (n m : ℕ) (ts : List Spelled) where
  pub stmt_within : n ≡ suc m → stmt_at readers n ts ≡ by_lead readers (stmt_at readers m) (block_at readers m) m
      (statement_lead ts) ts
  unfolding stmt_at
  stmt_within e = rw e refl

  pub block_within : n ≡ suc m → (rest : List Spelled) → after_sign (codes "{") ts ≡ Some rest
      → block_at readers n ts ≡ braces_at readers (stmt_at readers m) rest
  unfolding block_at
  block_within e rest g = rw (e, g) refl
