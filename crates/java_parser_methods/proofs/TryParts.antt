-- A `try` by its parts.
use Rattle.std.proofs.Common.{◌≡◌, ℕ, List, Option, Some, None, refl, codes}
use Rattle.java_tree.specs.declared.words.Spelled.{Spelled}
use Rattle.java_tree.specs.Trees.{Resources, Stmt, Stmts, Several, no_row, row_then}
use Rattle.java_parser_grammar.specs.BalancedReading.{Reading}
use Rattle.java_parser_grammar.specs.Taking.{after_keyword}
use Rattle.java_parser_grammar.specs.Readers.{Readers}
use Rattle.java_parser_grammar.specs.StatementReading.{maybe_resources_at, pieces_at, row_at}
use Rattle.java_parser_methods.specs.RowReading.{clauses_at, try_at}

module _ (readers : Readers) (read : Reading Stmt) (block : Reading Stmts) (n : ℕ) (ts : List Spelled) where
  abbrev Same : Type 0
  Same = row_at readers read block n (codes "try") ts ≡ try_at readers read block n ts

  without_last : (rs : Option Resources) (ss : Stmts) (cs : Several) (a b c : List Spelled)
      → after_keyword (codes "finally") c ≡ None → clauses_at readers read block n b ≡ Some (cs, c)
      → block a ≡ Some (ss, b) → maybe_resources_at readers n ts ≡ Some (rs, a) → Same
  unfolding pieces_at try_at
  without_last (Some rs) ss cs a b c k g h e = rw (e, h, g, k) refl
  without_last None ss no_row a b c k g h e = rw (e, h, g, k) refl
  without_last None ss (row_then ps more) a b c k g h e = rw (e, h, g, k) refl

  with_last : (rs : Option Resources) (ss : Stmts) (cs : Several) (a b c d : List Spelled) (last : Option (Stmts × List
      Spelled)) → block d ≡ last → after_keyword (codes "finally") c ≡ Some d
      → clauses_at readers read block n b ≡ Some (cs, c) → block a ≡ Some (ss, b)
      → maybe_resources_at readers n ts ≡ Some (rs, a) → Same
  unfolding pieces_at try_at
  with_last rs ss cs a b c d None l k g h e = rw (e, h, g, k, l) refl
  with_last (Some rs) ss cs a b c d (Some last) l k g h e = rw (e, h, g, k, l) refl
  with_last None ss no_row a b c d (Some last) l k g h e = rw (e, h, g, k, l) refl
  with_last None ss (row_then ps more) a b c d (Some last) l k g h e = rw (e, h, g, k, l) refl

  by_last : (rs : Option Resources) (ss : Stmts) (cs : Several) (a b c : List Spelled) (o : Option (List Spelled))
      → after_keyword (codes "finally") c ≡ o → clauses_at readers read block n b ≡ Some (cs, c)
      → block a ≡ Some (ss, b) → maybe_resources_at readers n ts ≡ Some (rs, a) → Same
  by_last rs ss cs a b c None k g h e = without_last rs ss cs a b c k g h e
  by_last rs ss cs a b c (Some d) k g h e = with_last rs ss cs a b c d (block d) refl k g h e

  by_clauses : (rs : Option Resources) (ss : Stmts) (a b : List Spelled) (o : Option (Several × List Spelled))
      → clauses_at readers read block n b ≡ o → block a ≡ Some (ss, b)
      → maybe_resources_at readers n ts ≡ Some (rs, a) → Same
  unfolding pieces_at try_at
  by_clauses rs ss a b None g h e = rw (e, h, g) refl
  by_clauses rs ss a b (Some cs) g h e =
      by_last rs ss cs.0 a b cs.1 (after_keyword (codes "finally") cs.1) refl g h e

  by_block : (rs : Option Resources) (a : List Spelled) (o : Option (Stmts × List Spelled)) → block a ≡ o
      → maybe_resources_at readers n ts ≡ Some (rs, a) → Same
  unfolding pieces_at try_at
  by_block rs a None h e = rw (e, h) refl
  by_block rs a (Some ss) h e = by_clauses rs ss.0 a ss.1 (clauses_at readers read block n ss.1) refl h e

  by_resources : (o : Option (Option Resources × List Spelled)) → maybe_resources_at readers n ts ≡ o → Same
  unfolding pieces_at try_at
  by_resources None e = rw e refl
  by_resources (Some rs) e = by_block rs.0 rs.1 (block rs.1) refl e

  pub try_by_parts : row_at readers read block n (codes "try") ts ≡ try_at readers read block n ts
  try_by_parts = by_resources (maybe_resources_at readers n ts) refl
