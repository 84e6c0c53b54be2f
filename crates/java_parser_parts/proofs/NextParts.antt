-- What stands where a part of a `try` is the next, or none is, and no last block was read.
use Rattle.std.proofs.Common.{◌≡◌, false, List, codes, Option, Some, None, refl}
use Rattle.java_tree.specs.declared.words.Spelled.{Spelled}
use Rattle.java_parser_grammar.specs.Taking.{match_option, after_keyword}
use Rattle.java_parser_parts.specs.Parts.{Part, Clause, Last, Nothing, next_part}

abbrev by_words : (o p : Option (List Spelled)) → Part
by_words o p = match_option o (match_option p Nothing Last) Clause

by_catch : (r : List Spelled) (o p : Option (List Spelled)) → Clause r ≡ by_words o p → o ≡ Some r
by_catch r None None h = absurd cc
by_catch r None (Some s) h = absurd cc
by_catch r (Some s) p h = cc

by_finally : (r : List Spelled) (o p : Option (List Spelled)) → Last r ≡ by_words o p → (o ≡ None) × (p ≡ Some r)
by_finally r None None h = absurd cc
by_finally r None (Some s) h = (refl, cc)
by_finally r (Some s) p h = absurd cc

by_neither : (o p : Option (List Spelled)) → Nothing ≡ by_words o p → (o ≡ None) × (p ≡ None)
by_neither None None h = (refl, refl)
by_neither None (Some s) h = absurd cc
by_neither (Some s) p h = absurd cc

module _ (ts : List Spelled) where
  -- a clause
  pub clause_next : (r : List Spelled) → Clause r ≡ next_part false ts → after_keyword (codes "catch") ts ≡ Some r
  clause_next r h = by_catch r (after_keyword (codes "catch") ts) (after_keyword (codes "finally") ts) h

  -- the last block
  pub last_next : (r : List Spelled) → Last r ≡ next_part false ts
      → (after_keyword (codes "catch") ts ≡ None) × (after_keyword (codes "finally") ts ≡ Some r)
  last_next r h = by_finally r (after_keyword (codes "catch") ts) (after_keyword (codes "finally") ts) h

  -- neither
  pub nothing_next : Nothing ≡ next_part false ts
      → (after_keyword (codes "catch") ts ≡ None) × (after_keyword (codes "finally") ts ≡ None)
  nothing_next h = by_neither (after_keyword (codes "catch") ts) (after_keyword (codes "finally") ts) h
