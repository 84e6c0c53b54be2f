-- No public contract rests on this: reading a local class in two parts, its words and what stands behind them.
use Rattle.std.specs.Prelude.{◌≡◌, ℕ, List, [], ◌∷◌, ◌++◌, Some, codes, if◌then◌else◌}
use Rattle.java_tree.specs.declared.words.Spelled.{Spelled}
use Rattle.java_tree.specs.Brackets.{is_class_word}
use Rattle.java_tree.specs.KeptPlaces.{Places, Puts, name_places, no_places, behind_name}
use Rattle.java_tree.specs.Trees.{Stmt, LocalClass}
use Rattle.java_tree.specs.Words.{keyword, identifier}
use Rattle.java_parser_grammar.specs.BalancedReading.{Reading}
use Rattle.java_parser_grammar.specs.StatementReading.{class_from, local_class_at}
use Rattle.java_parser_grammar.specs.Taking.{◌>>=◌, after_keyword, after_name}
use Rattle.java_parser_types.specs.LedPlaces.{Leads}
use Rattle.java_parser_methods.specs.declared.local_classes.ClassTokens.{ClassTokens}

-- tokens whose places are not kept were read behind these
pub record Appends (front all : List Spelled) (here left : Places) : Type 0 where
  pub others : List Spelled
  pub are : all ≡ front ++ others
  pub led : Leads (no_places others) here left

-- words of a class, as long as they come
unfoldable pub class_words_at : Reading (List Spelled)
class_words_at [] = Some ([], [])
class_words_at (t ∷ ts) =
    if is_class_word t then (do
      words ← class_words_at ts
      Some (t ∷ words.0, words.1)) else Some ([], t ∷ ts)

-- `class` and a name
abbrev pub class_head_at : Reading (List ℕ)
class_head_at ts = do
  r ← after_keyword (codes "class") ts
  after_name r

-- a class behind its words, with these tokens before it
abbrev pub named_class_at : List Spelled → Reading (List ℕ × List Spelled)
named_class_at front ts = do
  x ← class_head_at ts
  others ← class_from [] x.1
  Some ((x.0, front ++ keyword (codes "class") ∷ identifier x.0 ∷ others.0), others.1)

-- the name and the tokens of a class
abbrev pub class_of : ClassTokens → List ℕ × List Spelled
class_of c = (c.name.text, c.items.items)

-- their places, and then the rest
abbrev pub class_places : ClassTokens → Puts
class_places c rest = name_places c.name (no_places (behind_name c.items.items) rest)

-- a local class, as a statement
abbrev pub class_line_at : Reading Stmt
class_line_at ts = do
  c ← local_class_at ts
  Some (LocalClass c.0.0 c.0.1, c.1)
