-- A contract of a public call rests on this: reading one modifier of types, methods, fields and variables alike, the
-- modifiers of a type (JLS 8.1.1), and the head of a class that is read (JLS 8.1).
use Rattle.std.specs.Prelude.{ℕ, zero, suc, ◌-◌, Bool, not, ◌&&◌, ◌||◌, List, [], ◌∷◌, length, drop, Option, Some, None}
use Rattle.std.specs.Prelude.{codes, if◌then◌else◌}
use Rattle.racer_base.specs.Name.{is_listed}
use Rattle.java_lexer.specs.declared.token.Token.{Token}
use Rattle.java_tree.specs.declared.words.Spelled.{Spelled}
use Rattle.java_tree.specs.Brackets.{is_keyword_kind}
use Rattle.java_tree.specs.Trees.{Modifier, Word, Annotated}
use Rattle.java_parser_grammar.specs.Taking.{◌>>=◌, match_option, after_sign}
use Rattle.java_parser_grammar.specs.BalancedReading.{Reading, annotation_at}
use Rattle.java_parser_grammar.specs.Declarations.{type_modifiers}
use Rattle.java_parser_grammar.specs.Tokens.{plain_all, is_sign_token, is_word_token, is_name}

-- ---- one modifier

-- a keyword that passes the test, and the tokens behind it
abbrev pub word_at : (List ℕ → Bool) → List Spelled → Option (List ℕ × List Spelled)
word_at test [] = None
word_at test (t ∷ ts) = if is_keyword_kind t.kind && (not t.glued && test t.text) then Some (t.text, ts) else None

-- such a word or an annotation and the tokens behind it, where one stands
abbrev pub modifier_at : (List ℕ → Bool) → List Spelled → Option (Option (Modifier × List Spelled))
modifier_at test ts = match_option (after_sign (codes "@") ts) (match_option (word_at test ts) (Some None)
    (λ w. Some (Some (Word w.0, w.1)))) (λ r. do
      first ← annotation_at r
      Some (Some (Annotated first.0, first.1)))

-- ---- the head of a class

-- words of a type and annotations, as long as they come
unfoldable pub type_modifiers_at : ℕ → Reading (List Modifier)
type_modifiers_at zero ts = None
type_modifiers_at (suc m) ts = do
  one ← modifier_at (is_listed type_modifiers) ts
  match_option one (Some ([], ts)) (λ x. do
    others ← type_modifiers_at m x.1
    Some (x.0 ∷ others.0, others.1))

-- whether these are the word of a class that is read, its name and the token behind it
abbrev pub is_class : (word name next : Token) → Bool
is_class word name next =
    is_word_token (codes "class") word
    && (is_name name && (is_sign_token (codes "{") next || is_word_token (codes "implements") next))

-- the name of a class that is read, from its word on
abbrev pub name_behind_class : List Token → Option Token
name_behind_class (word ∷ name ∷ next ∷ ts) = if is_class word name next then Some name else None
name_behind_class _ = None

-- the modifiers of a class that is read, and its name
abbrev pub class_head : List Token → Option (List Modifier × Token)
class_head type = do
  front ← type_modifiers_at (length type) (plain_all type)
  name ← name_behind_class (drop (length type - length front.1) type)
  Some (front.0, name)
