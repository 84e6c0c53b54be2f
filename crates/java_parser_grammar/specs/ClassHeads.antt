-- A contract of a public call rests on this: what stands before the body of a class that is read (JLS 8.1): modifiers,
-- `class` and a name, with neither type parameters nor `extends` behind it.
use Rattle.std.specs.Prelude.{◌≡◌, ◌||◌, List, [], ◌∷◌, ◌++◌, IsTrue, codes}
use Rattle.racer_base.specs.Name.{is_listed}
use Rattle.java_lexer.specs.declared.token.Token.{Token}
use Rattle.java_tree.specs.FormedModifiers.{Each, FormedAnnotation}
use Rattle.java_tree.specs.Spelling.{modifiers_onto}
use Rattle.java_tree.specs.Trees.{Annotation, Modifier, Word, Annotated}
use Rattle.java_parser_grammar.specs.Declarations.{type_modifiers}
use Rattle.java_parser_grammar.specs.Tokens.{plain_all, is_sign_token, is_word_token, is_name}

-- a word of a type (JLS 8.1.1), or an annotation (JLS 9.7)
abbrev pub FormedTypeModifier : Modifier → Type 0
FormedTypeModifier (Annotated n) = FormedAnnotation n
FormedTypeModifier (Word text) = IsTrue (is_listed type_modifiers text)

-- the annotations among modifiers
abbrev pub annotations_in : List Modifier → List Annotation
annotations_in [] = []
annotations_in (Word text ∷ ms) = annotations_in ms
annotations_in (Annotated n ∷ ms) = n ∷ annotations_in ms

-- the tokens of a type begin with these modifiers, `class` and this name, and then its braces stand, or what it
-- implements (JLS 8.1.5)
pub record IsHead (type : List Token) (modifiers : List Modifier) (name : Token) : Type 0 where
  pub front : List Token
  pub word : Token
  pub next : Token
  pub rest : List Token
  pub parts : type ≡ front ++ word ∷ name ∷ next ∷ rest
  pub formed : Each FormedTypeModifier modifiers
  pub spelled : modifiers_onto modifiers [] ≡ plain_all front
  pub class : IsTrue (is_word_token (codes "class") word)
  pub named : IsTrue (is_name name)
  pub behind : IsTrue (is_sign_token (codes "{") next || is_word_token (codes "implements") next)

-- they begin with no such head
abbrev pub HasNoHead : List Token → Type 0
HasNoHead type = (modifiers : List Modifier) (name : Token) → IsHead type modifiers name → ⊥
