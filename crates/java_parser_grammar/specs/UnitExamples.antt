-- A contract of a public call rests on this: worked readings, tokens as a reader writes them, in a line with one space
-- between two.
use Rattle.std.specs.Prelude.{◌≡◌, ℕ, ◌+◌, List, [], ◌∷◌, ◌++◌, map, length}
use Rattle.std.specs.Prelude.{replicate}
use Rattle.racer_base.specs.declared.ids.Place.{Place}
use Rattle.java_lexer.specs.declared.token.Token.{Token}
use Rattle.java_tree.specs.declared.words.Spelled.{Spelled}
use Rattle.java_tree.specs.Trees.{Annotation, Modifier}
use Rattle.java_tree.specs.Words.{sign}
use Rattle.java_tree.specs.Examples.{space, between_spaces, token_of}
use Rattle.java_tree.specs.declared.unit.ParseFault.TheVariants.{NotAUnit}
use Rattle.java_parser_grammar.specs.Pieces.{Item, items_of, inside, pieces_of}
use Rattle.java_parser_grammar.specs.ClassHeads.{annotations_in, IsHead}
use Rattle.java_parser_grammar.specs.Units.{IsFault}
use Rattle.java_parser_grammar.specs.Declarations.{types_among}
use Rattle.java_parser_grammar.specs.Members.{members_of, Form, SkippedForm, MethodForm, FieldForm, form_of}
use Rattle.java_parser_grammar.specs.Heads.{parameters_among}

-- ---- tokens

-- the column of the first line of a file
abbrev pub at : ℕ → Place
at column = record { file = record { 0 = 0 }; line = 1; column = column }

abbrev pub placed : ℕ → Spelled → Token
placed column s = record { kind = s.kind; text = s.text; place = at column; glued = s.glued }

-- tokens that stand side by side
abbrev pub placed_all : ℕ → List Spelled → List Token
placed_all column [] = []
placed_all column (s ∷ ss) = placed column s ∷ placed_all (column + length s.text) ss

abbrev pub placed_texts : ℕ → List (List ℕ) → List Token
placed_texts column [] = []
placed_texts column (text ∷ texts) = placed_all column (token_of text) ++ placed_texts (column + length text + 1) texts

-- the tokens of a line
abbrev pub line : List ℕ → List Token
line text = placed_texts 1 (between_spaces text)

-- the place behind it
abbrev pub end_of : List ℕ → Place
end_of text = at (length text + 1)

-- as many signs side by side
abbrev pub signs : ℕ → List ℕ → List Spelled
signs n text = replicate n (sign text)

-- their texts with a space between two
abbrev pub shown : List Token → List ℕ
shown [] = []
shown (t ∷ []) = t.text
shown (t ∷ u ∷ ts) = t.text ++ space ∷ shown (u ∷ ts)

-- ---- pieces

-- the pieces of a line
abbrev pub pieces : List ℕ → List (List ℕ)
pieces text = map shown (pieces_of (line text))

-- ---- files and members

-- a file cut in declarations, each as a line
abbrev pub file : List (List ℕ) → List (List Item)
file texts = map (λ text. items_of (line text)) texts

-- the types of a file
abbrev pub types : List (List ℕ) → List (List ℕ)
types texts = map shown (types_among (file texts))

-- the first token that does not fit stands here
abbrev pub UnfitAt : List ℕ → ℕ → Type 0
UnfitAt text column = IsFault (line text) (end_of text) (NotAUnit (at column))

-- a line is read as a class with these annotations and this name
pub record BeginsClass (text : List ℕ) (annotations : List Annotation) (name : List ℕ) : Type 0 where
  pub modifiers : List Modifier
  pub token : Token
  pub head : IsHead (line text) modifiers token
  pub annotated : annotations_in modifiers ≡ annotations
  pub named : token.text ≡ name

-- the members of a class with this body
abbrev pub members : List ℕ → List (List ℕ)
members text = map shown (members_of (line text))

-- the form of a member
abbrev pub form : List ℕ → Form
form text = form_of (line text)

-- of a method its name, with what stands before it and the number of its parameters
pub data Shown : Type 0 where
  NoMethod : Shown
  Method : (front : List ℕ) → (name : Token) → (parameters : ℕ) → Shown

abbrev pub shown_form : Form → Shown
shown_form SkippedForm = NoMethod
shown_form FieldForm = NoMethod
shown_form (MethodForm front name parentheses) =
    Method (shown front) name (parameters_among (items_of (inside parentheses)))

abbrev pub method : List ℕ → Shown
method text = shown_form (form text)
