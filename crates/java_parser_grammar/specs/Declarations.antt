-- A contract of a public call rests on this: the declarations of a file (JLS 7.3): at most one package (JLS 7.4), then
-- imports (JLS 7.5), then types (JLS 7.6), with lone `;` among them; and the first token that does not fit.
use Rattle.std.specs.Prelude.{◌≡◌, ℕ, Bool, false, not, ◌&&◌, ◌||◌, List, [], ◌∷◌, ◌++◌, IsTrue, codes}
use Rattle.std.specs.Prelude.{filter, map, if◌then◌else◌}
use Rattle.std.specs.List.{list_all}
use Rattle.java_lexer.specs.declared.token.Token.{Token}
use Rattle.java_parser_grammar.specs.Tokens.{is_keyword_of, is_name, begins, begins_sign, begins_word}
use Rattle.java_parser_grammar.specs.Cuts.{joined}
use Rattle.java_parser_grammar.specs.Pieces.{Item, cut_pieces}

-- ---- words

-- the words of a class or an interface (JLS 8.1.1, 9.1.1)
abbrev pub type_modifiers : List (List ℕ)
type_modifiers =
    codes "public" ∷ codes "protected" ∷ codes "private" ∷ codes "static" ∷ codes "abstract" ∷ codes "final"
    ∷ codes "strictfp" ∷ []

abbrev pub is_type_modifier : Token → Bool
is_type_modifier t = is_keyword_of type_modifiers t

-- the words behind which the name of a type stands; also behind `@ interface` (JLS 8.1, 8.9, 9.1, 9.6)
abbrev pub is_type_word : Token → Bool
is_type_word t = is_keyword_of (codes "class" ∷ codes "interface" ∷ codes "enum" ∷ []) t

-- ---- one declaration

-- whether there is a first item, and it passes the test
abbrev pub leads : (Item → Bool) → List Item → Bool
leads test [] = false
leads test (i ∷ is) = test i

-- whether the last item passes the test, and none before it
abbrev pub ends_first : (Item → Bool) → List Item → Bool
ends_first test [] = false
ends_first test (i ∷ []) = test i
ends_first test (i ∷ j ∷ is) = not (test i) && ends_first test (j ∷ is)

-- what stands behind annotations and such words; of the pieces an annotation has more items than one
abbrev pub behind_front : (Token → Bool) → List (List Item) → List Item
behind_front is_word [] = []
behind_front is_word ((i ∷ []) ∷ ps) = if begins is_word i then behind_front is_word ps else i ∷ joined ps
behind_front is_word (p ∷ ps) = behind_front is_word ps

-- whether `class`, `interface`, `enum` or `@ interface` stands first, and then a name
abbrev pub names_type : List Item → Bool
names_type (i ∷ j ∷ is) =
    (begins is_type_word i && begins is_name j)
    || (begins_sign (codes "@") i && (begins_word (codes "interface") j && leads (begins is_name) is))
names_type _ = false

-- `;` alone
abbrev pub is_semicolon : List Item → Bool
is_semicolon (i ∷ []) = begins_sign (codes ";") i
is_semicolon _ = false

-- annotations, `package` and what follows, up to the first `;`
abbrev pub is_package : List Item → Bool
is_package d =
    leads (begins_word (codes "package")) (behind_front (λ t. false) (cut_pieces 0 d)) && ends_first
    (begins_sign (codes ";")) d

-- `import` and what follows, up to the first `;`
abbrev pub is_import : List Item → Bool
is_import d = leads (begins_word (codes "import")) d && ends_first (begins_sign (codes ";")) d

-- annotations and words, the word and the name of a type and what follows, up to the first braces
abbrev pub is_type : List Item → Bool
is_type d = names_type (behind_front is_type_modifier (cut_pieces 0 d)) && ends_first (begins_sign (codes "{")) d

-- ---- a file

-- what stands behind the first, where it passes the test
abbrev pub behind_one : (List Item → Bool) → List (List Item) → List (List Item)
behind_one test [] = []
behind_one test (d ∷ ds) = if test d then ds else d ∷ ds

-- from the first on that does not pass the test
abbrev pub behind_all : (List Item → Bool) → List (List Item) → List (List Item)
behind_all test [] = []
behind_all test (d ∷ ds) = if test d then behind_all test ds else d ∷ ds

-- lone `;` left out, all are types behind a package, or none, and imports
abbrev pub is_file : List (List Item) → Bool
is_file ds = list_all is_type (behind_all is_import (behind_one is_package (filter (λ d. not (is_semicolon d)) ds)))

-- the tokens of each type
abbrev pub types_among : List (List Item) → List (List Token)
types_among ds = map joined (filter is_type ds)

-- these are the declarations of a file with these items
pub record AreDeclarations (is : List Item) (ds : List (List Item)) : Type 0 where
  pub together : joined ds ≡ is
  pub file : IsTrue (is_file ds)

-- ---- what does not fit

-- a file begins with these items
abbrev pub CanBegin : List Item → Type 0
CanBegin before = (more : List Item) × (ds : List (List Item)) × AreDeclarations (before ++ more) ds

-- a file begins with the items before and the first of the rest; with no rest, they are a file
abbrev pub GoesOn : (before rest : List Item) → Type 0
GoesOn before [] = (ds : List (List Item)) × AreDeclarations before ds
GoesOn before (i ∷ is) = CanBegin (before ++ i ∷ [])

-- a file begins with the items before the rest, and none goes on with the first of it; with no rest, they are no file
pub record IsMisfit (is rest : List Item) : Type 0 where
  pub before : List Item
  pub parts : before ++ rest ≡ is
  pub begun : CanBegin before
  pub unfit : GoesOn before rest → ⊥
