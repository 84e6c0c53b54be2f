-- What the tests of an item say together: it begins with one sign or word that is known, or with none of them.
use Rattle.std.proofs.Common.{◌≡◌, ℕ, Bool, true, false, not, ◌&&◌, List, [], ◌∷◌, refl, sym, ◌∙◌, subst, codes}
use Rattle.std.proofs.lemmas.Bool.{true≢false}
use Rattle.java_lexer.specs.declared.token.Token.{Token}
use Rattle.racer_base.specs.Name.{is_listed}
use Rattle.java_tree.specs.declared.words.Spelled.{Spelled}
use Rattle.java_tree.specs.Words.{keyword, sign}
use Rattle.java_tree.specs.Brackets.{is_sign}
use Rattle.java_tree.specs.Brackets.{is_keyword_kind, is_keyword}
use Rattle.java_tree.specs.Brackets.{is_word_name}
use Rattle.java_parser_grammar.proofs.Taken.{sign_is}
use Rattle.java_parser_grammar.specs.Tokens.{plain, is_name, begins, begins_sign, begins_word}
use Rattle.java_parser_grammar.specs.Pieces.{Item}
use Rattle.java_parser_grammar.specs.Declarations.{is_type_modifier, is_type_word}
use Rattle.java_parser_grammar.proofs.Ensuring.{keyword_is}

pub data Letter : Type 0 where
  Semicolon : Letter
  Braces : Letter
  Parentheses : Letter
  Point : Letter
  AtMark : Letter
  PackageWord : Letter
  ImportWord : Letter
  InterfaceWord : Letter
  -- whether it is a word of a type, one that stands before its name, or a name
  Other : (modifier word name : Bool) → Letter

abbrev pub at_semicolon : Letter → Bool
at_semicolon Semicolon = true
at_semicolon _ = false

abbrev pub at_braces : Letter → Bool
at_braces Braces = true
at_braces _ = false

abbrev pub at_parentheses : Letter → Bool
at_parentheses Parentheses = true
at_parentheses _ = false

abbrev pub at_point : Letter → Bool
at_point Point = true
at_point _ = false

abbrev pub at_mark : Letter → Bool
at_mark AtMark = true
at_mark _ = false

abbrev pub at_package : Letter → Bool
at_package PackageWord = true
at_package _ = false

abbrev pub at_import : Letter → Bool
at_import ImportWord = true
at_import _ = false

abbrev pub at_interface : Letter → Bool
at_interface InterfaceWord = true
at_interface _ = false

abbrev pub at_modifier : Letter → Bool
at_modifier (Other modifier word name) = modifier
at_modifier _ = false

abbrev pub at_word : Letter → Bool
at_word InterfaceWord = true
at_word (Other modifier word name) = word
at_word _ = false

abbrev pub at_name : Letter → Bool
at_name (Other modifier word name) = name
at_name _ = false

-- the item is read as this
pub record Reads (i : Item) (l : Letter) : Type 0 where
  pub semicolon : begins_sign (codes ";") i ≡ at_semicolon l
  pub braces : begins_sign (codes "{") i ≡ at_braces l
  pub parentheses : begins_sign (codes "(") i ≡ at_parentheses l
  pub point : begins_sign (codes ".") i ≡ at_point l
  pub mark : begins_sign (codes "@") i ≡ at_mark l
  pub package_word : begins_word (codes "package") i ≡ at_package l
  pub import_word : begins_word (codes "import") i ≡ at_import l
  pub interface_word : begins_word (codes "interface") i ≡ at_interface l
  pub modifier : begins is_type_modifier i ≡ at_modifier l
  pub word : begins is_type_word i ≡ at_word l
  pub name : begins is_name i ≡ at_name l

abbrev listed : List (List ℕ) → Spelled → Bool
listed words s = is_keyword_kind s.kind && (not s.glued && is_listed words s.text)

abbrev modifiers : List (List ℕ)
modifiers =
    codes "public" ∷ codes "protected" ∷ codes "private" ∷ codes "static" ∷ codes "abstract" ∷ codes "final"
    ∷ codes "strictfp" ∷ []

abbrev words : List (List ℕ)
words = codes "class" ∷ codes "interface" ∷ codes "enum" ∷ []

record Spells (s : Spelled) (l : Letter) : Type 0 where
  pub semicolon : is_sign (codes ";") s ≡ at_semicolon l
  pub braces : is_sign (codes "{") s ≡ at_braces l
  pub parentheses : is_sign (codes "(") s ≡ at_parentheses l
  pub point : is_sign (codes ".") s ≡ at_point l
  pub mark : is_sign (codes "@") s ≡ at_mark l
  pub package_word : is_keyword (codes "package") s ≡ at_package l
  pub import_word : is_keyword (codes "import") s ≡ at_import l
  pub interface_word : is_keyword (codes "interface") s ≡ at_interface l
  pub modifier : listed modifiers s ≡ at_modifier l
  pub word : listed words s ≡ at_word l
  pub name : is_word_name s ≡ at_name l

abbrev spelled : Letter → Spelled
spelled Semicolon = sign (codes ";")
spelled Braces = sign (codes "{")
spelled Parentheses = sign (codes "(")
spelled Point = sign (codes ".")
spelled AtMark = sign (codes "@")
spelled PackageWord = keyword (codes "package")
spelled ImportWord = keyword (codes "import")
spelled InterfaceWord = keyword (codes "interface")
spelled (Other modifier word name) = sign []

abbrev is_known : Letter → Bool
is_known (Other modifier word name) = false
is_known _ = true

known : (l : Letter) → is_known l ≡ true → Spells (spelled l) l
known (Other modifier word name) h = absurd cc
known l h = record {
  semicolon = refl;
  braces = refl;
  parentheses = refl;
  point = refl;
  mark = refl;
  package_word = refl;
  import_word = refl;
  interface_word = refl;
  modifier = refl;
  word = refl;
  name = refl;
}

abbrev Read : Spelled → Type 0
Read s = (l : Letter) × Spells s l

by_sign : (l : Letter) (s : Spelled) → is_known l ≡ true → s ≡ spelled l → Read s
by_sign l s k e = (l, subst (λ (s : Spelled). Spells s l) (sym e) (known l k))

read_spelled : (s : Spelled) → Read s
read_spelled s =
    one (is_sign (codes ";") s) (is_sign (codes "{") s) (is_sign (codes "(") s) (is_sign (codes ".") s)
    (is_sign (codes "@") s) (is_keyword (codes "package") s) (is_keyword (codes "import") s)
    (is_keyword (codes "interface") s) refl refl refl refl refl refl refl refl where
      one : (a b c d e f g h : Bool) → is_sign (codes ";") s ≡ a → is_sign (codes "{") s ≡ b
          → is_sign (codes "(") s ≡ c → is_sign (codes ".") s ≡ d → is_sign (codes "@") s ≡ e
          → is_keyword (codes "package") s ≡ f → is_keyword (codes "import") s ≡ g
          → is_keyword (codes "interface") s ≡ h → Read s
      one true b c d e f g h p q r t u v w x = by_sign Semicolon s refl (sign_is (codes ";") s p)
      one false true c d e f g h p q r t u v w x = by_sign Braces s refl (sign_is (codes "{") s q)
      one false false true d e f g h p q r t u v w x = by_sign Parentheses s refl (sign_is (codes "(") s r)
      one false false false true e f g h p q r t u v w x = by_sign Point s refl (sign_is (codes ".") s t)
      one false false false false true f g h p q r t u v w x = by_sign AtMark s refl (sign_is (codes "@") s u)
      one false false false false false true g h p q r t u v w x =
          by_sign PackageWord s refl (keyword_is (codes "package") s v)
      one false false false false false false true h p q r t u v w x =
          by_sign ImportWord s refl (keyword_is (codes "import") s w)
      one false false false false false false false true p q r t u v w x =
          by_sign InterfaceWord s refl (keyword_is (codes "interface") s x)
      one false false false false false false false false p q r t u v w x = (
        Other (listed modifiers s) (listed words s) (is_word_name s),
        record {
          semicolon = p;
          braces = q;
          parentheses = r;
          point = t;
          mark = u;
          package_word = v;
          import_word = w;
          interface_word = x;
          modifier = refl;
          word = refl;
          name = refl;
        },
      )

from_spelled : (t : Token) (ts : List Token) → Read (plain t) → (l : Letter) × Reads (t ∷ ts) l
from_spelled t ts k = (
  k.0,
  record {
    semicolon = k.1.semicolon;
    braces = k.1.braces;
    parentheses = k.1.parentheses;
    point = k.1.point;
    mark = k.1.mark;
    package_word = k.1.package_word;
    import_word = k.1.import_word;
    interface_word = k.1.interface_word;
    modifier = k.1.modifier;
    word = k.1.word;
    name = k.1.name;
  },
)

pub reads : (i : Item) → (l : Letter) × Reads i l
reads [] = (
  Other false false false,
  record {
    semicolon = refl;
    braces = refl;
    parentheses = refl;
    point = refl;
    mark = refl;
    package_word = refl;
    import_word = refl;
    interface_word = refl;
    modifier = refl;
    word = refl;
    name = refl;
  },
)
reads (t ∷ ts) = from_spelled t ts (read_spelled (plain t))

-- a name is neither `;` nor braces
pub record IsApart (i : Item) : Type 0 where
  pub semicolon : begins_sign (codes ";") i ≡ false
  pub braces : begins_sign (codes "{") i ≡ false

pub name_apart : (i : Item) (l : Letter) → Reads i l → begins is_name i ≡ true → IsApart i
name_apart i (Other modifier word name) k n = record { semicolon = k.semicolon; braces = k.braces }
name_apart i l k n = absurd (true≢false (sym n ∙ k.name))
