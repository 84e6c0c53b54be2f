-- A contract of a public call rests on this: `lex` of java_lexer. The form of a word: JLS 3.8, 3.9, 3.10.3 and 3.10.7,
-- with ASCII letters alone.
use Rattle.std.specs.Prelude.{ℕ, Bool, false, ◌&&◌, ◌||◌, List, [], ◌∷◌, codes, nat_eq, nat_le}
use Rattle.std.specs.List.{list_all, list_any}
use Rattle.std.specs.Cmp.Lexicographic.{pointwise}

-- a byte from this one to that one
abbrev pub is_between : ℕ → ℕ → ℕ → Bool
is_between low high b = nat_le low b && nat_le b high

abbrev pub is_digit : ℕ → Bool
is_digit b = is_between 48 57 b

-- an ASCII letter, an underscore or a dollar sign
abbrev pub is_letter : ℕ → Bool
is_letter b = is_between 97 122 b || is_between 65 90 b || nat_eq b 95 || nat_eq b 36

-- what a name goes on with
abbrev pub is_word_byte : ℕ → Bool
is_word_byte b = is_letter b || is_digit b

-- the fifty keywords (JLS 3.9)
abbrev pub keywords : List (List ℕ)
keywords =
    codes "abstract" ∷ codes "assert" ∷ codes "boolean" ∷ codes "break" ∷ codes "byte" ∷
    codes "case" ∷ codes "catch" ∷ codes "char" ∷ codes "class" ∷ codes "const" ∷
    codes "continue" ∷ codes "default" ∷ codes "do" ∷ codes "double" ∷ codes "else" ∷
    codes "enum" ∷ codes "extends" ∷ codes "final" ∷ codes "finally" ∷ codes "float" ∷
    codes "for" ∷ codes "goto" ∷ codes "if" ∷ codes "implements" ∷ codes "import" ∷
    codes "instanceof" ∷ codes "int" ∷ codes "interface" ∷ codes "long" ∷ codes "native" ∷
    codes "new" ∷ codes "package" ∷ codes "private" ∷ codes "protected" ∷ codes "public" ∷
    codes "return" ∷ codes "short" ∷ codes "static" ∷ codes "strictfp" ∷ codes "super" ∷
    codes "switch" ∷ codes "synchronized" ∷ codes "this" ∷ codes "throw" ∷ codes "throws" ∷
    codes "transient" ∷ codes "try" ∷ codes "void" ∷ codes "volatile" ∷ codes "while" ∷
    []

-- the fixed words, which are literals (JLS 3.10.3, 3.10.7)
abbrev pub fixed_words : List (List ℕ)
fixed_words = codes "true" ∷ codes "false" ∷ codes "null" ∷ []

-- whether a text is one of these
abbrev pub is_listed : List (List ℕ) → List ℕ → Bool
is_listed words text = list_any (pointwise nat_eq text) words

-- a letter, and then letters and digits
abbrev pub is_word : List ℕ → Bool
is_word [] = false
is_word (b ∷ bs) = is_letter b && list_all is_word_byte bs
