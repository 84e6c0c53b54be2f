-- A contract of a public call rests on this: `lex`. What one piece of a text is, as a test of all of
-- its bytes.
use Rattle.std.specs.Prelude.{ℕ, Bool, true, false, not, ◌&&◌, ◌||◌, List, [], ◌∷◌, ◌==◌, if◌then◌else◌}
use Rattle.std.specs.Str.{byte}
use Rattle.racer_base.specs.Name.{is_word_byte, keywords, fixed_words, is_listed}
use Rattle.java_lexer.specs.declared.token.TokenKind.{TokenKind}
use Rattle.java_lexer.specs.declared.token.TokenKind.TheVariants.{Keyword, Fixed, Name}

abbrev pub is_nothing : List ℕ → Bool
is_nothing [] = true
is_nothing (b ∷ bs) = false

abbrev pub form_feed : ℕ
form_feed = 12

-- a space, a tab, a form feed, a CR or an LF (JLS 3.6)
abbrev pub is_white : ℕ → Bool
is_white b = b == byte " " || b == byte "\t" || b == form_feed || b == byte "\r" || b == byte "\n"

-- one white space character
abbrev pub is_white_space : List ℕ → Bool
is_white_space [] = false
is_white_space (b ∷ bs) = is_white b && is_nothing bs

-- the kind of a word (JLS 3.8, 3.9, 3.10.3, 3.10.7)
abbrev pub word_kind : List ℕ → TokenKind
word_kind word = if is_listed keywords word then Keyword else (if is_listed fixed_words word then Fixed else Name)

-- an ASCII letter, a digit or an underscore
abbrev pub is_number_byte : ℕ → Bool
is_number_byte b = is_word_byte b && not (b == byte "$")
