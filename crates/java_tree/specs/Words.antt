-- A contract of a public call rests on this: tokens without places, as trees spell them (JLS 3.8 to 3.12).
use Rattle.std.specs.Prelude.{ℕ, Bool, false, List}
use Rattle.java_lexer.specs.declared.token.TokenKind.{TokenKind}
use Rattle.java_lexer.specs.declared.token.TokenKind.TheVariants as kind
use Rattle.java_tree.specs.declared.words.Spelled.{Spelled}

-- a token that is glued to nothing
abbrev pub word_of : TokenKind → List ℕ → Spelled
word_of k text = record { kind = k; text = text; glued = false }

abbrev pub keyword : List ℕ → Spelled
keyword text = word_of kind.Keyword text

abbrev pub identifier : List ℕ → Spelled
identifier text = word_of kind.Name text

-- a separator or an operator
abbrev pub sign : List ℕ → Spelled
sign text = word_of kind.Sign text

-- the same, or the second or third `>` of a `>>` or `>>>`
abbrev pub sign_glued : Bool → List ℕ → Spelled
sign_glued glued text = record { kind = kind.Sign; text = text; glued = glued }
