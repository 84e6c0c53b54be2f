-- A contract of a public call rests on this: the law `java_examples`. Two lines of Java, and their tokens.
use Rattle.std.specs.Prelude.{ℕ, Bool, true, false, List, [], ◌∷◌, codes}
use Rattle.racer_base.specs.declared.ids.FileId.{FileId}
use Rattle.java_lexer.specs.declared.token.TokenKind.{TokenKind}
use Rattle.java_lexer.specs.declared.token.TokenKind.TheVariants.{Keyword, Name, Character, Sign}
use Rattle.java_lexer.specs.declared.token.Token.{Token}

-- the first line ends with a CR and an LF
abbrev pub java_example : List ℕ
java_example = codes "int i =\r\n x>>>'1'/**/;"

abbrev pub java_token : FileId → TokenKind → List ℕ → ℕ → ℕ → Bool → Token
java_token file kind text line column glued = record {
  kind = kind;
  text = text;
  place = record { file = file; line = line; column = column };
  glued = glued;
}

abbrev pub java_example_tokens : FileId → List Token
java_example_tokens file =
    java_token file Keyword (codes "int") 1 1 false ∷
    java_token file Name (codes "i") 1 5 false ∷
    java_token file Sign (codes "=") 1 7 false ∷
    java_token file Name (codes "x") 2 2 false ∷
    java_token file Sign (codes ">") 2 3 false ∷
    java_token file Sign (codes ">") 2 4 true ∷
    java_token file Sign (codes ">") 2 5 true ∷
    java_token file Character (codes "'1'") 2 6 false ∷
    java_token file Sign (codes ";") 2 13 false ∷
    []
