-- A contract of a public call rests on this: `lex`. The pieces of a text in a profile of Java SE 8, and the faults
-- that are named where none may begin (JLS 3). The text is divided as its bytes stand, without the translation of JLS
-- 3.3. So a Unicode escape outside literals and comments, a letter past ASCII in a name and a last control-Z are bad
-- characters, three double quotes are a bad literal, a Unicode escape in a comment means nothing, and numbers are
-- taken more loosely than in JLS 3.10.
use Rattle.std.specs.Prelude.{ℕ, Bool, List, [], ◌∷◌, Option, Some, None, codes, nat_eq, is_some, if◌then◌else◌}
use Rattle.std.specs.List.{starts_with}
use Rattle.racer_base.specs.Name.{is_word}
use Rattle.java_lexer.specs.declared.piece.PieceKind.{PieceKind}
use Rattle.java_lexer.specs.declared.piece.PieceKind.TheVariants.{White, Comment, Token}
use Rattle.java_lexer.specs.declared.piece.LexicalFault.{LexicalFault}
use Rattle.java_lexer.specs.declared.piece.LexicalFault.TheVariants.{BadCharacter, Unclosed, BadLiteral}
use Rattle.java_lexer.specs.declared.token.TokenKind.TheVariants.{Number, Character, Text, Sign}
use Rattle.java_lexer.specs.Kinds.{is_white_space, word_kind}
use Rattle.java_lexer.specs.Comments.{is_comment, is_block_comment}
use Rattle.java_lexer.specs.Numbers.{is_number}
use Rattle.java_lexer.specs.Literals.{double_quote, single_quote, is_quoted, is_character, is_text}
use Rattle.java_lexer.specs.Signs.{is_sign}
use Rattle.java_lexer.specs.Fronts.{some_front}
use Rattle.java_lexer.specs.Divisions.{Lexis}

-- the kind of a piece (JLS 3.5); a division takes the longest front that has one (JLS 3.2)
abbrev pub java_kind : List ℕ → Option PieceKind
java_kind bytes =
    if is_white_space bytes then Some White else
    (if is_comment bytes then Some Comment else
    (if is_word bytes then Some (Token (word_kind bytes)) else
    (if is_number bytes then Some (Token Number) else
    (if is_character bytes then Some (Token Character) else
    (if is_text bytes then Some (Token Text) else
    (if is_sign bytes then Some (Token Sign) else None))))))

abbrev pub is_piece : List ℕ → Bool
is_piece bytes = is_some (java_kind bytes)

-- the fault, unless a front is of this kind
abbrev pub unless_front : (List ℕ → Bool) → LexicalFault → List ℕ → Option LexicalFault
unless_front is fault text = if some_front is text then None else Some fault

-- of a text that begins with the quote: it is not closed on its line, or is no literal
abbrev pub literal_fault : (List ℕ → Bool) → (List ℕ → Bool) → List ℕ → Option LexicalFault
literal_fault is_closed is_literal text =
    if some_front is_closed text then unless_front is_literal BadLiteral text else Some Unclosed

-- the fault that is named where this text begins; three quotes begin no literal
abbrev pub java_fault : List ℕ → Option LexicalFault
java_fault [] = None
java_fault (b ∷ bs) =
    if starts_with nat_eq (b ∷ bs) (codes "/*") then unless_front is_block_comment Unclosed (b ∷ bs) else
    (if starts_with nat_eq (b ∷ bs) (double_quote ∷ double_quote ∷ double_quote ∷ []) then Some BadLiteral else
    (if starts_with nat_eq (b ∷ bs) (double_quote ∷ [])
    then literal_fault (is_quoted double_quote) is_text (b ∷ bs) else
    (if starts_with nat_eq (b ∷ bs) (single_quote ∷ [])
    then literal_fault (is_quoted single_quote) is_character (b ∷ bs) else
    unless_front is_piece BadCharacter (b ∷ bs))))

abbrev pub java_lexis : Lexis
java_lexis = record { kind_of = java_kind; fault_at = java_fault }
