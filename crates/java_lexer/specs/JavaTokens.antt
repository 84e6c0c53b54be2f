-- A contract of a public call rests on this: `lex`. What is read of a file in a profile of Java SE 8: its tokens (JLS
-- 3.5) with their places (JLS 3.4), or a fault.
use Rattle.std.specs.Prelude.{◌≡◌, ℕ, Bool, true, false, List, [], ◌∷◌, Option, Some, None, Result, Ok, Err, codes}
use Rattle.std.specs.Prelude.{if◌then◌else◌}
use Rattle.std.specs.Str.{is_utf8}
use Rattle.std.specs.Str.Lossy.{utf8_valid_len}
use Rattle.racer_base.specs.declared.ids.FileId.{FileId}
use Rattle.racer_base.specs.declared.ids.Place.{Place}
use Rattle.racer_base.specs.Name.{is_listed}
use Rattle.java_lexer.specs.declared.piece.PieceKind.{PieceKind}
use Rattle.java_lexer.specs.declared.piece.PieceKind.TheVariants.{White, Comment, Token}
use Rattle.java_lexer.specs.declared.piece.LexicalFault.{LexicalFault}
use Rattle.java_lexer.specs.declared.piece.LexicalFault.TheVariants as faults
use Rattle.java_lexer.specs.declared.fault.LexFault.{LexFault}
use Rattle.java_lexer.specs.declared.fault.LexFault.TheVariants as answers
use Rattle.java_lexer.specs.declared.token.TokenKind.{TokenKind}
use Rattle.java_lexer.specs.declared.token.TokenKind.TheVariants.{Sign}
use Rattle.java_lexer.specs.declared.token.Token as tokens
use Rattle.java_lexer.specs.declared.token.Lexed.{Lexed}
use Rattle.java_lexer.specs.declared.spot.Spot.{Spot}
use Rattle.java_lexer.specs.Places.{begin, advance, place_at, place_behind}
use Rattle.java_lexer.specs.Divisions.{pieces, joined, undivided}
use Rattle.java_lexer.specs.Signs.{shifts}
use Rattle.java_lexer.specs.Tokens.{tokens_from}
use Rattle.java_lexer.specs.JavaKinds.{java_lexis}

abbrev pub one_token : FileId → Spot → TokenKind → List ℕ → Bool → tokens.Token
one_token file spot kind text glued = record { kind = kind; text = text; place = place_at file spot; glued = glued }

-- a token `>` for each byte of a shift; each but the first is glued
abbrev pub angle_tokens : FileId → Spot → Bool → List ℕ → List tokens.Token
angle_tokens file spot glued [] = []
angle_tokens file spot glued (b ∷ bs) =
    one_token file spot Sign (codes ">") glued ∷ angle_tokens file (advance spot b) true bs

-- a sign `>>` or `>>>` (JLS 3.12) is given as single `>`, since in a type each of them closes a bracket of its own
-- (JLS 3.2)
abbrev pub token_of : FileId → Spot → TokenKind → List ℕ → List tokens.Token
token_of file spot Sign bytes =
    if is_listed shifts bytes then angle_tokens file spot false bytes else
    one_token file spot Sign bytes false ∷ []
token_of file spot kind bytes = one_token file spot kind bytes false ∷ []

-- the tokens of a piece: white space (JLS 3.6) and comments (JLS 3.7) have none
abbrev pub java_tokens_of : FileId → Spot → PieceKind → List ℕ → List tokens.Token
java_tokens_of file spot White bytes = []
java_tokens_of file spot Comment bytes = []
java_tokens_of file spot (Token kind) bytes = token_of file spot kind bytes

-- the tokens of the pieces of a file
abbrev pub java_tokens : FileId → List ℕ → List tokens.Token
java_tokens file bytes = tokens_from (java_tokens_of file) begin (pieces java_lexis bytes)

abbrev pub fault_answer : LexicalFault → Place → LexFault
fault_answer faults.BadCharacter place = answers.BadCharacter place
fault_answer faults.Unclosed place = answers.Unclosed place
fault_answer faults.BadLiteral place = answers.BadLiteral place

-- the tokens, or the fault that is named at the end of the longest divided front
abbrev pub divided_answer : FileId → List ℕ → Option LexicalFault → Result Lexed LexFault
divided_answer file bytes None = Ok (record { tokens = java_tokens file bytes; end = place_behind file bytes })
divided_answer file bytes (Some fault) = Err (fault_answer fault (place_behind file (joined (pieces java_lexis bytes))))

-- what a file is read as, where memory is not refused: UTF-8 is looked for in all of it first
abbrev pub lexed_answer : FileId → List ℕ → Result Lexed LexFault
lexed_answer file bytes =
    if is_utf8 bytes then divided_answer file bytes (java_lexis.fault_at (undivided java_lexis bytes)) else
    Err (answers.NotUtf8 (utf8_valid_len bytes))

-- this fault is the answer, unless memory was refused
abbrev pub IsFaultOf : Result Lexed LexFault → LexFault → Type 0
IsFaultOf answer answers.Memory = Unit {0}
IsFaultOf answer fault = answer ≡ Err fault
