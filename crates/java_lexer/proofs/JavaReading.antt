-- What is read of a file, from its pieces.
use Rattle.std.proofs.Common.{◌≡◌, ℕ, ◌+◌, ◌-◌, ◌≤◌, true, List, [], ◌++◌, length, take, drop, Some, None, Result, Ok}
use Rattle.std.proofs.Common.{Err, sym, ap, ◌∙◌, arith, length-drop}
use Rattle.std.specs.Prelude.{◌==◌}
use Rattle.std.specs.List.{fold}
use Rattle.std.specs.Str.{IsUtf8}
use Rattle.std.proofs.lemmas.List.{drop-drop}
use Rattle.racer_base.specs.declared.ids.FileId.{FileId}
use Rattle.racer_base.specs.declared.ids.Place.{Place}
use Rattle.java_lexer.specs.declared.piece.PieceKind.TheVariants.{Token}
use Rattle.java_lexer.specs.declared.piece.LexicalFault.{LexicalFault}
use Rattle.java_lexer.specs.declared.piece.LexicalFault.TheVariants.{BadCharacter, Unclosed, BadLiteral}
use Rattle.java_lexer.specs.declared.fault.LexFault.{LexFault}
use Rattle.java_lexer.specs.declared.token.TokenKind.{TokenKind}
use Rattle.java_lexer.specs.declared.token.Token as tokens
use Rattle.java_lexer.specs.declared.token.Lexed.{Lexed}
use Rattle.java_lexer.specs.declared.spot.Spot.{Spot}
use Rattle.java_lexer.specs.Places.{advance, spot_behind, place_at}
use Rattle.java_lexer.specs.Divisions.{Piece, pieces_upto, pieces, joined, undivided}
use Rattle.java_lexer.specs.Tokens.{tokens_from}
use Rattle.java_lexer.specs.JavaKinds.{java_kind, java_fault, java_lexis}
use Rattle.java_lexer.specs.JavaTokens.{java_tokens_of, java_tokens, fault_answer, divided_answer, IsFaultOf}
use Rattle.java_lexer.proofs.Reading.{empty_is, all_read, all_passed, fault_pieces}
use Rattle.java_lexer.proofs.TokenTexts.{token_utf8}

fault_is : (answer : Result Lexed LexFault) (fault : LexicalFault) (place : Place) →
    answer ≡ Err (fault_answer fault place) → IsFaultOf answer (fault_answer fault place)
fault_is answer BadCharacter place e = e
fault_is answer Unclosed place e = e
fault_is answer BadLiteral place e = e

-- nothing is divided of what begins with a fault
fault_stays : (rest : List ℕ) (fault : LexicalFault) → java_fault rest ≡ Some fault → undivided java_lexis rest ≡ rest
fault_stays rest fault e = ap (λ (ps : List Piece). drop (length (joined ps)) rest)
    (fault_pieces java_lexis rest fault e)

pub refused : (file : FileId) (bytes rest : List ℕ) (spot : Spot) (fault : LexicalFault) →
    java_fault rest ≡ Some fault → undivided java_lexis rest ≡ undivided java_lexis bytes →
    fold advance spot (joined (pieces java_lexis rest)) ≡ spot_behind (joined (pieces java_lexis bytes)) →
    IsFaultOf (divided_answer file bytes (java_fault (undivided java_lexis bytes)))
    (fault_answer fault (place_at file spot))
refused file bytes rest spot fault e same passed =
    let there : java_fault (undivided java_lexis bytes) ≡ Some fault =
    ap java_fault (sym same ∙ fault_stays rest fault e) ∙ e in
    let here : spot ≡ spot_behind (joined (pieces java_lexis bytes)) =
    sym (ap (λ (ps : List Piece). fold advance spot (joined ps)) (fault_pieces java_lexis rest fault e)) ∙ passed in
    fault_is _ fault (place_at file spot) (ap (divided_answer file bytes) there
    ∙ ap (λ (s : Spot). Err (fault_answer fault (place_at file s))) (sym here))

nothing_left : (rest : List ℕ) → (length rest == 0) ≡ true → undivided java_lexis rest ≡ []
unfolding pieces_upto
nothing_left rest h = ap (undivided java_lexis) (empty_is rest h)

pub finished : (file : FileId) (bytes rest : List ℕ) (spot : Spot) (done : List tokens.Token) →
    (length rest == 0) ≡ true → undivided java_lexis rest ≡ undivided java_lexis bytes →
    done ++ tokens_from (java_tokens_of file) spot (pieces java_lexis rest) ≡ java_tokens file bytes →
    fold advance spot rest ≡ spot_behind bytes →
    divided_answer file bytes (java_fault (undivided java_lexis bytes)) ≡ Ok
    (record { tokens = done; end = place_at file spot })
finished file bytes rest spot done none same all place =
    let there : java_fault (undivided java_lexis bytes) ≡ None = ap java_fault (sym same ∙ nothing_left rest none) in
    let whole : done ≡ java_tokens file bytes =
    all_read java_lexis (java_tokens_of file) done (java_tokens file bytes) spot rest none all in
    let end : spot ≡ spot_behind bytes = all_passed spot (spot_behind bytes) rest none place in
    ap (divided_answer file bytes) there ∙ ap (λ (ts : List tokens.Token). Ok (lexed_of ts (spot_behind bytes)))
    (sym whole) ∙ ap (λ (s : Spot). Ok (lexed_of done s)) (sym end)
  where
    lexed_of : List tokens.Token → Spot → Lexed
    lexed_of ts s = record { tokens = ts; end = place_at file s }

pub piece_utf8 : (bytes rest : List ℕ) (n : ℕ) (kind : TokenKind) → IsUtf8 bytes → length rest ≤ length bytes →
    rest ≡ drop (length bytes - length rest) bytes → n ≤ length rest → java_kind (take n rest) ≡ Some (Token kind) →
    IsUtf8 (take n rest)
piece_utf8 bytes rest n kind utf8 fits is le h = at (length bytes - length rest) is (omega arith)
  where
    at : (i : ℕ) → rest ≡ drop i bytes → i + n ≤ length bytes → IsUtf8 (take n rest)
    at i e span = rw e (token_utf8 bytes i n kind utf8 span (rw e at h))

pub rest_more : (bytes rest : List ℕ) (n : ℕ) → length rest ≤ length bytes →
    rest ≡ drop (length bytes - length rest) bytes → n ≤ length rest →
    drop n rest ≡ drop (length bytes - length (drop n rest)) bytes
rest_more bytes rest n fits is le =
    let len : (length bytes - length rest) + n ≡ length bytes - length (drop n rest) =
    omega (arith, length-drop n rest) in
    ap (drop n) is ∙ drop-drop n (length bytes - length rest) bytes ∙ ap (λ k. drop k bytes) len
