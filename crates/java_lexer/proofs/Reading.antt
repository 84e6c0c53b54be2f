-- Tokens of the pieces read, and of one more.
use Rattle.std.proofs.Common.{◌≡◌, ℕ, ◌+◌, List, [], ◌∷◌, ◌++◌, length, take, drop, refl, sym, ap, ◌∙◌, append_assoc}
use Rattle.std.proofs.Common.{append-nil, take-append-drop, eqb-true, length-append, Some, None, arith}
use Rattle.std.specs.Prelude.{true, ◌==◌}
use Rattle.std.specs.List.{fold}
use Rattle.std.proofs.lemmas.List.{drop-drop, length-take-le}
use Rattle.std.proofs.lemmas.List.Sums.{fold-append}
use Rattle.java_lexer.specs.declared.piece.PieceKind.{PieceKind}
use Rattle.java_lexer.specs.declared.piece.LexicalFault.{LexicalFault}
use Rattle.java_lexer.specs.declared.token.Token.{Token}
use Rattle.java_lexer.specs.declared.spot.Spot.{Spot}
use Rattle.java_lexer.specs.Places.{advance}
use Rattle.java_lexer.specs.Divisions.{Lexis, Piece, next_piece, pieces, joined, undivided}
use Rattle.java_lexer.specs.Scanning.{IsFront}
use Rattle.java_lexer.specs.Tokens.{tokens_from}
use Rattle.java_lexer.proofs.Fronts.{pieces_first, pieces_nil, pieces_none}

pub one_read : (lexis : Lexis) (tokens_of : Spot → PieceKind → List ℕ → List Token) (done : List Token) (spot : Spot)
    (rest : List ℕ) (n : ℕ) (kind : PieceKind) → IsFront lexis rest n kind →
    (done ++ tokens_of spot kind (take n rest)) ++ tokens_from tokens_of (fold advance spot (take n rest))
    (pieces lexis (drop n rest)) ≡ done ++ tokens_from tokens_of spot (pieces lexis rest)
one_read lexis tokens_of done spot rest n kind front =
    append_assoc done (tokens_of spot kind (take n rest)) _
    ∙ ap (λ (ps : List Piece). done ++ tokens_from tokens_of spot ps) (sym (pieces_first lexis rest n kind front))

pub one_passed : (spot : Spot) (rest : List ℕ) (n : ℕ) →
    fold advance (fold advance spot (take n rest)) (drop n rest) ≡ fold advance spot rest
one_passed spot rest n = sym (fold-append advance spot (take n rest) (drop n rest))
    ∙ ap (λ (t : List ℕ). fold advance spot t) (take-append-drop n rest)

pub empty_is : (text : List ℕ) → (length text == 0) ≡ true → text ≡ []
empty_is [] h = refl
empty_is (b ∷ bs) h = absurd (let none : length (b ∷ bs) ≡ 0 = eqb-true _ _ h in omega arith)

pub all_read : (lexis : Lexis) (tokens_of : Spot → PieceKind → List ℕ → List Token) (done all : List Token)
    (spot : Spot) (rest : List ℕ) → (length rest == 0) ≡ true →
    done ++ tokens_from tokens_of spot (pieces lexis rest) ≡ all → done ≡ all
all_read lexis tokens_of done all spot rest none e =
    sym (append-nil done) ∙ sym (ap (λ (ps : List Piece). done ++ tokens_from tokens_of spot ps)
    (ap (pieces lexis) (empty_is rest none) ∙ pieces_nil lexis 0)) ∙ e

pub all_passed : (spot end : Spot) (rest : List ℕ) → (length rest == 0) ≡ true → fold advance spot rest ≡ end →
    spot ≡ end
all_passed spot end rest none e = sym (ap (fold advance spot) (empty_is rest none)) ∙ e

-- ---- what stands behind the divided front

pub one_joined : (lexis : Lexis) (spot : Spot) (rest : List ℕ) (n : ℕ) (kind : PieceKind) → IsFront lexis rest n kind →
    fold advance (fold advance spot (take n rest)) (joined (pieces lexis (drop n rest))) ≡ fold advance spot
    (joined (pieces lexis rest))
one_joined lexis spot rest n kind front =
    sym (fold-append advance spot (take n rest) (joined (pieces lexis (drop n rest))))
    ∙ ap (λ (ps : List Piece). fold advance spot (joined ps)) (sym (pieces_first lexis rest n kind front))

pub one_undivided : (lexis : Lexis) (rest : List ℕ) (n : ℕ) (kind : PieceKind) → IsFront lexis rest n kind →
    undivided lexis (drop n rest) ≡ undivided lexis rest
one_undivided lexis rest n kind front =
    let m = length (joined (pieces lexis (drop n rest))) in
    let len : n + m ≡ length (take n rest ++ joined (pieces lexis (drop n rest))) =
    omega (arith, length-append (take n rest) (joined (pieces lexis (drop n rest))), length-take-le n rest front.fits)
    in
    drop-drop m n rest ∙ ap (λ k. drop k rest) len
    ∙ ap (λ (ps : List Piece). drop (length (joined ps)) rest) (sym (pieces_first lexis rest n kind front))

no_first : (lexis : Lexis) (rest : List ℕ) (fault : LexicalFault) → lexis.fault_at rest ≡ Some fault →
    next_piece lexis rest ≡ None
unfolding next_piece
no_first lexis rest fault e = rw e refl

pub fault_pieces : (lexis : Lexis) (rest : List ℕ) (fault : LexicalFault) → lexis.fault_at rest ≡ Some fault →
    pieces lexis rest ≡ []
fault_pieces lexis rest fault e = pieces_none lexis rest (no_first lexis rest fault e)
