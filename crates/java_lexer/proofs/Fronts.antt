-- The longest front of a text that is a piece, and the pieces behind it.
use Rattle.std.proofs.Common.{◌≡◌, ℕ, zero, suc, ◌-◌, ◌≤◌, ◌<◌, List, [], ◌∷◌, length, take, drop, Option, Some, None}
use Rattle.std.proofs.Common.{inl, inr, refl, sym, ap, ◌∙◌, arith, length-drop}
use Rattle.std.specs.Prelude.{IsSome}
use Rattle.std.proofs.lemmas.List.{length-take-le}
use Rattle.java_lexer.specs.declared.piece.PieceKind.{PieceKind}
use Rattle.java_lexer.specs.declared.piece.LexicalFault.{LexicalFault}
use Rattle.java_lexer.specs.Divisions.{Lexis, Piece, front_piece, piece_or, longest_piece, unless_fault, next_piece}
use Rattle.java_lexer.specs.Divisions.{and_then, pieces_upto, pieces}
use Rattle.java_lexer.specs.Scanning.{IsFront}
use Rattle.std.proofs.lemmas.Bool.{false≢true}
use Rattle.std.proofs.lemmas.Option.{same_Some}
use Rattle.java_lexer.proofs.Bytes.{or_less}

pub some_of : {A : Type 0} (o : Option A) (x : A) → o ≡ Some x → IsSome o
some_of o x e = rw e refl

-- ---- the longest front is found

longest_case : (lexis : Lexis) (text : List ℕ) (m n : ℕ) (kind : PieceKind) (o : Option PieceKind) →
    lexis.kind_of (take (suc m) text) ≡ o → n ≤ m → (IsSome (lexis.kind_of (take (suc m) text)) → suc m ≤ n) →
    longest_piece lexis text m ≡ Some (front_piece text n kind) →
    piece_or o text (suc m) (longest_piece lexis text m) ≡ Some (front_piece text n kind)
longest_case lexis text m n kind None e le longest ih = ih
longest_case lexis text m n kind (Some k) e le longest ih = absurd (let more = longest (some_of _ k e) in omega arith)

longest_at : (lexis : Lexis) (text : List ℕ) (m n : ℕ) (kind : PieceKind) → 0 < n → n ≤ m → m ≤ length text →
    lexis.kind_of (take n text) ≡ Some kind →
    ((k : ℕ) → k ≤ length text → IsSome (lexis.kind_of (take k text)) → k ≤ n) →
    longest_piece lexis text m ≡ Some (front_piece text n kind)
unfolding longest_piece
longest_at lexis text zero n kind some le fits is longest = absurd (omega arith)
longest_at lexis text (suc m) n kind some le fits is longest =
    elim (or_less n (suc m) (omega arith)) [
      | inl e ↦ rw (← e, is) refl
      | inr less ↦ longest_case lexis text m n kind (lexis.kind_of (take (suc m) text)) refl (omega arith)
          (longest (suc m) fits) (longest_at lexis text m n kind some (omega arith) (omega arith) is longest)
    ]

pub first_is : (lexis : Lexis) (text : List ℕ) (n : ℕ) (kind : PieceKind) → IsFront lexis text n kind →
    next_piece lexis text ≡ Some (front_piece text n kind)
unfolding next_piece
first_is lexis text n kind f =
    let len : length (take n text) ≡ n = length-take-le n text f.fits in
    rw f.first.faultless (longest_at lexis text (length text) n kind f.some f.fits (omega arith) f.first.is
    (λ k le s. omega (arith, f.first.longest k le s, len)))

-- ---- what is found is the longest front

-- a piece that is a front of at most n bytes
abbrev pub IsAmong : Lexis → List ℕ → ℕ → Piece → Type 0
IsAmong lexis text n p = (k : ℕ) × (0 < k) × (k ≤ n) × (p ≡ front_piece text k p.kind)
    × (lexis.kind_of (take k text) ≡ Some p.kind) × ((m : ℕ) → m ≤ n → IsSome (lexis.kind_of (take m text)) → m ≤ k)

pub none_some : {A : Type 0} (o : Option A) → o ≡ None → IsSome o → ⊥
none_some None e s = false≢true s
none_some (Some x) e s = cc

among_more : (lexis : Lexis) (text : List ℕ) (n : ℕ) (p : Piece) → lexis.kind_of (take (suc n) text) ≡ None →
    IsAmong lexis text n p → IsAmong lexis text (suc n) p
among_more lexis text n p none a = (
  a.0,
  a.1,
  omega (arith, a.2),
  a.3,
  a.4,
  λ m le s. elim (or_less m (suc n) (omega arith)) [
    | inl e ↦ absurd (none_some _ none (rw e at s))
    | inr less ↦ a.5 m (omega arith) s
  ],
)

among_case : (lexis : Lexis) (text : List ℕ) (n : ℕ) (p : Piece) (o : Option PieceKind) →
    lexis.kind_of (take (suc n) text) ≡ o → piece_or o text (suc n) (longest_piece lexis text n) ≡ Some p →
    (longest_piece lexis text n ≡ Some p → IsAmong lexis text n p) → IsAmong lexis text (suc n) p
among_case lexis text n p None e found ih = among_more lexis text n p e (ih found)
among_case lexis text n p (Some k) e found ih =
    let same : front_piece text (suc n) k ≡ p = same_Some _ _ found in
    (suc n, omega arith, omega arith, rw (← same) refl, rw (← same) e, λ m le s. le)

pub longest_among : (lexis : Lexis) (text : List ℕ) (n : ℕ) (p : Piece) → longest_piece lexis text n ≡ Some p →
    IsAmong lexis text n p
unfolding longest_piece
longest_among lexis text zero p found = absurd cc
longest_among lexis text (suc n) p found =
    among_case lexis text n p (lexis.kind_of (take (suc n) text)) refl found (longest_among lexis text n p)

faultless_case : (o : Option LexicalFault) (piece : Option Piece) (p : Piece) → unless_fault o piece ≡ Some p →
    (o ≡ None) × (piece ≡ Some p)
faultless_case None piece p e = (refl, e)
faultless_case (Some f) piece p e = absurd cc

pub found_front : (lexis : Lexis) (text : List ℕ) (p : Piece) → next_piece lexis text ≡ Some p →
    IsFront lexis text (length p.bytes) p.kind × (p ≡ front_piece text (length p.bytes) p.kind)
unfolding next_piece
found_front lexis text p found =
    let parts = faultless_case (lexis.fault_at text) (longest_piece lexis text (length text)) p found in
    let a = longest_among lexis text (length text) p parts.1 in
    let len : length p.bytes ≡ a.0 = ap (λ (q : Piece). length q.bytes) a.3 ∙ length-take-le a.0 text a.2 in (
      rw len (record {
        some = a.1;
        fits = a.2;
        first = record {
          is = a.4;
          longest = λ n le s. omega
              (arith, a.5 n le s, length-take-le a.0 text a.2);
          faultless = parts.0;
        };
      }),
      rw len a.3,
    )

-- ---- the pieces

pub pieces_nil : (lexis : Lexis) (n : ℕ) → pieces_upto lexis n [] ≡ []
unfolding pieces_upto next_piece longest_piece
pieces_nil lexis zero = refl
pieces_nil lexis (suc n) = nil_case (lexis.fault_at [])
  where
    nil_case : (o : Option LexicalFault) → and_then (unless_fault o None)
        (λ piece. pieces_upto lexis n (drop (length piece.bytes) [])) ≡ []
    nil_case None = refl
    nil_case (Some f) = refl

enough_case : (lexis : Lexis) (text : List ℕ) (n m : ℕ) (o : Option Piece) → next_piece lexis text ≡ o →
    ((p : Piece) → next_piece lexis text ≡ Some p →
    pieces_upto lexis n (drop (length p.bytes) text) ≡ pieces_upto lexis m (drop (length p.bytes) text)) →
    and_then o (λ piece. pieces_upto lexis n (drop (length piece.bytes) text)) ≡ and_then o
    (λ piece. pieces_upto lexis m (drop (length piece.bytes) text))
enough_case lexis text n m None e ih = refl
enough_case lexis text n m (Some p) e ih = ap (λ (ps : List Piece). p ∷ ps) (ih p e)

pub enough : (lexis : Lexis) (n m : ℕ) (text : List ℕ) → length text ≤ n → length text ≤ m →
    pieces_upto lexis n text ≡ pieces_upto lexis m text
unfolding pieces_upto
enough lexis n m [] a b = pieces_nil lexis n ∙ sym (pieces_nil lexis m)
enough lexis zero m (b ∷ bs) le more = absurd (omega arith)
enough lexis (suc n) zero (b ∷ bs) le more = absurd (omega arith)
enough lexis (suc n) (suc m) (b ∷ bs) le more =
    enough_case lexis (b ∷ bs) n m (next_piece lexis (b ∷ bs)) refl (λ p found.
    let front = (found_front lexis (b ∷ bs) p found).0 in
    let some : 0 < length p.bytes = front.some in
    let left : length (drop (length p.bytes) (b ∷ bs)) ≡ length (b ∷ bs) - length p.bytes =
    length-drop (length p.bytes) (b ∷ bs) in
    enough lexis n m (drop (length p.bytes) (b ∷ bs)) (omega arith) (omega arith))

pub pieces_first : (lexis : Lexis) (text : List ℕ) (n : ℕ) (kind : PieceKind) → IsFront lexis text n kind →
    pieces lexis text ≡ front_piece text n kind ∷ pieces lexis (drop n text)
unfolding pieces_upto
pieces_first lexis [] n kind f = absurd (omega (arith, f.some, f.fits))
pieces_first lexis (b ∷ bs) n kind f =
    let len : length (take n (b ∷ bs)) ≡ n = length-take-le n (b ∷ bs) f.fits in
    let left : length (drop n (b ∷ bs)) ≡ length (b ∷ bs) - n = length-drop n (b ∷ bs) in
    let some = f.some in
    rw (first_is lexis (b ∷ bs) n kind f, len)
    (ap (λ (ps : List Piece). front_piece (b ∷ bs) n kind ∷ ps)
    (enough lexis (length bs) (length (drop n (b ∷ bs))) (drop n (b ∷ bs)) (omega arith) (omega arith)))

pub pieces_none : (lexis : Lexis) (text : List ℕ) → next_piece lexis text ≡ None → pieces lexis text ≡ []
unfolding pieces_upto
pieces_none lexis [] none = refl
pieces_none lexis (b ∷ bs) none = rw none refl
