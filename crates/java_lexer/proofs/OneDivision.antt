-- A text has one division, and it is that of the function.
use Rattle.std.proofs.Common.{◌≡◌, ℕ, zero, suc, ◌≤◌, ◌<◌, List, [], ◌∷◌, ◌++◌, length, take, drop, Option, Some, None}
use Rattle.std.proofs.Common.{refl, sym, ap, ◌∙◌, subst, arith, le_antisymm, append_assoc, length-append, length-drop}
use Rattle.std.proofs.Common.{take-append-drop}
use Rattle.std.specs.Prelude.{IsSome}
use Rattle.std.proofs.lemmas.List.{take_at, drop_at, drop-drop}
use Rattle.std.proofs.lemmas.Option.{same_Some}
use Rattle.java_lexer.specs.declared.piece.PieceKind.{PieceKind}
use Rattle.java_lexer.specs.Divisions.{Lexis, Piece, IsFirst, Divides, IsStuck, IsDivision, front_piece, next_piece}
use Rattle.java_lexer.specs.Divisions.{and_then, pieces_upto, pieces, joined, undivided}
use Rattle.java_lexer.proofs.Fronts.{some_of, first_is, found_front, pieces_nil}

-- ---- at most one

-- the length of a piece is at most that of the first piece
shorter : (lexis : Lexis) (p q : Piece) (text after more : List ℕ) → text ≡ p.bytes ++ after → text ≡ q.bytes ++ more →
    IsFirst lexis p text → IsFirst lexis q text → length q.bytes ≤ length p.bytes
shorter lexis p q text after more e f first other =
    let front : take (length q.bytes) text ≡ q.bytes = rw f (take_at q.bytes more (length q.bytes) refl) in
    let some : IsSome (lexis.kind_of (take (length q.bytes) text)) = rw front (some_of _ _ other.is) in
    first.longest (length q.bytes) (omega (arith, ap length f, length-append q.bytes more)) some

abbrev made : List ℕ → PieceKind → Piece
made bytes kind = record { bytes = bytes; kind = kind }

piece_is : (p q : Piece) → p.bytes ≡ q.bytes → p.kind ≡ q.kind → p ≡ q
piece_is p q e f = ap (λ b. made b p.kind) e ∙ ap (λ k. made q.bytes k) f

-- two pieces that are each the first of a text are the same, and so is what stands behind them
same_first : (lexis : Lexis) (p q : Piece) (text after more : List ℕ) → text ≡ p.bytes ++ after →
    text ≡ q.bytes ++ more → IsFirst lexis p text → IsFirst lexis q text → (p ≡ q) × (after ≡ more)
same_first lexis p q text after more e f first other =
    let len : length p.bytes ≡ length q.bytes =
    le_antisymm (shorter lexis q p text more after f e other first)
    (shorter lexis p q text after more e f first other) in
    let bytes : p.bytes ≡ q.bytes = sym (take_at p.bytes after (length p.bytes) refl)
    ∙ ap (take (length p.bytes)) (sym e ∙ f) ∙ take_at q.bytes more (length p.bytes) (sym len) in
    let kind : p.kind ≡ q.kind = same_Some p.kind q.kind (sym first.is ∙ ap lexis.kind_of bytes ∙ other.is) in (
      piece_is p q bytes kind,
      sym (drop_at p.bytes after (length p.bytes) refl) ∙ ap (drop (length p.bytes)) (sym e ∙ f)
          ∙ drop_at q.bytes more (length p.bytes) (sym len),
    )

one_way : (lexis : Lexis) (ps qs : List Piece) (text r s : List ℕ) → Divides lexis ps text r → Divides lexis qs text s →
    IsStuck lexis r → IsStuck lexis s → (ps ≡ qs) × (r ≡ s)
one_way lexis [] [] text r s d e stuck stop = (refl, sym d ∙ e)
one_way lexis [] (q ∷ qs) text r s d e stuck stop = absurd (subst (IsStuck lexis) (sym d) stuck q e.0 e.1 e.2)
one_way lexis (p ∷ ps) [] text r s d e stuck stop = absurd (subst (IsStuck lexis) (sym e) stop p d.0 d.1 d.2)
one_way lexis (p ∷ ps) (q ∷ qs) text r s d e stuck stop =
    let same = same_first lexis p q text d.0 e.0 d.1 e.1 d.2 e.2 in
    let rest = one_way lexis ps qs e.0 r s (subst (λ t. Divides lexis ps t r) same.1 d.3) e.3 stuck stop in
    (cc (same.0, rest.0), rest.1)

pub one_division : (lexis : Lexis) (ps qs : List Piece) (text r s : List ℕ) → IsDivision lexis ps text r →
    IsDivision lexis qs text s → (ps ≡ qs) × (r ≡ s)
one_division lexis ps qs text r s d e = one_way lexis ps qs text r s d.divides e.divides d.stuck e.stuck

divides_joined : (lexis : Lexis) (ps : List Piece) (text rest : List ℕ) → Divides lexis ps text rest →
    joined ps ++ rest ≡ text
divides_joined lexis [] text rest d = sym d
divides_joined lexis (p ∷ ps) text rest d =
    append_assoc p.bytes (joined ps) rest ∙ ap (λ (t : List ℕ). p.bytes ++ t) (divides_joined lexis ps d.0 rest d.3)
    ∙ sym d.1

-- a division that goes on as far as it can leaves no more than another
pub leaves_least : (lexis : Lexis) (ps qs : List Piece) (text r s : List ℕ) → Divides lexis ps text r →
    Divides lexis qs text s → IsStuck lexis s → length s ≤ length r
leaves_least lexis [] qs text r s d e stop =
    omega (arith, ap length d, ap length (divides_joined lexis qs text s e), length-append (joined qs) s)
leaves_least lexis (p ∷ ps) [] text r s d e stop = absurd (subst (IsStuck lexis) (sym e) stop p d.0 d.1 d.2)
leaves_least lexis (p ∷ ps) (q ∷ qs) text r s d e stop =
    let same = same_first lexis p q text d.0 e.0 d.1 e.1 d.2 e.2 in
    leaves_least lexis ps qs e.0 r s (subst (λ t. Divides lexis ps t r) same.1 d.3) e.3 stop

-- ---- at least one

no_empty_piece : (lexis : Lexis) (p : Piece) (text after : List ℕ) → lexis.kind_of [] ≡ None → text ≡ p.bytes ++ after →
    IsFirst lexis p text → 0 < length p.bytes
no_empty_piece lexis p text after none e first = some_bytes p.bytes first.is
  where
    some_bytes : (bytes : List ℕ) → lexis.kind_of bytes ≡ Some p.kind → 0 < length bytes
    some_bytes [] is = absurd (let no : None ≡ Some p.kind = sym none ∙ is in cc)
    some_bytes (b ∷ bs) is = omega arith

none_stuck : (lexis : Lexis) (text : List ℕ) → lexis.kind_of [] ≡ None → next_piece lexis text ≡ None →
    IsStuck lexis text
none_stuck lexis text none found p after e first =
    let front : take (length p.bytes) text ≡ p.bytes = rw e (take_at p.bytes after (length p.bytes) refl) in
    let is : next_piece lexis text ≡ Some (front_piece text (length p.bytes) p.kind) =
    first_is lexis text (length p.bytes) p.kind (record {
      some = no_empty_piece lexis p text after none e first;
      fits = omega (arith, ap length e, length-append p.bytes after);
      first = record {
        is = rw front first.is;
        longest = λ n le s. rw front (first.longest n le s);
        faultless = first.faultless;
      };
    }) in
    let no : None ≡ Some (front_piece text (length p.bytes) p.kind) = sym found ∙ is in
    cc

no_piece : (bytes after : List ℕ) (lexis : Lexis) (kind : PieceKind) → lexis.kind_of [] ≡ None → [] ≡ bytes ++ after →
    lexis.kind_of bytes ≡ Some kind → ⊥
no_piece [] after lexis kind none e is = let no : None ≡ Some kind = sym none ∙ is in cc
no_piece (b ∷ bs) after lexis kind none e is = cc

nil_stuck : (lexis : Lexis) → lexis.kind_of [] ≡ None → IsStuck lexis []
nil_stuck lexis none p after e first = no_piece p.bytes after lexis p.kind none e first.is

-- a division up to the place where the pieces end
HasDivision : Lexis → List Piece → List ℕ → Type 0
HasDivision lexis ps text = IsDivision lexis ps text (drop (length (joined ps)) text)

more_divided : (lexis : Lexis) (p : Piece) (ps : List Piece) (text : List ℕ) → IsFirst lexis p text →
    p.bytes ≡ take (length p.bytes) text → HasDivision lexis ps (drop (length p.bytes) text) →
    HasDivision lexis (p ∷ ps) text
unfolding HasDivision
more_divided lexis p ps text first e d =
    let whole : text ≡ p.bytes ++ drop (length p.bytes) text =
    sym (take-append-drop (length p.bytes) text) ∙ ap (λ (t : List ℕ). t ++ drop (length p.bytes) text) (sym e) in
    let same : drop (length (joined ps)) (drop (length p.bytes) text) ≡ drop (length (p.bytes ++ joined ps)) text =
    drop-drop (length (joined ps)) (length p.bytes) text
    ∙ ap (λ n. drop n text) (sym (length-append p.bytes (joined ps))) in
    record {
      divides = (
        drop (length p.bytes) text,
        whole,
        first,
        subst
            (λ r. Divides lexis ps (drop (length p.bytes) text) r) same d.divides,
      );
      stuck = subst (IsStuck lexis) same d.stuck;
    }

found_case : (lexis : Lexis) (n : ℕ) (text : List ℕ) (o : Option Piece) → lexis.kind_of [] ≡ None →
    next_piece lexis text ≡ o → ((p : Piece) → next_piece lexis text ≡ Some p →
    HasDivision lexis (pieces_upto lexis n (drop (length p.bytes) text)) (drop (length p.bytes) text)) →
    HasDivision lexis (and_then o (λ p. pieces_upto lexis n (drop (length p.bytes) text))) text
found_case lexis n text None none found ih = unfold HasDivision in
    record { divides = refl; stuck = none_stuck lexis text none found }
found_case lexis n text (Some p) none found ih =
    let f = found_front lexis text p found in
    more_divided lexis p _ text (rw (← f.1) at f.0.first) (ap (λ (q : Piece). q.bytes) f.1) (ih p found)

upto_divided : (lexis : Lexis) (n : ℕ) (text : List ℕ) → lexis.kind_of [] ≡ None → length text ≤ n →
    HasDivision lexis (pieces_upto lexis n text) text
unfolding pieces_upto
upto_divided lexis n [] none le = rw (pieces_nil lexis n)
    (unfold HasDivision in record { divides = refl; stuck = nil_stuck lexis none })
upto_divided lexis zero (b ∷ bs) none le = absurd (omega arith)
upto_divided lexis (suc n) (b ∷ bs) none le =
    found_case lexis n (b ∷ bs) (next_piece lexis (b ∷ bs)) none refl (λ p found.
    let some = (found_front lexis (b ∷ bs) p found).0.some in
    upto_divided lexis n (drop (length p.bytes) (b ∷ bs)) none (omega (arith, length-drop (length p.bytes) (b ∷ bs))))

pub pieces_divide : (lexis : Lexis) (text : List ℕ) → lexis.kind_of [] ≡ None →
    IsDivision lexis (pieces lexis text) text (undivided lexis text)
unfolding HasDivision
pieces_divide lexis text none = upto_divided lexis (length text) text none (omega arith)

-- ---- the pieces are the text

pub pieces_joined : (lexis : Lexis) (text : List ℕ) → lexis.kind_of [] ≡ None →
    joined (pieces lexis text) ++ undivided lexis text ≡ text
pieces_joined lexis text none = divides_joined lexis (pieces lexis text) text (undivided lexis text)
    (pieces_divide lexis text none).divides
