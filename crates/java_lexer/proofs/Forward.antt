-- The places of tokens never go back.
use Rattle.std.proofs.Common.{◌≡◌, ℕ, zero, suc, ◌+◌, ◌≤◌, Bool, true, false, cond, List, [], ◌∷◌, ◌++◌, refl, arith}
use Rattle.std.specs.Prelude.{◌==◌}
use Rattle.std.specs.List.{fold, All}
use Rattle.std.proofs.lemmas.List.Kept.{AllPairs-cons}
use Rattle.std.proofs.lemmas.Bool.{false≢true}
use Rattle.racer_base.specs.declared.ids.FileId.{FileId}
use Rattle.racer_base.specs.Name.{is_listed}
use Rattle.java_lexer.specs.declared.piece.PieceKind.{PieceKind}
use Rattle.java_lexer.specs.declared.piece.PieceKind.TheVariants.{White, Comment, Token}
use Rattle.java_lexer.specs.declared.token.TokenKind.{TokenKind}
use Rattle.java_lexer.specs.declared.token.TokenKind.TheVariants.{Sign}
use Rattle.java_lexer.specs.declared.token.Token as tokens
use Rattle.java_lexer.specs.declared.spot.Spot.{Spot}
use Rattle.java_lexer.specs.Places.{begin, next_line, line_feed, advance, place_at, IsNotBehind}
use Rattle.java_lexer.specs.Divisions.{Piece, pieces}
use Rattle.java_lexer.specs.Tokens.{tokens_from, GoForward}
use Rattle.java_lexer.specs.Signs.{shifts}
use Rattle.java_lexer.specs.JavaKinds.{java_lexis}
use Rattle.java_lexer.specs.JavaTokens.{one_token, angle_tokens, token_of, java_tokens_of, java_tokens}

-- a spot that is reached: behind a CR stands the first column
record IsReached (s : Spot) : Type 0 where
  one : 1 ≤ s.column
  back : s.after_return ≡ true → s.column ≡ 1

-- from one place to another
GoesTo : Spot → Spot → Type 0
GoesTo s t = (s.line ≤ t.line) × (s.line ≡ t.line → s.column ≤ t.column)

stays : (s : Spot) → GoesTo s s
unfolding GoesTo
stays s = (omega arith, λ e. omega arith)

goes_on : (s t u : Spot) → GoesTo s t → GoesTo t u → GoesTo s u
unfolding GoesTo
goes_on s t u a b = (
  omega (arith, a.0, b.0),
  λ e. let f : s.line ≡ t.line = omega (arith, a.0, b.0) in
      let g : t.line ≡ u.line = omega (arith, a.0, b.0) in omega (arith, a.1 f, b.1 g),
)

feed_case : (s : Spot) (x : Bool) → s.after_return ≡ x → IsReached s →
    GoesTo s (cond x (record { line = s.line; column = 1; after_return = false }) (next_line s false))
    × IsReached (cond x (record { line = s.line; column = 1; after_return = false }) (next_line s false))
unfolding GoesTo
feed_case s true e r = let first : s.column ≡ 1 = r.back e in
    ((omega arith, λ _. omega arith), record { one = omega arith; back = λ h. refl })
feed_case s false e r = ((omega arith, λ same. absurd (omega arith)), record { one = omega arith; back = λ h. refl })

advance_case : (s : Spot) (v w : Bool) → IsReached s →
    GoesTo s (cond v (next_line s true) (cond w (line_feed s)
    (record { line = s.line; column = s.column + 1; after_return = false })))
    × IsReached (cond v (next_line s true) (cond w (line_feed s)
    (record { line = s.line; column = s.column + 1; after_return = false })))
unfolding GoesTo
advance_case s true w r = ((omega arith, λ same. absurd (omega arith)), record { one = omega arith; back = λ h. refl })
advance_case s false true r = unfold GoesTo in feed_case s s.after_return refl r
advance_case s false false r = (
  (omega arith, λ same. omega arith),
  record
      { one = omega arith; back = λ h. absurd (false≢true h) },
)

advanced : (s : Spot) (b : ℕ) → IsReached s → GoesTo s (advance s b) × IsReached (advance s b)
advanced s b r = advance_case s (b == 13) (b == 10) r

folded : (s : Spot) (bs : List ℕ) → IsReached s → GoesTo s (fold advance s bs) × IsReached (fold advance s bs)
folded s [] r = (stays s, r)
folded s (b ∷ bs) r =
    let one = advanced s b r in
    let more = folded (advance s b) bs one.1 in
    (goes_on s (advance s b) (fold advance s (b ∷ bs)) one.0 more.0, more.1)

-- the tokens stand between two places, in order
Between : FileId → Spot → Spot → List tokens.Token → Type 0
Between file low high [] = GoesTo low high
Between file low high (t ∷ ts) = (at : Spot) × (t.place ≡ place_at file at) × GoesTo low at × Between file at high ts

from_before : (file : FileId) (a b c : Spot) (ts : List tokens.Token) → GoesTo a b → Between file b c ts →
    Between file a c ts
unfolding Between
from_before file a b c [] l h = goes_on a b c l h
from_before file a b c (t ∷ ts) l h = (h.0, h.1, goes_on a b h.0 l h.2, h.3)

between_append : (file : FileId) (a b c : Spot) (xs ys : List tokens.Token) → Between file a b xs →
    Between file b c ys → Between file a c (xs ++ ys)
unfolding Between
between_append file a b c [] ys l h = from_before file a b c ys l h
between_append file a b c (x ∷ xs) ys l h = (l.0, l.1, l.2, between_append file l.0 b c xs ys l.3 h)

angles_between : (file : FileId) (s : Spot) (glued : Bool) (bs : List ℕ) → IsReached s →
    Between file s (fold advance s bs) (angle_tokens file s glued bs)
unfolding Between
angles_between file s glued [] r = stays s
angles_between file s glued (b ∷ bs) r =
    let one = advanced s b r in (
      s,
      refl,
      stays s,
      from_before file s (advance s b) (fold advance s (b ∷ bs))
          (angle_tokens file (advance s b) true bs) one.0 (angles_between file (advance s b) true bs one.1),
    )

one_between : (file : FileId) (s : Spot) (kind : TokenKind) (bs : List ℕ) → IsReached s →
    Between file s (fold advance s bs) (one_token file s kind bs false ∷ [])
unfolding Between
one_between file s kind bs r = (s, refl, stays s, (folded s bs r).0)

none_between : (file : FileId) (s : Spot) (bs : List ℕ) → IsReached s → Between file s (fold advance s bs) []
unfolding Between
none_between file s bs r = (folded s bs r).0

sign_case : (file : FileId) (s : Spot) (bs : List ℕ) (v : Bool) → IsReached s →
    Between file s (fold advance s bs) (cond v (angle_tokens file s false bs) (one_token file s Sign bs false ∷ []))
sign_case file s bs true r = angles_between file s false bs r
sign_case file s bs false r = one_between file s Sign bs r

token_between : (file : FileId) (s : Spot) (kind : TokenKind) (bs : List ℕ) → IsReached s →
    Between file s (fold advance s bs) (token_of file s kind bs)
token_between file s Sign bs r = sign_case file s bs (is_listed shifts bs) r
token_between file s kind bs r = one_between file s kind bs r

piece_between : (file : FileId) (s : Spot) (kind : PieceKind) (bs : List ℕ) → IsReached s →
    Between file s (fold advance s bs) (java_tokens_of file s kind bs)
piece_between file s White bs r = none_between file s bs r
piece_between file s Comment bs r = none_between file s bs r
piece_between file s (Token kind) bs r = token_between file s kind bs r

all_between : (file : FileId) (s : Spot) (ps : List Piece) → IsReached s → (high : Spot)
    × Between file s high (tokens_from (java_tokens_of file) s ps)
all_between file s [] r = (s, none_between file s [] r)
all_between file s (p ∷ ps) r =
    let more = all_between file (fold advance s p.bytes) ps (folded s p.bytes r).1 in (
      more.0,
      between_append file s (fold advance s p.bytes) more.0 (java_tokens_of file s p.kind p.bytes)
          (tokens_from (java_tokens_of file) (fold advance s p.bytes) ps)
          (piece_between file s p.kind p.bytes r) more.1,
    )

all_later : (file : FileId) (low high : Spot) (ts : List tokens.Token) → Between file low high ts →
    All (λ (u : tokens.Token). IsNotBehind (place_at file low) u.place) ts
unfolding Between GoesTo
all_later file low high [] h k d less = absurd (omega arith)
all_later file low high (t ∷ ts) h zero d less = rw h.1 h.2
all_later file low high (t ∷ ts) h (suc k) d less =
    let later = from_before file low h.0 high ts h.2 h.3 in
    all_later file low high ts later k d (omega arith)

in_order : (file : FileId) (low high : Spot) (ts : List tokens.Token) → Between file low high ts → GoForward ts
unfolding Between
in_order file low high [] h = λ i j d less within. absurd (omega arith)
in_order file low high (t ∷ ts) h =
    AllPairs-cons (λ (a b : tokens.Token). IsNotBehind a.place b.place) t ts (rw h.1 (all_later file h.0 high ts h.3))
    (in_order file h.0 high ts h.3)

begins : IsReached begin
begins = record { one = omega arith; back = λ h. refl }

pub tokens_forward : (file : FileId) (bytes : List ℕ) → GoForward (java_tokens file bytes)
tokens_forward file bytes =
    let all = all_between file begin (pieces java_lexis bytes) begins in
    in_order file begin all.0 (java_tokens file bytes) all.1
