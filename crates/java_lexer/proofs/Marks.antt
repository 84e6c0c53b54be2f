-- The piece in front of a text that begins with a sign with which no longer piece begins.
use Rattle.std.proofs.Common.{◌≡◌, ℕ, ◌<◌, Bool, true, false, not, ◌||◌, List, [], ◌∷◌, Some, refl, subst, arith}
use Rattle.std.specs.Prelude.{nat_eq, ◌==◌}
use Rattle.std.proofs.lemmas.Bool.{false≢true}
use Rattle.std.proofs.lemmas.Bool.Decides.{nat_tests}
use Rattle.racer_base.specs.Name.{is_letter, is_digit}
use Rattle.java_lexer.specs.declared.piece.PieceKind.TheVariants.{Token}
use Rattle.java_lexer.specs.declared.token.TokenKind.TheVariants.{Sign}
use Rattle.java_lexer.specs.Kinds.{is_white}
use Rattle.java_lexer.specs.Signs.{signs}
use Rattle.java_lexer.specs.Scanning.{is_mark, signs_with, first_len, IsFront}
use Rattle.java_lexer.specs.JavaKinds.{java_lexis}
use Rattle.java_lexer.proofs.Bytes.{each_below, never_both}
use Rattle.java_lexer.proofs.JavaScans.{sign_front}

mark_below : (b : ℕ) → is_mark b ≡ true → b < 128
mark_below b h = grind (arith, nat_tests)

-- the byte is the one text of a group
abbrev is_only : ℕ → List (List ℕ) → Bool
is_only b ((c ∷ []) ∷ []) = nat_eq c b
is_only b group = false

or_this : (v w : Bool) → (not v || w) ≡ true → v ≡ true → w ≡ true
or_this true w h e = h
or_this false w h e = absurd (false≢true e)

only_sign : (b : ℕ) → b < 128 → is_mark b ≡ true → is_only b (signs_with b) ≡ true
unfolding signs signs_with
only_sign b small h = or_this (is_mark b) (is_only b (signs_with b))
    (each_below 128 (λ b. not (is_mark b) || is_only b (signs_with b)) refl b small) h

only_len : (b : ℕ) (bs : List ℕ) (group : List (List ℕ)) → is_only b group ≡ true → first_len group (b ∷ bs) ≡ Some 1
only_len b bs [] h = absurd (false≢true h)
only_len b bs ([] ∷ ts) h = absurd (false≢true h)
only_len b bs ((c ∷ []) ∷ []) h = rw h refl
only_len b bs ((c ∷ []) ∷ (t ∷ ts)) h = absurd (false≢true h)
only_len b bs ((c ∷ (d ∷ ds)) ∷ ts) h = absurd (false≢true h)

pub mark_front : (b : ℕ) (bs : List ℕ) → is_mark b ≡ true → IsFront java_lexis (b ∷ bs) 1 (Token Sign)
mark_front b bs h =
    let small = mark_below b h in
    let slash : nat_eq 47 b ≡ false = never_both is_mark (λ c. nat_eq 47 c) refl b small h in
    sign_front b bs (omega arith) (never_both is_mark is_white refl b small h)
    (never_both is_mark is_letter refl b small h)
    (rw (never_both is_mark is_digit refl b small h, never_both is_mark (λ c. c == 46) refl b small h) refl)
    (λ e. false≢true (subst (λ x. is_mark x ≡ true) e h)) (λ e. false≢true (subst (λ x. is_mark x ≡ true) e h))
    (rw slash refl) (rw slash refl) 1 (only_len b bs (signs_with b) (only_sign b small h))
