-- How far a number goes on.
use Rattle.std.proofs.Common.{◌≡◌, ℕ, zero, suc, ◌≤◌, Bool, true, false, cond, ◌&&◌, List, [], ◌∷◌, length, take, refl}
use Rattle.std.proofs.Common.{arith}
use Rattle.std.proofs.lemmas.Bool.{false≢true}
use Rattle.java_lexer.specs.Numbers.{begins_hex, is_next, go_on}
use Rattle.java_lexer.specs.Scanning.{number_len}

fits_case : (hex : Bool) (c : ℕ) (cs : List ℕ) (v : Bool) → number_len hex c cs ≤ length cs →
    cond v (suc (number_len hex c cs)) 0 ≤ suc (length cs)
fits_case hex c cs true h = omega arith
fits_case hex c cs false h = omega arith

pub number_fits : (hex : Bool) (b : ℕ) (bs : List ℕ) → number_len hex b bs ≤ length bs
number_fits hex b [] = omega arith
number_fits hex b (c ∷ cs) = fits_case hex c cs (is_next hex b c) (number_fits hex c cs)

passes_case : (hex : Bool) (b c : ℕ) (cs : List ℕ) (v : Bool) → is_next hex b c ≡ v →
    go_on hex c (take (number_len hex c cs) cs) ≡ true →
    go_on hex b (take (cond v (suc (number_len hex c cs)) 0) (c ∷ cs)) ≡ true
passes_case hex b c cs true e h = rw e h
passes_case hex b c cs false e h = refl

pub number_passes : (hex : Bool) (b : ℕ) (bs : List ℕ) → go_on hex b (take (number_len hex b bs) bs) ≡ true
number_passes hex b [] = refl
number_passes hex b (c ∷ cs) = passes_case hex b c cs (is_next hex b c) refl (number_passes hex c cs)

longest_case : (hex : Bool) (c k : ℕ) (cs : List ℕ) (v : Bool) → (v && go_on hex c (take k cs)) ≡ true →
    (go_on hex c (take k cs) ≡ true → k ≤ number_len hex c cs) → suc k ≤ cond v (suc (number_len hex c cs)) 0
longest_case hex c k cs true h ih = omega (arith, ih h)
longest_case hex c k cs false h ih = absurd (false≢true h)

pub number_longest : (hex : Bool) (b : ℕ) (bs : List ℕ) (k : ℕ) → k ≤ length bs → go_on hex b (take k bs) ≡ true →
    k ≤ number_len hex b bs
number_longest hex b [] k le h = le
number_longest hex b (c ∷ cs) zero le h = omega arith
number_longest hex b (c ∷ cs) (suc k) le h =
    longest_case hex c k cs (is_next hex b c) h (number_longest hex c cs k (omega arith))

-- a front that goes on is hexadecimal where the text is
pub hex_front : (b : ℕ) (bs : List ℕ) (k : ℕ) →
    go_on (begins_hex (b ∷ take k bs)) b (take k bs) ≡ go_on (begins_hex (b ∷ bs)) b (take k bs)
hex_front b bs zero = refl
hex_front b [] (suc k) = refl
hex_front b (c ∷ cs) (suc k) = refl
