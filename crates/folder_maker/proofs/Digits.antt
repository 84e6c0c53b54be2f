-- A number below ten thousand that is padded with zeros to four digits is its four digits.
use Rattle.std.proofs.Common.{◌≡◌, ℕ, ◌+◌, ◌-◌, ◌^◌, ◌<◌, ◌≤◌, ◌/◌, ◌%◌, arith, false, List, [], ◌∷◌, ⊎_elim}
use Rattle.std.specs.Fmt.{char_count, decimal, format_spec, padded_integral}
use Rattle.std.proofs.lemmas.Fmt.{decimal_digit, decimal_step}
use Rattle.std.proofs.lemmas.Bool.{cases_lt}
use Rattle.folder_maker.specs.Folders.{four_digits}

two : (n : ℕ) → 10 ≤ n → n < 100 → decimal n ≡ (48 + n / 10) ∷ (48 + n % 10) ∷ []
two n large small = rw (decimal_step n large (omega arith), decimal_digit (n / 10) (omega arith))

three : (n : ℕ) → 100 ≤ n → n < 1000 → decimal n ≡ (48 + n / 100) ∷ (48 + n / 10 % 10) ∷ (48 + n % 10) ∷ []
three n large small =
    let high : n / 10 / 10 ≡ n / 100 = omega arith in
    rw (decimal_step n (omega arith) (omega arith), two (n / 10) (omega arith) (omega arith), high)

four : (n : ℕ) → 1000 ≤ n → n < 10000 → decimal n ≡ four_digits n
four n large small =
    let high : n / 10 / 100 ≡ n / 1000 = omega arith in
    let next : n / 10 / 10 % 10 ≡ n / 100 % 10 = omega arith in
    rw (decimal_step n (omega arith) (omega arith), three (n / 10) (omega arith) (omega arith), high, next)

-- what `{:04}` makes of the digits of a number
abbrev pub in_four : List ℕ → List ℕ
in_four = padded_integral (format_spec 32 0 4 4 (2 ^ 64 - 1)) false []

padded_one : (n : ℕ) → n < 10 → in_four (decimal n) ≡ four_digits n
unfolding padded_integral char_count
padded_one n small =
    let a : n / 1000 ≡ 0 = omega arith in
    let b : n / 100 % 10 ≡ 0 = omega arith in
    let c : n / 10 % 10 ≡ 0 = omega arith in
    let d : n % 10 ≡ n = omega arith in
    rw (decimal_digit n small, a, b, c, d)

padded_two : (n : ℕ) → 10 ≤ n → n < 100 → in_four (decimal n) ≡ four_digits n
unfolding padded_integral char_count
padded_two n large small =
    let a : n / 1000 ≡ 0 = omega arith in
    let b : n / 100 % 10 ≡ 0 = omega arith in
    let c : n / 10 % 10 ≡ n / 10 = omega arith in
    rw (two n large small, a, b, c)

padded_three : (n : ℕ) → 100 ≤ n → n < 1000 → in_four (decimal n) ≡ four_digits n
unfolding padded_integral char_count
padded_three n large small =
    let a : n / 1000 ≡ 0 = omega arith in
    let b : n / 100 % 10 ≡ n / 100 = omega arith in
    rw (three n large small, a, b)

whole : (n : ℕ) → 1000 ≤ n → n < 10000 → in_four (decimal n) ≡ four_digits n
unfolding padded_integral char_count
whole n large small = rw (four n large small)

from_hundred : (n : ℕ) → 100 ≤ n → n < 10000 → in_four (decimal n) ≡ four_digits n
from_hundred n large small =
    ⊎_elim (λ less. padded_three n large less) (λ more. whole n more small) (cases_lt n 1000)

from_ten : (n : ℕ) → 10 ≤ n → n < 10000 → in_four (decimal n) ≡ four_digits n
from_ten n large small =
    ⊎_elim (λ less. padded_two n large less) (λ more. from_hundred n more small) (cases_lt n 100)

pub padded_four : (n : ℕ) → n < 10000 → in_four (decimal n) ≡ four_digits n
padded_four n small = ⊎_elim (λ less. padded_one n less) (λ more. from_ten n more small) (cases_lt n 10)
