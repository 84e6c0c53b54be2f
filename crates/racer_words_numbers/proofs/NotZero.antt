-- A number of a command line is not 0.
use Rattle.std.proofs.Common.{◌≡◌, ℕ, ◌+◌, ◌-◌, ◌*◌, ◌<◌, true, not, ◌&&◌, List, [], ◌∷◌}
use Rattle.std.proofs.Common.{fold, length, nat_le, arith}
use Rattle.std.specs.Prelude.{◌==◌}
use Rattle.std.specs.List.{list_all}
use Rattle.std.proofs.lemmas.Bool.Decides.{nat_tests}
use Rattle.std.proofs.lemmas.Bool.{and_parts}
use Rattle.racer_words_numbers.specs.Numbers.{is_digit, is_number, number}

digit : (b : ℕ) → not (b == 48) ≡ true → is_digit b ≡ true → 0 < b - 48
digit b e f = let low : nat_le 48 b ≡ true = (and_parts (nat_le 48 b) (nat_le b 57) f).0 in grind (arith, nat_tests)

grows : (bs : List ℕ) (n : ℕ) → 0 < n → 0 < fold (λ (n b : ℕ). n * 10 + (b - 48)) n bs
grows [] n some = some
grows (b ∷ bs) n some = grows bs (n * 10 + (b - 48)) (omega (arith, some))

pub some_number : (word : List ℕ) → is_number word ≡ true → 0 < number word
some_number [] e = cc
some_number (b ∷ bs) e =
    let rest = (and_parts (not (b == 48)) (list_all is_digit (b ∷ bs) && nat_le (length (b ∷ bs)) 3) e).1 in
    let all = (and_parts (list_all is_digit (b ∷ bs)) _ rest).0 in
    let here = digit b (and_parts (not (b == 48)) _ e).0 (and_parts (is_digit b) (list_all is_digit bs) all).0 in
    grows bs (0 * 10 + (b - 48)) (omega (arith, here))
