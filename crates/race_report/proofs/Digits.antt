-- The decimal texts of the numbers in the rows.
use Rattle.std.proofs.Common.{◌≡◌, ◌++◌, codes, ap, ◌∙◌, lit<, lit≤}
use Rattle.std.specs.Fmt.{decimal}
use Rattle.std.proofs.lemmas.Fmt.{decimal_digit, decimal_step}

pub zero : decimal 0 ≡ codes "0"
zero = decimal_digit 0 (lit< tt)

pub one : decimal 1 ≡ codes "1"
one = decimal_digit 1 (lit< tt)

pub two : decimal 2 ≡ codes "2"
two = decimal_digit 2 (lit< tt)

pub three : decimal 3 ≡ codes "3"
three = decimal_digit 3 (lit< tt)

pub four : decimal 4 ≡ codes "4"
four = decimal_digit 4 (lit< tt)

pub five : decimal 5 ≡ codes "5"
five = decimal_digit 5 (lit< tt)

pub eight : decimal 8 ≡ codes "8"
eight = decimal_digit 8 (lit< tt)

pub of_21 : decimal 21 ≡ codes "21"
of_21 = decimal_step 21 (lit≤ tt) (lit< tt) ∙ ap (λ ds. ds ++ codes "1") two

pub of_44 : decimal 44 ≡ codes "44"
of_44 = decimal_step 44 (lit≤ tt) (lit< tt) ∙ ap (λ ds. ds ++ codes "4") four
