-- The decimal texts of the numbers in a row of what is written.
use Rattle.std.proofs.Common.{◌≡◌, codes, lit<}
use Rattle.std.specs.Fmt.{decimal}
use Rattle.std.proofs.lemmas.Fmt.{decimal_digit}

pub zero : decimal 0 ≡ codes "0"
zero = decimal_digit 0 (lit< tt)

pub one : decimal 1 ≡ codes "1"
one = decimal_digit 1 (lit< tt)

pub two : decimal 2 ≡ codes "2"
two = decimal_digit 2 (lit< tt)

pub three : decimal 3 ≡ codes "3"
three = decimal_digit 3 (lit< tt)

pub nine : decimal 9 ≡ codes "9"
nine = decimal_digit 9 (lit< tt)
