-- A contract of a public call rests on this: `lex`. Numbers, whose digits are not looked at further (JLS 3.10.1,
-- 3.10.2).
use Rattle.std.specs.Prelude.{ℕ, Bool, true, false, ◌&&◌, ◌||◌, List, [], ◌∷◌, codes, nat_eq, ◌==◌, if◌then◌else◌}
use Rattle.std.specs.Str.{byte}
use Rattle.std.specs.List.{starts_with}
use Rattle.racer_base.specs.Name.{is_digit}
use Rattle.java_lexer.specs.Kinds.{is_number_byte}

abbrev pub begins_with_digit : List ℕ → Bool
begins_with_digit [] = false
begins_with_digit (b ∷ bs) = is_digit b

-- a digit, or a dot and a digit
abbrev pub begins_number : List ℕ → Bool
begins_number [] = false
begins_number (b ∷ bs) = is_digit b || (b == byte "." && begins_with_digit bs)

abbrev pub begins_hex : List ℕ → Bool
begins_hex bytes = starts_with nat_eq bytes (codes "0x") || starts_with nat_eq bytes (codes "0X")

-- the letter before the sign of an exponent: `p` of a hexadecimal number, else `e`
abbrev pub is_exponent : Bool → ℕ → Bool
is_exponent hex b = if hex then (b == byte "p" || b == byte "P") else (b == byte "e" || b == byte "E")

-- directly behind b, c goes on a number
abbrev pub is_next : Bool → ℕ → ℕ → Bool
is_next hex b c = is_number_byte c || c == byte "." || ((c == byte "+" || c == byte "-") && is_exponent hex b)

-- each of the bytes, of which the first is behind b, goes on a number
abbrev pub go_on : Bool → ℕ → List ℕ → Bool
go_on hex b [] = true
go_on hex b (c ∷ cs) = is_next hex b c && go_on hex c cs

abbrev pub is_number : List ℕ → Bool
is_number [] = false
is_number (b ∷ bs) = begins_number (b ∷ bs) && go_on (begins_hex (b ∷ bs)) b bs
