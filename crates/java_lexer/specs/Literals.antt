-- A contract of a public call rests on this: `lex`. Character and text literals (JLS 3.10.4, 3.10.5) and their escapes
-- (JLS 3.3, 3.10.6).
use Rattle.std.specs.Prelude.{ℕ, ◌+◌, ◌-◌, ◌*◌, Bool, true, false, not, ◌&&◌, ◌||◌, List, [], ◌∷◌, length, take, drop}
use Rattle.std.specs.Prelude.{nat_eq, nat_le, ◌==◌, if◌then◌else◌}
use Rattle.std.specs.Str.{byte}
use Rattle.std.specs.List.{fold, list_all, list_any}
use Rattle.racer_base.specs.Name.{is_between, is_digit}
use Rattle.java_lexer.specs.Kinds.{is_nothing}
use Rattle.java_lexer.specs.Comments.{is_line_end}
use Rattle.java_lexer.specs.Fronts.{some_front}

-- ---- escapes, behind their backslash

-- the quote of a text, and that of a character
abbrev pub double_quote : ℕ
double_quote = byte "\""

abbrev pub single_quote : ℕ
single_quote = byte "'"

abbrev pub backslash : ℕ
backslash = byte "\\"

-- b, t, n, f, r, the quotes and the backslash
abbrev pub is_simple : ℕ → Bool
is_simple b =
    list_any (nat_eq b)
    (byte "b" ∷ byte "t" ∷ byte "n" ∷ byte "f" ∷ byte "r" ∷ double_quote ∷ single_quote ∷ backslash ∷ [])

abbrev pub is_simple_escape : List ℕ → Bool
is_simple_escape [] = false
is_simple_escape (b ∷ bs) = is_simple b && is_nothing bs

abbrev pub is_octal : ℕ → Bool
is_octal b = is_between (byte "0") (byte "7") b

-- one or two octal digits, or three of which the first is at most 3
abbrev pub is_octal_escape : List ℕ → Bool
is_octal_escape [] = false
is_octal_escape (b ∷ bs) =
    is_octal b && list_all is_octal bs && nat_le (length bs) (if nat_le b (byte "3") then 2 else 1)

abbrev pub is_hex : ℕ → Bool
is_hex b = is_digit b || is_between (byte "a") (byte "f") b || is_between (byte "A") (byte "F") b

abbrev pub hex_digit : ℕ → ℕ
hex_digit b =
    if is_digit b then b - byte "0" else
    (if nat_le (byte "a") b then b - (byte "a" - 10) else b - (byte "A" - 10))

abbrev pub hex_value : List ℕ → ℕ
hex_value digits = fold (λ n b. n * 16 + hex_digit b) 0 digits

-- four hexadecimal digits, but not of a line end, a backslash or the quote: JLS 3.3 would read such an escape as that
-- very character before the literal is looked at, so it would end the line, begin another escape or close the literal
abbrev pub is_allowed_unit : ℕ → List ℕ → Bool
is_allowed_unit quote bytes =
    length bytes == 4 && list_all is_hex bytes
    && not (list_any (nat_eq (hex_value bytes)) (byte "\n" ∷ byte "\r" ∷ backslash ∷ quote ∷ []))

-- what stands behind a run of u, which may be empty
abbrev pub behind_u_run : List ℕ → List ℕ
behind_u_run [] = []
behind_u_run (b ∷ bs) = if b == byte "u" then behind_u_run bs else b ∷ bs

-- one or more u, and four digits
abbrev pub is_unicode_escape : ℕ → List ℕ → Bool
is_unicode_escape quote [] = false
is_unicode_escape quote (b ∷ bs) = b == byte "u" && is_allowed_unit quote (behind_u_run bs)

abbrev pub is_escape : ℕ → List ℕ → Bool
is_escape quote bytes = is_simple_escape bytes || is_octal_escape bytes || is_unicode_escape quote bytes

-- ---- literals

abbrev mutual
  -- behind the opening quote: the first closing one is the end, and no line ends before it
  pub ends_quoted : ℕ → List ℕ → Bool
  ends_quoted quote [] = false
  ends_quoted quote (b ∷ bs) =
      if b == quote then is_nothing bs else
      (if b == backslash then ends_behind_one quote bs else
      not (is_line_end b) && ends_quoted quote bs)

  -- behind a backslash: the byte there is passed, whatever it is, so a quote there closes nothing; but no line may end
  pub ends_behind_one : ℕ → List ℕ → Bool
  ends_behind_one quote [] = false
  ends_behind_one quote (b ∷ bs) = not (is_line_end b) && ends_quoted quote bs

-- closed on its line
abbrev pub is_quoted : ℕ → List ℕ → Bool
is_quoted quote [] = false
is_quoted quote (b ∷ bs) = b == quote && ends_quoted quote bs

abbrev pub between_quotes : List ℕ → List ℕ
between_quotes bytes = take (length bytes - 2) (drop 1 bytes)

-- a byte behind the first of a code point in UTF-8
abbrev pub is_continuation : ℕ → Bool
is_continuation b = is_between 128 191 b

-- one code point other than the quote, a backslash and a line end, or one escape
abbrev pub is_one_character : List ℕ → Bool
is_one_character [] = false
is_one_character (b ∷ bs) =
    if b == backslash then is_escape single_quote bs else
    (not (b == single_quote || is_line_end b) && list_all is_continuation bs)

abbrev pub is_character : List ℕ → Bool
is_character bytes = is_quoted single_quote bytes && is_one_character (between_quotes bytes)

abbrev mutual
  -- each backslash begins an escape, but for one that an escape takes along
  pub escapes_hold : List ℕ → Bool
  escapes_hold [] = true
  escapes_hold (b ∷ bs) =
      if b == backslash then (some_front (is_escape double_quote) bs && hold_behind_one bs) else
      escapes_hold bs

  -- behind a backslash that begins an escape: the first byte belongs to that escape. So a backslash there begins none
  -- of its own: in `\\n` stands the escape `\\`, and a plain n. No further byte of an escape is a backslash
  pub hold_behind_one : List ℕ → Bool
  hold_behind_one [] = true
  hold_behind_one (b ∷ bs) = escapes_hold bs

abbrev pub is_text : List ℕ → Bool
is_text bytes = is_quoted double_quote bytes && escapes_hold (between_quotes bytes)
