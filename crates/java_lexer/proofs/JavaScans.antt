-- The piece in front of a text, or the fault that is named there, by its first bytes.
use Rattle.std.proofs.Common.{◌≡◌, ℕ, zero, suc, ◌+◌, ◌-◌, ◌≤◌, ◌<◌, Bool, true, false, not, cond, ◌&&◌, ◌||◌, List, []}
use Rattle.std.proofs.Common.{◌∷◌, ◌++◌, length, take, drop, Some, None, inl, inr, refl, sym, ap, ◌∙◌, subst, arith}
use Rattle.std.proofs.Common.{one-add, eqb-true, take-append-drop}
use Rattle.std.specs.Prelude.{IsSome, codes, filter, nat_eq, ◌==◌}
use Rattle.std.specs.List.{prefix_len, list_all, starts_with}
use Rattle.std.specs.Cmp.Lexicographic.{bytes_decides}
use Rattle.std.proofs.lemmas.List.{length-take-le}
use Rattle.std.proofs.lemmas.List.Sums.{prefix_len-le-length}
use Rattle.std.proofs.lemmas.Bool.{false≢true, and_parts, false_from_ne_true, not-false, or_cases, or_left, or_right}
use Rattle.racer_base.specs.Name.{is_letter, is_digit, is_listed}
use Rattle.racer_base.proofs.Tests.{different}
use Rattle.java_lexer.specs.declared.piece.PieceKind.{PieceKind}
use Rattle.java_lexer.specs.declared.piece.PieceKind.TheVariants.{Comment, Token}
use Rattle.java_lexer.specs.declared.piece.LexicalFault.TheVariants.{BadCharacter, Unclosed, BadLiteral}
use Rattle.java_lexer.specs.declared.token.TokenKind.{TokenKind}
use Rattle.java_lexer.specs.declared.token.TokenKind.TheVariants.{Number, Character, Text, Sign}
use Rattle.java_lexer.specs.Kinds.{is_white}
use Rattle.java_lexer.specs.Comments.{is_inline, is_line_comment, is_block_comment, is_comment, ends_closed}
use Rattle.java_lexer.specs.Numbers.{begins_with_digit, begins_number, begins_hex, is_next, go_on}
use Rattle.java_lexer.specs.Literals.{ends_quoted, is_quoted, between_quotes, is_one_character, is_character}
use Rattle.java_lexer.specs.Literals.{escapes_hold, is_text}
use Rattle.java_lexer.specs.Signs.{signs, is_sign}
use Rattle.java_lexer.specs.Fronts.{some_front}
use Rattle.java_lexer.specs.Scanning.{signs_with, begins_with, first_len, closed_len, quoted_len, number_len}
use Rattle.java_lexer.specs.JavaKinds.{java_kind, is_piece, unless_front, literal_fault, java_fault, java_lexis}
use Rattle.java_lexer.specs.Scanning.{IsFront}
use Rattle.java_lexer.proofs.Bytes.{never_both}
use Rattle.java_lexer.proofs.Ascii.{digit_below}
use Rattle.java_lexer.proofs.Runs.{run_passes, run_longest}
use Rattle.java_lexer.proofs.ByFirst.{if_some}
use Rattle.java_lexer.proofs.SomeFronts.{front_is, no_front}
use Rattle.java_lexer.proofs.Closed.{closed_ends, closed_only, quoted_ends, quoted_only}
use Rattle.java_lexer.proofs.NumberRuns.{number_fits, number_passes, number_longest}
use Rattle.java_lexer.proofs.SignRuns.{signs_listed, signs_fall, IsLongestIn, sign_found, sign_missing}
use Rattle.java_lexer.proofs.Calm.{no_bad, digit_front}

front_of : (text : List ℕ) (n : ℕ) (kind : PieceKind) → 0 < n → n ≤ length text → java_kind (take n text) ≡ Some kind →
    ((m : ℕ) → m ≤ length text → IsSome (java_kind (take m text)) → m ≤ n) → java_fault text ≡ None →
    IsFront java_lexis text n kind
front_of text n kind some fits is longest clear = record {
  some = some;
  fits = fits;
  first = record {
    is = is;
    longest = λ m le s. omega (arith, longest m le s, length-take-le n text fits);
    faultless = clear;
  };
}

-- ---- numbers that begin with a dot

not_dot : (d : ℕ) → is_digit d ≡ true → (xs : List ℕ) → is_sign (46 ∷ d ∷ xs) ≡ false
unfolding signs
not_dot d h xs = rw (never_both is_digit (λ c. c == 46) refl d (digit_below d h) h) refl

dot_kind : (d : ℕ) → is_digit d ≡ true → (xs : List ℕ) →
    java_kind (46 ∷ d ∷ xs) ≡ cond (go_on false 46 (d ∷ xs)) (Some (Token Number)) None
dot_kind d h xs = rw (h, not_dot d h xs) refl

dot_alone : java_kind (46 ∷ []) ≡ Some (Token Sign)
unfolding signs
dot_alone = refl

dot_longest : (d : ℕ) (ds : List ℕ) → is_digit d ≡ true → (m : ℕ) → m ≤ length (46 ∷ d ∷ ds) →
    IsSome (java_kind (take m (46 ∷ d ∷ ds))) → m ≤ suc (number_len false 46 (d ∷ ds))
dot_longest d ds h zero le s = omega arith
dot_longest d ds h (suc zero) le s = omega arith
dot_longest d ds h (suc (suc k)) le s =
    let go = if_some (go_on false 46 (d ∷ take k ds)) (Token Number) (subst IsSome (dot_kind d h (take k ds)) s) in
    omega (arith, number_longest false 46 (d ∷ ds) (suc k) (omega arith) go)

dot_is : (d : ℕ) (ds : List ℕ) → is_digit d ≡ true → (n : ℕ) → go_on false 46 (take n (d ∷ ds)) ≡ true → 0 < n →
    java_kind (46 ∷ take n (d ∷ ds)) ≡ Some (Token Number)
dot_is d ds h zero go some = absurd (omega arith)
dot_is d ds h (suc k) go some = dot_kind d h (take k ds) ∙ rw go refl

digit_next : (d : ℕ) → is_digit d ≡ true → is_next false 46 d ≡ true
digit_next d h = not-false (is_next false 46 d)
    (never_both is_digit (λ c. not (is_next false 46 c)) refl d (digit_below d h) h)

pub dot_front : (d : ℕ) (ds : List ℕ) → is_digit d ≡ true →
    IsFront java_lexis (46 ∷ d ∷ ds) (suc (number_len false 46 (d ∷ ds))) (Token Number)
dot_front d ds h =
    let some : 0 < number_len false 46 (d ∷ ds) = rw (digit_next d h) (omega arith) in
    front_of (46 ∷ d ∷ ds) (suc (number_len false 46 (d ∷ ds))) (Token Number) (omega arith)
    (omega (arith, number_fits false 46 (d ∷ ds)))
    (dot_is d ds h (number_len false 46 (d ∷ ds)) (number_passes false 46 (d ∷ ds)) some)
    (dot_longest d ds h)
    (no_bad (46 ∷ d ∷ ds) 1 (Token Sign) (omega arith) (omega arith) dot_alone)

dot_case : (bs : List ℕ) → begins_with_digit bs ≡ true →
    IsFront java_lexis (46 ∷ bs) (1 + number_len false 46 bs) (Token Number)
dot_case [] h = absurd (false≢true h)
dot_case (d ∷ ds) h = rw one-add (dot_front d ds h)

number_case : (b : ℕ) (bs : List ℕ) (v : Bool) → is_digit b ≡ v → (v || (b == 46 && begins_with_digit bs)) ≡ true →
    IsFront java_lexis (b ∷ bs) (1 + number_len (begins_hex (b ∷ bs)) b bs) (Token Number)
number_case b bs true e h = rw one-add (digit_front b bs e)
number_case b bs false e h =
    let dot : b ≡ 46 = eqb-true b 46 (and_parts (b == 46) (begins_with_digit bs) h).0 in
    rw dot (dot_case bs (and_parts (b == 46) (begins_with_digit bs) h).1)

pub number_front : (b : ℕ) (bs : List ℕ) → begins_number (b ∷ bs) ≡ true →
    IsFront java_lexis (b ∷ bs) (1 + number_len (begins_hex (b ∷ bs)) b bs) (Token Number)
number_front b bs h = number_case b bs (is_digit b) refl h

-- ---- comments

if_or : (v : Bool) → cond (v || false) (Some Comment) None ≡ cond v (Some Comment) None
if_or true = refl
if_or false = refl

line_kind : (xs : List ℕ) → java_kind (47 ∷ 47 ∷ xs) ≡ cond (list_all is_inline xs) (Some Comment) None
unfolding signs
line_kind xs = if_or (list_all is_inline xs)

slash_kind : java_kind (47 ∷ []) ≡ Some (Token Sign)
unfolding signs
slash_kind = refl

two_add : (n : ℕ) → 2 + n ≡ suc (suc n)
two_add n = omega arith

line_longest : (cs : List ℕ) (m : ℕ) → m ≤ length (47 ∷ 47 ∷ cs) → IsSome (java_kind (take m (47 ∷ 47 ∷ cs))) →
    m ≤ suc (suc (prefix_len is_inline cs))
line_longest cs zero le s = omega arith
line_longest cs (suc zero) le s = omega arith
line_longest cs (suc (suc k)) le s = omega (
  arith,
  run_longest is_inline cs k (omega arith)
      (if_some (list_all is_inline (take k cs)) Comment (subst IsSome (line_kind (take k cs)) s)),
)

pub line_front : (cs : List ℕ) → IsFront java_lexis (47 ∷ 47 ∷ cs) (2 + prefix_len is_inline cs) Comment
line_front cs =
    rw two_add (front_of (47 ∷ 47 ∷ cs) (suc (suc (prefix_len is_inline cs))) Comment (omega arith)
    (omega (arith, prefix_len-le-length is_inline cs))
    (line_kind (take (prefix_len is_inline cs) cs) ∙ rw (run_passes is_inline cs) refl) (line_longest cs)
    (no_bad (47 ∷ 47 ∷ cs) 1 (Token Sign) (omega arith) (omega arith) slash_kind))

block_kind : (xs : List ℕ) → java_kind (47 ∷ 42 ∷ xs) ≡ cond (ends_closed xs) (Some Comment) None
unfolding signs
block_kind xs = refl

block_longest : (cs : List ℕ) (n : ℕ) → closed_len cs ≡ Some n → (m : ℕ) → m ≤ length (47 ∷ 42 ∷ cs) →
    IsSome (java_kind (take m (47 ∷ 42 ∷ cs))) → m ≤ suc (suc n)
block_longest cs n e zero le s = omega arith
block_longest cs n e (suc zero) le s = omega arith
block_longest cs n e (suc (suc k)) le s =
    let there = closed_only cs k (omega arith)
    (if_some (ends_closed (take k cs)) Comment (subst IsSome (block_kind (take k cs)) s)) in
    let same : k ≡ n = cc in
    omega arith

pub block_front : (cs : List ℕ) (n : ℕ) → closed_len cs ≡ Some n → IsFront java_lexis (47 ∷ 42 ∷ cs) (2 + n) Comment
block_front cs n e =
    let ends = closed_ends cs n e in
    let found : some_front is_block_comment (47 ∷ 42 ∷ cs) ≡ true =
    front_is is_block_comment (47 ∷ 42 ∷ cs) (suc (suc n)) (omega arith) (omega (arith, ends.0)) ends.1 in
    rw two_add (front_of (47 ∷ 42 ∷ cs) (suc (suc n)) Comment (omega arith) (omega (arith, ends.0))
    (block_kind (take n cs) ∙ rw ends.1 refl) (block_longest cs n e) (rw found refl))

block_missing : (cs : List ℕ) → closed_len cs ≡ None → (m : ℕ) → 0 < m → m ≤ length (47 ∷ 42 ∷ cs) →
    is_block_comment (take m (47 ∷ 42 ∷ cs)) ≡ true → ⊥
block_missing cs e zero some le h = omega arith
block_missing cs e (suc zero) some le h = false≢true h
block_missing cs e (suc (suc k)) some le h =
    let there = closed_only cs k (omega arith) h in
    cc

pub block_unclosed : (cs : List ℕ) → closed_len cs ≡ None → java_fault (47 ∷ 42 ∷ cs) ≡ Some Unclosed
block_unclosed cs e = rw (no_front is_block_comment (47 ∷ 42 ∷ cs) (block_missing cs e)) refl

-- a text that begins with two known bytes
two_bytes : (text : List ℕ) (x y : ℕ) → starts_with nat_eq text (x ∷ y ∷ []) ≡ true → text ≡ x ∷ y ∷ drop 2 text
two_bytes text x y h =
    let same : x ∷ y ∷ [] ≡ take 2 text = (bytes_decides (x ∷ y ∷ []) (take 2 text)).0 h in
    sym (take-append-drop 2 text) ∙ ap (λ (s : List ℕ). s ++ drop 2 text) (sym same)

pub line_scanned : (text : List ℕ) → starts_with nat_eq text (codes "//") ≡ true →
    IsFront java_lexis text (2 + prefix_len is_inline (drop 2 text)) Comment
line_scanned text h = subst (λ t. IsFront java_lexis t (2 + prefix_len is_inline (drop 2 text)) Comment)
    (sym (two_bytes text 47 47 h)) (line_front (drop 2 text))

pub block_scanned : (text : List ℕ) (n : ℕ) → starts_with nat_eq text (codes "/*") ≡ true →
    closed_len (drop 2 text) ≡ Some n → IsFront java_lexis text (2 + n) Comment
block_scanned text n h e = subst (λ t. IsFront java_lexis t (2 + n) Comment) (sym (two_bytes text 47 42 h))
    (block_front (drop 2 text) n e)

pub block_fault : (text : List ℕ) → starts_with nat_eq text (codes "/*") ≡ true → closed_len (drop 2 text) ≡ None →
    java_fault text ≡ Some Unclosed
block_fault text h e = ap java_fault (two_bytes text 47 42 h) ∙ block_unclosed (drop 2 text) e

-- ---- literals

module _ (q : ℕ) (bs : List ℕ) (is_literal : List ℕ → Bool) (kind : TokenKind)
    (is : (xs : List ℕ) → java_kind (q ∷ xs) ≡ cond (is_literal (q ∷ xs)) (Some (Token kind)) None)
    (quoted : (xs : List ℕ) → is_quoted q (q ∷ xs) ≡ ends_quoted q xs)
    (ends : (xs : List ℕ) → is_literal (q ∷ xs) ≡ true → ends_quoted q xs ≡ true)
    (fault : java_fault (q ∷ bs) ≡ literal_fault (is_quoted q) is_literal (q ∷ bs)) where
  one_end : (n : ℕ) → quoted_len q bs ≡ Some n → (k : ℕ) → k ≤ length bs → ends_quoted q (take k bs) ≡ true → k ≡ n
  one_end n e k le h = let there = quoted_only q bs k le h in cc

  closed_here : (n : ℕ) → quoted_len q bs ≡ Some n → some_front (is_quoted q) (q ∷ bs) ≡ true
  closed_here n e = let f = quoted_ends q bs n e in
      front_is (is_quoted q) (q ∷ bs) (suc n) (omega arith) (omega (arith, f.0)) (quoted (take n bs) ∙ f.1)

  literal_longest : (n : ℕ) → quoted_len q bs ≡ Some n → (m : ℕ) → m ≤ length (q ∷ bs) →
      IsSome (java_kind (take m (q ∷ bs))) → m ≤ suc n
  literal_longest n e zero le s = omega arith
  literal_longest n e (suc k) le s =
      let literal = if_some (is_literal (q ∷ take k bs)) (Token kind) (subst IsSome (is (take k bs)) s) in
      omega (arith, one_end n e k (omega arith) (ends (take k bs) literal))

  pub literal_front : (n : ℕ) → quoted_len q bs ≡ Some n → is_literal (q ∷ take n bs) ≡ true →
      IsFront java_lexis (q ∷ bs) (suc n) (Token kind)
  literal_front n e literal =
      let f = quoted_ends q bs n e in
      let here : some_front is_literal (q ∷ bs) ≡ true =
      front_is is_literal (q ∷ bs) (suc n) (omega arith) (omega (arith, f.0)) literal in
      front_of (q ∷ bs) (suc n) (Token kind) (omega arith) (omega (arith, f.0)) (is (take n bs) ∙ rw literal refl)
      (literal_longest n e) (fault ∙ rw (closed_here n e, here) refl)

  no_literal : (n : ℕ) → quoted_len q bs ≡ Some n → is_literal (q ∷ take n bs) ≡ false → (m : ℕ) → 0 < m →
      m ≤ length (q ∷ bs) → is_literal (take m (q ∷ bs)) ≡ true → ⊥
  no_literal n e bad zero some le h = omega arith
  no_literal n e bad (suc k) some le h =
      let same : k ≡ n = one_end n e k (omega arith) (ends (take k bs) h) in
      false≢true (sym bad ∙ (rw same at h))

  pub literal_bad : (n : ℕ) → quoted_len q bs ≡ Some n → is_literal (q ∷ take n bs) ≡ false →
      java_fault (q ∷ bs) ≡ Some BadLiteral
  literal_bad n e bad = fault ∙ rw (closed_here n e, no_front is_literal (q ∷ bs) (no_literal n e bad)) refl

  no_closed : quoted_len q bs ≡ None → (m : ℕ) → 0 < m → m ≤ length (q ∷ bs) → is_quoted q (take m (q ∷ bs)) ≡ true → ⊥
  no_closed e zero some le h = omega arith
  no_closed e (suc k) some le h =
      let there = quoted_only q bs k (omega arith) (sym (quoted (take k bs)) ∙ h) in
      cc

  pub literal_unclosed : quoted_len q bs ≡ None → java_fault (q ∷ bs) ≡ Some Unclosed
  literal_unclosed e = fault ∙ rw (no_front (is_quoted q) (q ∷ bs) (no_closed e)) refl

text_kind : (xs : List ℕ) → java_kind (34 ∷ xs) ≡ cond (is_text (34 ∷ xs)) (Some (Token Text)) None
unfolding signs
text_kind xs = refl

character_kind : (xs : List ℕ) → java_kind (39 ∷ xs) ≡ cond (is_character (39 ∷ xs)) (Some (Token Character)) None
unfolding signs
character_kind xs = refl

-- ---- what stands between the quotes

shorter_take : (bs : List ℕ) (m n : ℕ) → m ≤ n → take m (take n bs) ≡ take m bs
shorter_take bs zero n le = refl
shorter_take bs (suc m) zero le = absurd (omega arith)
shorter_take [] (suc m) (suc n) le = refl
shorter_take (b ∷ bs) (suc m) (suc n) le = ap (λ (t : List ℕ). b ∷ t) (shorter_take bs m n (omega arith))

content : (q : ℕ) (bs : List ℕ) (n : ℕ) → n ≤ length bs → between_quotes (q ∷ take n bs) ≡ take (n - 1) bs
content q bs n le =
    let len : suc (length (take n bs)) - 2 ≡ n - 1 = omega (arith, length-take-le n bs le) in
    rw len (shorter_take bs (n - 1) n (omega arith))

text_fault : (bs : List ℕ) → starts_with nat_eq (34 ∷ bs) (34 ∷ 34 ∷ 34 ∷ []) ≡ false →
    java_fault (34 ∷ bs) ≡ literal_fault (is_quoted 34) is_text (34 ∷ bs)
text_fault bs h = rw h refl

pub three_quotes : (bs : List ℕ) → starts_with nat_eq (34 ∷ bs) (34 ∷ 34 ∷ 34 ∷ []) ≡ true →
    java_fault (34 ∷ bs) ≡ Some BadLiteral
three_quotes bs h = rw h refl

pub text_unclosed : (bs : List ℕ) → starts_with nat_eq (34 ∷ bs) (34 ∷ 34 ∷ 34 ∷ []) ≡ false → quoted_len 34 bs ≡ None →
    java_fault (34 ∷ bs) ≡ Some Unclosed
text_unclosed bs one e = literal_unclosed 34 bs is_text Text text_kind (λ xs. refl) (λ xs h. (and_parts _ _ h).0)
    (text_fault bs one) e

text_is : (bs : List ℕ) (n : ℕ) → quoted_len 34 bs ≡ Some n → is_text (34 ∷ take n bs) ≡ escapes_hold (take (n - 1) bs)
text_is bs n e = let f = quoted_ends 34 bs n e in rw (f.1, content 34 bs n f.0) refl

pub text_front : (bs : List ℕ) (n : ℕ) → starts_with nat_eq (34 ∷ bs) (34 ∷ 34 ∷ 34 ∷ []) ≡ false →
    quoted_len 34 bs ≡ Some n → escapes_hold (take (n - 1) bs) ≡ true →
    IsFront java_lexis (34 ∷ bs) (1 + n) (Token Text)
text_front bs n one e h =
    rw one-add (literal_front 34 bs is_text Text text_kind (λ xs. refl) (λ xs h. (and_parts _ _ h).0)
    (text_fault bs one) n e (text_is bs n e ∙ h))

pub text_bad : (bs : List ℕ) (n : ℕ) → starts_with nat_eq (34 ∷ bs) (34 ∷ 34 ∷ 34 ∷ []) ≡ false →
    quoted_len 34 bs ≡ Some n → escapes_hold (take (n - 1) bs) ≡ false → java_fault (34 ∷ bs) ≡ Some BadLiteral
text_bad bs n one e h = literal_bad 34 bs is_text Text text_kind (λ xs. refl) (λ xs h. (and_parts _ _ h).0)
    (text_fault bs one) n e (text_is bs n e ∙ h)

character_is : (bs : List ℕ) (n : ℕ) → quoted_len 39 bs ≡ Some n →
    is_character (39 ∷ take n bs) ≡ is_one_character (take (n - 1) bs)
character_is bs n e = let f = quoted_ends 39 bs n e in rw (f.1, content 39 bs n f.0) refl

pub character_unclosed : (bs : List ℕ) → quoted_len 39 bs ≡ None → java_fault (39 ∷ bs) ≡ Some Unclosed
character_unclosed bs e = literal_unclosed 39 bs is_character Character character_kind (λ xs. refl)
    (λ xs h. (and_parts _ _ h).0) refl e

pub character_front : (bs : List ℕ) (n : ℕ) → quoted_len 39 bs ≡ Some n → is_one_character (take (n - 1) bs) ≡ true →
    IsFront java_lexis (39 ∷ bs) (1 + n) (Token Character)
character_front bs n e h = rw one-add (literal_front 39 bs is_character Character character_kind (λ xs. refl)
    (λ xs h. (and_parts _ _ h).0) refl n e (character_is bs n e ∙ h))

pub character_bad : (bs : List ℕ) (n : ℕ) → quoted_len 39 bs ≡ Some n → is_one_character (take (n - 1) bs) ≡ false →
    java_fault (39 ∷ bs) ≡ Some BadLiteral
character_bad bs n e h = literal_bad 39 bs is_character Character character_kind (λ xs. refl)
    (λ xs h. (and_parts _ _ h).0) refl n e (character_is bs n e ∙ h)

-- ---- signs

begins_take : (bs : List ℕ) (k : ℕ) → begins_with_digit (take k bs) ≡ true → begins_with_digit bs ≡ true
begins_take bs zero h = absurd (false≢true h)
begins_take [] (suc k) h = h
begins_take (c ∷ cs) (suc k) h = h

starts_take : (x y b : ℕ) (bs : List ℕ) (k : ℕ) → starts_with nat_eq (b ∷ take k bs) (x ∷ y ∷ []) ≡ true →
    starts_with nat_eq (b ∷ bs) (x ∷ y ∷ []) ≡ true
starts_take x y b bs zero h = absurd (false≢true (and_parts (nat_eq x b) false h).1)
starts_take x y b [] (suc k) h = h
starts_take x y b (c ∷ cs) (suc k) h = h

nil_case : (t : List ℕ) (b : ℕ) (ts : List (List ℕ)) (v : Bool) → begins_with b t ≡ v → is_listed ts [] ≡ false →
    is_listed (cond v (t ∷ ts) ts) [] ≡ false
nil_case [] b ts true e ih = absurd (false≢true e)
nil_case (c ∷ cs) b ts true e ih = ih
nil_case t b ts false e ih = ih

nil_listed : (table : List (List ℕ)) (b : ℕ) → is_listed (filter (begins_with b) table) [] ≡ false
nil_listed [] b = refl
nil_listed (t ∷ ts) b = nil_case t b (filter (begins_with b) ts) (begins_with b t) refl (nil_listed ts b)

nil_sign : (b : ℕ) → is_listed (signs_with b) [] ≡ false
unfolding signs_with
nil_sign b = nil_listed signs b

module _ (b : ℕ) (bs : List ℕ) (small : b < 256) (white : is_white b ≡ false) (letter : is_letter b ≡ false)
    (number : begins_number (b ∷ bs) ≡ false) (two : b ≡ 34 → ⊥) (one : b ≡ 39 → ⊥)
    (line : starts_with nat_eq (b ∷ bs) (codes "//") ≡ false)
    (block : starts_with nat_eq (b ∷ bs) (codes "/*") ≡ false) where
  no_number : (k : ℕ) → begins_number (b ∷ take k bs) ≡ false
  no_number k = false_from_ne_true (begins_number (b ∷ take k bs))
      (λ h. elim (or_cases (is_digit b) ((b == 46) && begins_with_digit (take k bs)) h) [
        | inl e ↦ false≢true (sym number ∙ or_left (is_digit b) ((b == 46) && begins_with_digit bs) e)
        | inr e ↦ false≢true (sym number ∙ or_right (is_digit b) ((b == 46) && begins_with_digit bs)
            (let dot : (b == 46) ≡ true = (and_parts _ _ e).0 in
            rw (dot, begins_take bs k (and_parts (b == 46) (begins_with_digit (take k bs)) e).1) refl))
      ])

  no_comment : (k : ℕ) → is_comment (b ∷ take k bs) ≡ false
  no_comment k = false_from_ne_true (is_comment (b ∷ take k bs))
      (λ h. elim (or_cases (is_line_comment (b ∷ take k bs)) (is_block_comment (b ∷ take k bs)) h) [
        | inl e ↦ false≢true (sym line ∙ starts_take 47 47 b bs k
            (and_parts (starts_with nat_eq (b ∷ take k bs) (codes "//")) (list_all is_inline (drop 2 (b ∷ take k bs)))
            e).0)
        | inr e ↦ false≢true (sym block ∙ starts_take 47 42 b bs k
            (and_parts (starts_with nat_eq (b ∷ take k bs) (codes "/*")) (ends_closed (drop 2 (b ∷ take k bs))) e).0)
      ])

  sign_kind : (k : ℕ) → java_kind (b ∷ take k bs) ≡ cond (is_sign (b ∷ take k bs)) (Some (Token Sign)) None
  sign_kind k = rw (white, no_comment k, letter, no_number k, different b 39 one, different b 34 two) refl

  sign_fault : java_fault (b ∷ bs) ≡ unless_front is_piece BadCharacter (b ∷ bs)
  sign_fault = rw (block, different 34 b (λ e. two (sym e)), different 39 b (λ e. one (sym e))) refl

  sign_listed : (k : ℕ) → IsSome (java_kind (b ∷ take k bs)) → is_listed (signs_with b) (b ∷ take k bs) ≡ true
  sign_listed k s = signs_listed b (take k bs)
      ∙ if_some (is_sign (b ∷ take k bs)) (Token Sign) (subst IsSome (sign_kind k) s)

  sign_longest : (n : ℕ) → IsLongestIn (signs_with b) (b ∷ bs) n → (m : ℕ) → m ≤ length (b ∷ bs) →
      IsSome (java_kind (take m (b ∷ bs))) → m ≤ n
  sign_longest n f zero le s = omega arith
  sign_longest n f (suc k) le s = f.longest (suc k) le (sign_listed k s)

  sign_case : (n : ℕ) → IsLongestIn (signs_with b) (b ∷ bs) n → IsFront java_lexis (b ∷ bs) n (Token Sign)
  sign_case zero f = absurd (false≢true (sym (nil_sign b) ∙ f.is))
  sign_case (suc k) f =
      let is : java_kind (b ∷ take k bs) ≡ Some (Token Sign) =
      sign_kind k ∙ ap (λ v. cond v (Some (Token Sign)) None) (sym (signs_listed b (take k bs)) ∙ f.is) in
      front_of (b ∷ bs) (suc k) (Token Sign) (omega arith) f.fits is (sign_longest (suc k) f)
      (sign_fault ∙ no_bad (b ∷ bs) (suc k) (Token Sign) (omega arith) f.fits is)

  pub sign_front : (n : ℕ) → first_len (signs_with b) (b ∷ bs) ≡ Some n → IsFront java_lexis (b ∷ bs) n (Token Sign)
  sign_front n e = sign_case n (sign_found (signs_with b) (b ∷ bs) n (signs_fall b small) e)

  none_front : first_len (signs_with b) (b ∷ bs) ≡ None → (m : ℕ) → 0 < m → m ≤ length (b ∷ bs) →
      is_piece (take m (b ∷ bs)) ≡ true → ⊥
  none_front e zero some le h = omega arith
  none_front e (suc k) some le h = sign_missing (signs_with b) (b ∷ bs) e (suc k) le (sign_listed k h)

  pub no_token : first_len (signs_with b) (b ∷ bs) ≡ None → java_fault (b ∷ bs) ≡ Some BadCharacter
  no_token e = sign_fault ∙ rw (no_front is_piece (b ∷ bs) (none_front e)) refl
