-- The lines of a text, cut one after the other, and the edits that they are.
use Rattle.std.proofs.Common.{◌≡◌, ℕ, suc, ◌+◌, ◌<◌, ◌≤◌, Bool, true, false, not, ◌&&◌, cond, nat_lt, nat_eq, bytes_eq}
use Rattle.std.proofs.Common.{List, [], ◌∷◌, ◌++◌, Result, Ok, Err, length, take, drop, map, refl, sym, ap, subst, ◌∙◌}
use Rattle.std.proofs.Common.{arith, append_assoc, append-nil, length-drop, Vec, Global, MatchOption}
use Rattle.std.proofs.lemmas.Bool.Decides.{nat_tests}
use Rattle.std.proofs.lemmas.List.{take_all, drop_all, map_push, length_push}
use Rattle.std.proofs.lemmas.List.Folds.{list_any_at, list_any_none}
use Rattle.std.proofs.lemmas.List.Sums.{fails_before_first, passes_at_first}
use Rattle.std.specs.List.{after_first, before_first, list_any, position_or_len}
use Rattle.std.specs.Str.{is_utf8}
use Rattle.racer_base.specs.Outside.{same_name}
use Rattle.racer_base.specs.declared.limits.TheConstants.{MAX_FILE_BYTES}
use Rattle.racer_run_edits.specs.declared.edit_lines.EditLine.{EditLine}
use Rattle.racer_run_edits.specs.declared.edit_lines.TheConstants.{MAX_EDITS}
use Rattle.racer_run_edits.specs.Edits.{Edit, NoEdits, TooLong, BadLine, begun, edit_of, edits_from, edits_in, is_edit}
use Rattle.racer_run_edits.specs.Edits.{is_space, is_word, lines, put}
use Rattle.racer_run_edits.specs.EditLines.{byte_is, seen}

-- ---- lines

abbrev line_end : List ℕ → ℕ
line_end = position_or_len (byte_is 10)

-- a text with a byte is its first line and the lines behind it
lines_first : (b : ℕ) (bs : List ℕ)
    → lines (b ∷ bs) ≡ before_first (byte_is 10) (b ∷ bs) ∷ lines (after_first (byte_is 10) (b ∷ bs))
unfolding lines
lines_first b [] =
    elim (nat_eq b 10) as (λ t. cond t ([] ∷ []) ((b ∷ []) ∷ [])
    ≡ take (cond (not t) (1 + 0) 0) (b ∷ []) ∷ lines (drop (cond (not t) (1 + 0) 0 + 1) (b ∷ []))) [
      | true ↦ refl
      | false ↦ refl
    ]
lines_first b (c ∷ cs) =
    let n = line_end (c ∷ cs) in
    let one_more : 1 + n ≡ suc n = omega arith in
    let two_more : (1 + n) + 1 ≡ suc (n + 1) = omega arith in
    elim (nat_eq b 10) as (λ t. cond t ([] ∷ lines (c ∷ cs)) (begun b (lines (c ∷ cs)))
    ≡ take (cond (not t) (1 + n) 0) (b ∷ c ∷ cs) ∷ lines (drop (cond (not t) (1 + n) 0 + 1) (b ∷ c ∷ cs))) [
      | true ↦ refl
      | false ↦
          ap (begun b) (lines_first c cs)
          ∙ ap (λ (k : ℕ). take k (b ∷ c ∷ cs) ∷ lines (drop (n + 1) (c ∷ cs))) (sym one_more)
          ∙ ap (λ (k : ℕ). take (1 + n) (b ∷ c ∷ cs) ∷ lines (drop k (b ∷ c ∷ cs))) (sym two_more)
    ]

pub cut_here : (text : List ℕ) (end : ℕ) → end ≡ line_end text → end < length text
    → (lines text ≡ take end text ∷ lines (drop (end + 1) text)) × (length (drop (end + 1) text) < length text)
cut_here [] end e h = absurd (let bad : end < 0 = h in omega arith)
cut_here (b ∷ bs) end e h = (
  subst (λ (n : ℕ). lines (b ∷ bs) ≡ take n (b ∷ bs) ∷ lines (drop (n + 1) (b ∷ bs))) (sym e) (lines_first b bs),
  omega (arith, length-drop (end + 1) (b ∷ bs), h),
)

pub cut_last : (text : List ℕ) (end : ℕ) → 0 < length text → end ≡ line_end text → length text ≤ end
    → (lines text ≡ text ∷ lines (drop end text)) × (length (drop end text) < length text)
cut_last [] end some e h = absurd (let bad : 0 < 0 = some in omega arith)
cut_last (b ∷ bs) end some e h = (
  subst (λ (n : ℕ). lines (b ∷ bs) ≡ take n (b ∷ bs) ∷ lines (drop (n + 1) (b ∷ bs))) (sym e) (lines_first b bs)
      ∙ ap (λ (first : List ℕ). first ∷ lines (drop (end + 1) (b ∷ bs))) (take_all end (b ∷ bs) h)
      ∙ ap (λ (rest : List ℕ). (b ∷ bs) ∷ lines rest)
      (drop_all (end + 1) (b ∷ bs) (omega (arith, h)) ∙ sym (drop_all end (b ∷ bs) h)),
  omega (arith, length-drop end (b ∷ bs), h, some),
)

-- ---- a line

pub some_first : (p : ℕ → Bool) (xs : List ℕ) → position_or_len p xs < length xs → list_any p xs ≡ true
some_first p xs h = list_any_at p xs (position_or_len p xs) 0 h (passes_at_first p xs 0 h)

pub none_first : (p : ℕ → Bool) (xs : List ℕ) → length xs ≤ position_or_len p xs → list_any p xs ≡ false
none_first p xs h = list_any_none p xs (λ k d lt. fails_before_first p xs k d (omega (arith, lt, h)))

spaced : (a u : Bool) → (not a && not true && u) ≡ false
spaced true u = refl
spaced false u = refl

unread : (a b : Bool) → (not a && not b && false) ≡ false
unread true b = refl
unread false true = refl
unread false false = refl

has_bytes : (xs : List ℕ) → 0 < length xs → bytes_eq xs [] ≡ false
has_bytes [] some = absurd (let bad : 0 < 0 = some in omega arith)
has_bytes (x ∷ xs) some = refl

pub no_spaced_word : (bytes : List ℕ) → list_any is_space bytes ≡ true → is_word bytes ≡ false
no_spaced_word bytes is =
    ap (λ (b : Bool). not (bytes_eq bytes []) && not b && is_utf8 bytes) is ∙ spaced (bytes_eq bytes []) (is_utf8 bytes)

pub no_unread_word : (bytes : List ℕ) → is_utf8 bytes ≡ false → is_word bytes ≡ false
no_unread_word bytes is =
    ap (λ (u : Bool). not (bytes_eq bytes []) && not (list_any is_space bytes) && u) is
    ∙ unread (bytes_eq bytes []) (list_any is_space bytes)

pub one_word : (bytes : List ℕ) → 0 < length bytes → list_any is_space bytes ≡ false → is_utf8 bytes ≡ true
    → is_word bytes ≡ true
one_word bytes some none read =
    ap (λ (a : Bool). not a && not (list_any is_space bytes) && is_utf8 bytes) (has_bytes bytes some)
    ∙ ap (λ (b : Bool). not false && not b && is_utf8 bytes) none
    ∙ read

all_hold : (a b c d : Bool) → a ≡ true → b ≡ true → c ≡ true → d ≡ true → (a && b && c && d) ≡ true
all_hold a b c d is_a is_b is_c is_d =
    ap (λ (x : Bool). x && b && c && d) is_a ∙ ap (λ (x : Bool). true && x && c && d) is_b
    ∙ ap (λ (x : Bool). true && true && x && d) is_c ∙ is_d

abbrev edit_with : List ℕ → List ℕ → Edit
edit_with file content = record { file = file; content = content }

pub is_one_edit : (sources : List (List ℕ)) (line file content : List ℕ) (space : ℕ)
    → space ≡ position_or_len (byte_is 32) line → space < length line
    → (is_word (take space line) ≡ true) × (file ≡ take space line)
    → (is_word (drop (space + 1) line) ≡ true) × (content ≡ drop (space + 1) line)
    → list_any (same_name file) sources ≡ true
    → (is_edit sources line ≡ true) × (edit_with file content ≡ edit_of line)
is_one_edit sources line file content space is few named contained stands =
    let at : ℕ = position_or_len (byte_is 32) line in
    let named_at : (is_word (take at line) ≡ true) × (file ≡ take at line) =
    subst (λ (n : ℕ). (is_word (take n line) ≡ true) × (file ≡ take n line)) is named in
    let contained_at : (is_word (drop (at + 1) line) ≡ true) × (content ≡ drop (at + 1) line) =
    subst (λ (n : ℕ). (is_word (drop (n + 1) line) ≡ true) × (content ≡ drop (n + 1) line)) is contained in (
      all_hold (list_any is_space line) (is_word (take at line)) (is_word (drop (at + 1) line))
          (list_any (same_name (take at line)) sources)
          (some_first (byte_is 32) line (subst (λ (n : ℕ). n < length line) is few)) named_at.0 contained_at.0
          (subst (λ (name : List ℕ). list_any (same_name name) sources ≡ true) named_at.1 stands),
      ap (λ (f : List ℕ). edit_with f content) named_at.1 ∙ ap (λ (g : List ℕ). edit_with (take at line) g) contained_at.1,
    )

-- ---- the edits of lines

abbrev behind : List Edit → Result (List Edit) NoEdits → Result (List Edit) NoEdits
behind made (Ok edits) = Ok (made ++ edits)
behind made (Err why) = Err why

behind-put : (made : List Edit) (edit : Edit) (rest : Result (List Edit) NoEdits)
    → behind made (put edit rest) ≡ behind (made ++ edit ∷ []) rest
behind-put made edit (Ok edits) = ap (λ (es : List Edit). Ok es) (sym (append_assoc made (edit ∷ []) edits))
behind-put made edit (Err why) = refl

-- what was made of the lines before the rest, and what these make, is what all of them make
pub record Makes (sources : List (List ℕ)) (bytes : List ℕ) (edits : List EditLine) (rest : List ℕ) : Type 0 where
  pub all : edits_in sources bytes ≡ behind (map seen edits) (edits_from sources (length edits + 1) (lines rest))

not_more : (most n : ℕ) → n ≤ most → nat_lt most n ≡ false
not_more most n few = grind (arith, nat_tests, few)

more : (most n : ℕ) → most < n → nat_lt most n ≡ true
more most n many = grind (arith, nat_tests, many)

pub makes_all : (sources : List (List ℕ)) (bytes : List ℕ) (none : List EditLine) → length bytes ≤ MAX_FILE_BYTES
    → none ≡ [] → Makes sources bytes none bytes
makes_all sources bytes none few is =
    subst (λ (edits : List EditLine). Makes sources bytes edits bytes) (sym is) (record { all = in_limits ∙ whole })
  where
    in_limits : edits_in sources bytes ≡ edits_from sources 1 (lines bytes)
    in_limits = ap (λ (b : Bool). cond b (Err TooLong) (edits_from sources 1 (lines bytes)))
        (not_more MAX_FILE_BYTES (length bytes) few)

    nothing : (r : Result (List Edit) NoEdits) → r ≡ behind [] r
    nothing (Ok edits) = refl
    nothing (Err why) = refl

    whole : edits_from sources 1 (lines bytes) ≡ behind [] (edits_from sources 1 (lines bytes))
    whole = nothing (edits_from sources 1 (lines bytes))

module _ (sources : List (List ℕ)) (bytes line : List ℕ) (edits : List EditLine) (rest after : List ℕ)
    (makes : Makes sources bytes edits rest) (cut : lines rest ≡ line ∷ lines after) where
  number : ℕ
  number = length edits + 1

  -- what its first line makes
  at_line : edits_in sources bytes
      ≡ behind (map seen edits) (edits_from sources (length edits + 1) (line ∷ lines after))
  at_line = makes.all
      ∙ ap (λ (ls : List (List ℕ)). behind (map seen edits) (edits_from sources (length edits + 1) ls)) cut

  pub one_too_many : MAX_EDITS < length edits + 1 → edits_in sources bytes ≡ Err (BadLine (length edits + 1))
  one_too_many many =
      at_line
      ∙ ap (λ (b : Bool). behind (map seen edits) (cond b (Err (BadLine (length edits + 1)))
      (cond (is_edit sources line) (put (edit_of line) (edits_from sources (suc (length edits + 1)) (lines after)))
      (Err (BadLine (length edits + 1)))))) (more MAX_EDITS (length edits + 1) many)

  -- by whether it is an edit
  by_test : (b : Bool) → length edits + 1 ≤ MAX_EDITS → is_edit sources line ≡ b
      → edits_in sources bytes ≡ behind (map seen edits)
      (cond b (put (edit_of line) (edits_from sources (suc (length edits + 1)) (lines after)))
      (Err (BadLine (length edits + 1))))
  by_test b few is =
      at_line
      ∙ ap (λ (t : Bool). behind (map seen edits) (cond t (Err (BadLine (length edits + 1)))
      (cond (is_edit sources line) (put (edit_of line) (edits_from sources (suc (length edits + 1)) (lines after)))
      (Err (BadLine (length edits + 1)))))) (not_more MAX_EDITS (length edits + 1) few)
      ∙ ap (λ (t : Bool). behind (map seen edits)
      (cond t (put (edit_of line) (edits_from sources (suc (length edits + 1)) (lines after)))
      (Err (BadLine (length edits + 1))))) is

  pub no_edit : length edits + 1 ≤ MAX_EDITS → is_edit sources line ≡ false
      → edits_in sources bytes ≡ Err (BadLine (length edits + 1))
  no_edit few is = by_test false few is

  pub one_edit : (edit : EditLine) (new : List EditLine) → length edits + 1 ≤ MAX_EDITS
      → (is_edit sources line ≡ true) × (seen edit ≡ edit_of line) → new ≡ edits ++ edit ∷ []
      → Makes sources bytes new after
  one_edit edit new few is put_behind =
      let many : suc (length edits + 1) ≡ length new + 1 =
      let count : length new ≡ length edits + 1 = ap length put_behind ∙ length_push edits edit in
      omega (arith, count) in
      let all : map seen new ≡ map seen edits ++ edit_of line ∷ [] =
      ap (map seen) put_behind ∙ map_push seen edits edit
      ∙ ap (λ (e : Edit). map seen edits ++ e ∷ []) is.1 in
      record {
        all = by_test true few is.0
            ∙ behind-put (map seen edits) (edit_of line) (edits_from sources (suc (length edits + 1)) (lines after))
            ∙ ap (λ (es : List Edit). behind es (edits_from sources (suc (length edits + 1)) (lines after))) (sym all)
            ∙ ap (λ (n : ℕ). behind (map seen new) (edits_from sources n (lines after))) many;
      }

-- where no line is left
pub makes_them : (sources : List (List ℕ)) (bytes : List ℕ) (edits : List EditLine) (rest : List ℕ)
    → Makes sources bytes edits rest → rest ≡ [] → edits_in sources bytes ≡ Ok (map seen edits)
unfolding lines
makes_them sources bytes edits rest makes none =
    makes.all
    ∙ ap (λ (text : List ℕ). behind (map seen edits) (edits_from sources (length edits + 1) (lines text))) none
    ∙ ap (λ (es : List Edit). Ok es) (append-nil (map seen edits))
