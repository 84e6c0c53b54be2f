-- A contract of a public call rests on this: reading types from tokens (JLS 4).
use Rattle.std.specs.Prelude.{◌≡◌, ℕ, zero, suc, Bool, true, false, not, ◌&&◌, ◌||◌, List, [], ◌∷◌, length, Option}
use Rattle.std.specs.Prelude.{Some}
use Rattle.std.specs.Prelude.{None, codes, bytes_eq, nat_lt, if◌then◌else◌}
use Rattle.racer_base.specs.Name.{is_listed}
use Rattle.java_tree.specs.declared.words.Spelled.{Spelled}
use Rattle.java_tree.specs.Trees.{Ty, Typed, Base, Plain, Named, Parts, no_part, part_then, Part, Bare, Generic}
use Rattle.java_tree.specs.Trees.{Arguments, Angled, no_argument, argument_then, Argument, Exact, Any, Extends}
use Rattle.java_tree.specs.Trees.{Super, pack_parts, pack_arguments}
use Rattle.java_tree.specs.Brackets.{is_sign_kind, is_name_kind, is_sign, is_keyword, is_word_name}
use Rattle.java_tree.specs.Operators.{is_signed}
use Rattle.java_tree.specs.Formed.{is_plain_word, is_literal, are_types}
use Rattle.java_tree.specs.Brackets.{is_keyword_kind}
use Rattle.java_parser_grammar.specs.Taking.{◌>>=◌, match_option, match_number, after_sign, after_keyword}
use Rattle.java_parser_grammar.specs.Taking.{after_name}
use Rattle.java_parser_grammar.specs.Taking.{after_angle, commas}

-- ---- words, points and brackets

-- the word of a primitive type and the tokens behind it
abbrev pub after_plain : List Spelled → Option (List ℕ × List Spelled)
after_plain [] = None
after_plain (t ∷ ts) = if is_keyword_kind t.kind && (not t.glued && is_plain_word t.text) then Some (t.text, ts) else
    None

-- the tokens behind `[ ]`
abbrev pub after_brackets : List Spelled → Option (List Spelled)
after_brackets ts = after_sign (codes "[") ts >>= λ r. after_sign (codes "]") r

-- ---- type arguments or a comparison (JLS 15.20)

-- whether the token is a primitive type
abbrev pub is_plain_type : Spelled → Bool
is_plain_type t = is_keyword_kind t.kind && (not t.glued && is_plain_word t.text)

-- whether the token is a `>`, glued or not
abbrev pub is_angle_sign : Spelled → Bool
is_angle_sign t = is_sign_kind t.kind && bytes_eq t.text (codes ">")

-- whether the token may stand among type arguments, brackets of all kinds left out
abbrev pub in_arguments : Spelled → Bool
in_arguments t =
    is_word_name t || (is_plain_type t || (is_sign (codes ".") t || (is_sign (codes ",") t || (is_sign (codes "?") t
    || (is_keyword (codes "extends") t || is_keyword (codes "super") t)))))

-- the keywords that begin an operand
abbrev pub opens_word : List ℕ → Bool
opens_word text =
    is_listed (codes "this" ∷ codes "new" ∷ codes "super" ∷ codes "void" ∷ []) text || is_plain_word text

-- the signs that begin an operand and are no operators between operands
abbrev pub opens : List ℕ → Bool
opens text = is_listed (codes "(" ∷ codes "!" ∷ codes "~" ∷ []) text

-- whether an operand may begin with this token, or it belongs to a shift
abbrev pub begins_operand : Spelled → Bool
begins_operand t =
    t.glued || (is_name_kind t.kind || (is_literal t.kind || ((is_keyword_kind t.kind && opens_word t.text)
    || (is_sign_kind t.kind && (opens t.text || is_signed t.text)))))

-- no operand stands behind type arguments
abbrev pub no_operand_at : List Spelled → Bool
no_operand_at [] = true
no_operand_at (t ∷ ts) = not (begins_operand t)

abbrev mutual
  -- whether the tokens close one more than so many type arguments, with no operand behind the last `>`: behind a `<`
  -- that is no operator. At most `limit` stand in one another behind that `<`, so that a `<` that no `>` closes is not
  -- looked at to the end of the tokens
  pub closes_angle : (limit depth : ℕ) → List Spelled → Bool
  closes_angle l d [] = false
  closes_angle l d (t ∷ ts) =
      if is_sign (codes "<") t then nat_lt d l && closes_angle l (suc d) ts
      else (if is_angle_sign t then match_number d (no_operand_at ts) (λ e. closes_angle l e ts)
      else (if is_sign (codes "[") t then closes_bracket l d ts else in_arguments t && closes_angle l d ts))

  -- the same where a `]` has to stand
  pub closes_bracket : (limit depth : ℕ) → List Spelled → Bool
  closes_bracket l d [] = false
  closes_bracket l d (t ∷ ts) = is_sign (codes "]") t && closes_angle l d ts

-- no type arguments that were begun before end in the tokens
abbrev pub EndsNoTypes : List Spelled → Type 0
EndsNoTypes ts = (limit depth : ℕ) → closes_angle limit depth ts ≡ false

-- the tokens behind a `<` that begins type arguments
abbrev pub after_less : (limit : ℕ) → List Spelled → Option (List Spelled)
after_less l ts = after_sign (codes "<") ts >>= λ r. if closes_angle l 0 r then Some r else None

-- ---- brackets

-- the number of `[ ]` in front, at most m, and the tokens behind them
unfoldable pub brackets_at : ℕ → List Spelled → ℕ × List Spelled
brackets_at zero ts = (0, ts)
brackets_at (suc m) ts = match_option (after_brackets ts) (0, ts) (λ r. let b = brackets_at m r in (suc b.0, b.1))

-- what is read behind each point, as long as points come, at most m times
unfoldable pub points : {A : Type 0} → (List Spelled → Option (A × List Spelled)) → ℕ → List Spelled → Option (List A
    × List Spelled)
points read zero ts = Some ([], ts)
points read (suc m) ts = match_option (after_sign (codes ".") ts) (Some ([], ts)) (λ r. do
  first ← read r
  others ← points read m first.1
  Some (first.0 ∷ others.0, others.1))

-- ---- type arguments and parts, from a reading of types

-- what stands behind a `?`
abbrev pub wildcard_with : (List Spelled → Option (Ty × List Spelled)) → List Spelled → Option (Argument × List Spelled)
wildcard_with read ts =
    match_option (after_keyword (codes "extends") ts)
    (match_option (after_keyword (codes "super") ts) (Some (Any, ts)) (λ r. do
      t ← read r
      Some (Super t.0, t.1)))
    (λ r. do
      t ← read r
      Some (Extends t.0, t.1))

-- a type argument (JLS 4.5.1)
abbrev pub argument_with : (List Spelled → Option (Ty × List Spelled)) → List Spelled → Option (Argument × List Spelled)
argument_with read ts =
    match_option (after_sign (codes "?") ts)
    (do
      t ← read ts
      Some (Exact t.0, t.1))
    (λ r. wildcard_with read r)

-- type arguments behind their `<`, and the `>`
unfoldable pub angled_with : (List Spelled → Option (Ty × List Spelled)) → List Spelled → Option (Arguments
    × List Spelled)
angled_with read ts = do
  first ← argument_with read ts
  others ← commas (argument_with read) (length first.1) first.1
  angle ← after_angle others.1
  Some (Angled (argument_then first.0 (pack_arguments others.0)) angle.0, angle.1)

-- a name with or without type arguments
unfoldable pub part_with : (List Spelled → Option (Ty × List Spelled)) → List Spelled → Option (Part × List Spelled)
part_with read ts = do
  x ← after_name ts
  match_option (after_sign (codes "<") x.1) (Some (Bare x.0, x.1)) (λ r. do
    a ← angled_with read r
    Some (Generic x.0 a.0, a.1))

-- parts with points between them
abbrev pub named_with : (List Spelled → Option (Part × List Spelled)) → List Spelled → Option (Base × List Spelled)
named_with read ts = do
  first ← read ts
  others ← points read (length first.1) first.1
  Some (Named (part_then first.0 (pack_parts others.0)), others.1)

-- a primitive type, or parts that are read so
unfoldable pub base_with : (List Spelled → Option (Part × List Spelled)) → List Spelled → Option (Base × List Spelled)
base_with read ts = match_option (after_plain ts) (named_with read ts) (λ p. Some (Plain p.0, p.1))

-- ---- types

-- a base, and the `[ ]` behind it
abbrev pub arrays_behind : Base × List Spelled → Option (Ty × List Spelled)
arrays_behind b = let m = brackets_at (length b.1) b.1 in Some (Typed b.0 m.0, m.1)

-- a type of a nesting of at most n
unfoldable pub ty_at : ℕ → List Spelled → Option (Ty × List Spelled)
ty_at zero ts = None
ty_at (suc n) ts = base_with (part_with (ty_at n)) ts >>= arrays_behind

-- a name, with type arguments where a `<` behind it begins some, at most `limit` in one another behind it
unfoldable pub tested_part_with : (limit : ℕ) → (List Spelled → Option (Ty × List Spelled)) → List Spelled
    → Option (Part × List Spelled)
tested_part_with l read ts = do
  x ← after_name ts
  match_option (after_less l x.1) (Some (Bare x.0, x.1)) (λ r. do
    a ← angled_with read r
    Some (Generic x.0 a.0, a.1))

-- a type behind `instanceof`, where a `<` may be an operator (JLS 15.20.2)
unfoldable pub tested_ty_at : ℕ → List Spelled → Option (Ty × List Spelled)
tested_ty_at zero ts = None
tested_ty_at (suc n) ts = base_with (tested_part_with n (ty_at n)) ts >>= arrays_behind

-- types in angle brackets, where they stand (JLS 15.12, 15.13)
unfoldable pub types_at : ℕ → List Spelled → Option (Option Arguments × List Spelled)
types_at n ts = match_option (after_sign (codes "<") ts) (Some (None, ts)) (λ r. do
  a ← angled_with (ty_at n) r
  if are_types a.0 then Some (Some a.0, a.1) else None)

-- what is read behind each such sign, as long as one comes, at most m times
unfoldable pub behind_each : (text : List ℕ) → (List Spelled → Option (Ty × List Spelled)) → ℕ → List Spelled
    → Option (List Ty × List Spelled)
behind_each text read zero ts = Some ([], ts)
behind_each text read (suc m) ts = match_option (after_sign text ts) (Some ([], ts)) (λ r. do
  first ← read r
  others ← behind_each text read m first.1
  Some (first.0 ∷ others.0, others.1))

-- types with this sign between them
abbrev pub between_each : (text : List ℕ) → (List Spelled → Option (Ty × List Spelled)) → List Spelled
    → Option (List Ty × List Spelled)
between_each text read ts = do
  first ← read ts
  others ← behind_each text read (length first.1) first.1
  Some (first.0 ∷ others.0, others.1)

-- ---- what stands behind `new` (JLS 15.9, 15.10)

abbrev pub is_diamond : Part → Bool
is_diamond (Generic x (Angled no_argument glued)) = true
is_diamond _ = false

abbrev pub have_diamond : Parts → Bool
have_diamond no_part = false
have_diamond (part_then p ps) = is_diamond p || have_diamond ps

-- whether a part has `< >`
abbrev pub has_diamond : Base → Bool
has_diamond (Plain text) = false
has_diamond (Named ps) = have_diamond ps

-- a name with or without type arguments, or with `< >`
unfoldable pub made_part_with : (List Spelled → Option (Ty × List Spelled)) → List Spelled
    → Option (Part × List Spelled)
made_part_with read ts = do
  x ← after_name ts
  match_option (after_sign (codes "<") x.1) (Some (Bare x.0, x.1)) (λ r.
      match_option (after_angle r)
      (do
        a ← angled_with read r
        Some (Generic x.0 a.0, a.1))
      (λ g. Some (Generic x.0 (Angled no_argument g.0), g.1)))

-- parts with points between them, of which one with `< >` is the last
unfoldable pub made_parts_with : (List Spelled → Option (Ty × List Spelled)) → ℕ → List Spelled → Option (List Part
    × List Spelled)
made_parts_with read zero ts = None
made_parts_with read (suc m) ts = do
  p ← made_part_with read ts
  if is_diamond p.0 then Some (p.0 ∷ [], p.1) else match_option (after_sign (codes ".") p.1) (Some (p.0 ∷ [], p.1))
      (λ r. do
        others ← made_parts_with read m r
        Some (p.0 ∷ others.0, others.1))

-- the base of a type that a `new` makes
unfoldable pub made_base_with : (List Spelled → Option (Ty × List Spelled)) → List Spelled
    → Option (Base × List Spelled)
made_base_with read ts =
    match_option (after_plain ts)
    (do
      parts ← made_parts_with read (length ts) ts
      Some (Named (pack_parts parts.0), parts.1))
    (λ p. Some (Plain p.0, p.1))

-- the same, of a type of a nesting of at most n
unfoldable pub made_base_at : ℕ → List Spelled → Option (Base × List Spelled)
made_base_at zero ts = None
made_base_at (suc n) ts = made_base_with (ty_at n) ts
