-- A loop that looks for the `>` of type arguments, at the signs that count.
use Rattle.std.proofs.Common.{◌≡◌, ℕ, zero, suc, ◌+◌, ◌-◌, ◌<◌, ◌≤◌, Bool, true, false, List, [], ◌∷◌, ◌&&◌, Some}
use Rattle.std.proofs.Common.{None, nat_lt, arith, codes, if◌then◌else◌}
use Rattle.std.proofs.Common.{length, get_or, take, drop, nat_eq, refl}
use Rattle.std.proofs.Math.Bool.{and-false}
use Rattle.std.proofs.Math.Seq.{take-length}
use Rattle.std.proofs.lemmas.Bool.{lt-ltb}
use Rattle.java_lexer.specs.declared.token.Token.{Token}
use Rattle.java_tree.specs.declared.words.Spelled.{Spelled}
use Rattle.java_tree.specs.Words.{sign}
use Rattle.java_parser_types.specs.AngleSteps.{Steps}
use Rattle.java_parser_types.specs.declared.angles.AngleStep.TheVariants as step
use Rattle.java_parser_grammar.specs.Taking.{match_number, after_sign}
use Rattle.java_parser_grammar.specs.TypeReading.{closes_angle, closes_bracket, no_operand_at}
use Rattle.java_tree.specs.Brackets.{is_sign}

-- the first token and those behind it
pub first_and_rest : (ts : List Token) (d : Token) → 1 ≤ length ts → d ≡ get_or ts 0 d → ts ≡ d ∷ take (length ts - 1)
    (drop 1 ts)
first_and_rest [] d h e = absurd (omega arith)
first_and_rest (t ∷ ts) d h e =
    let k : length (t ∷ ts) - 1 ≡ length ts = omega arith in
    rw (e, k, take-length ts) refl

pub opened : (l d : ℕ) (ts : List Spelled) (total : Bool) → d < l → (nat_lt d l && closes_angle l (suc d) ts) ≡ total
    → closes_angle l (d + 1) ts ≡ total
opened l d ts total room e =
    let next : d + 1 ≡ suc d = omega arith in
    let less : nat_lt d l ≡ true = lt-ltb d l room in
    rw next (rw less at e)

pub closed : (l d : ℕ) (ts : List Spelled) (total : Bool) → 0 < d
    → match_number d (no_operand_at ts) (λ e. closes_angle l e ts) ≡ total → closes_angle l (d - 1) ts ≡ total
closed l zero ts total inside e = absurd (omega arith)
closed l (suc k) ts total inside e =
    let last : suc k - 1 ≡ k = omega arith in
    rw last e

pub bracketed : (l d : ℕ) (ts rest : List Spelled) (total : Bool) → after_sign (codes "]") ts ≡ Some rest
    → closes_bracket l d ts ≡ total → closes_angle l d rest ≡ total
bracketed l d [] rest total behind e = absurd cc
bracketed l d (t ∷ ts) rest total behind e =
    by_sign (is_sign (codes "]") t) behind e where
      by_sign : (b : Bool) → (if b then Some ts else None) ≡ Some rest → (b && closes_angle l d ts) ≡ total
          → closes_angle l d rest ≡ total
      by_sign true s k = let same : rest ≡ ts = cc in rw same k
      by_sign false s k = absurd cc

pub unbracketed : (l d : ℕ) (ts : List Spelled) (total : Bool) → after_sign (codes "]") ts ≡ None
    → closes_bracket l d ts ≡ total → false ≡ total
unbracketed l d [] total none e = e
unbracketed l d (t ∷ ts) total none e =
    by_sign (is_sign (codes "]") t) none e where
      by_sign : (b : Bool) → (if b then Some ts else None) ≡ None → (b && closes_angle l d ts) ≡ total → false ≡ total
      by_sign true s k = absurd cc
      by_sign false s k = k

-- no sign among type arguments is longer than a byte
pub other_sign : (text : List ℕ) → (length text ≡ 1 → ⊥) → Steps (sign text) step.Ends
other_sign [] long l d ts = refl
other_sign (a ∷ []) long l d ts = absurd (long refl)
other_sign (a ∷ (b ∷ bs)) long l d ts =
    rw (
      and-false (nat_eq a 60),
      and-false (nat_eq a 62),
      and-false (nat_eq a 91),
      and-false (nat_eq a 46),
      and-false (nat_eq a 44),
      and-false (nat_eq a 63),
    ) refl
