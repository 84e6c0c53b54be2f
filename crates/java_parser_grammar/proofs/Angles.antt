-- Formed types among type arguments are passed, as far as the limit of nesting has room for them; and where nothing
-- that was begun before ends behind them, nothing ends in them, whatever the limit.
use Rattle.std.proofs.Common.{◌≡◌, ℕ, zero, suc, ◌+◌, ◌≤◌, max, Bool, true, false, cond, ◌&&◌, List, [], ◌∷◌}
use Rattle.std.proofs.Common.{IsTrue, nat_lt, refl, ◌∙◌, arith, codes}
use Rattle.std.proofs.lemmas.Bool.{false≢true, lt-ltb, ltb-true}
use Rattle.java_tree.specs.declared.words.Spelled.{Spelled}
use Rattle.java_tree.specs.Words.{sign_glued, keyword}
use Rattle.java_tree.specs.Brackets.{is_sign}
use Rattle.java_tree.specs.Trees.{Ty, Typed, Base, Plain, Named, Parts, no_part, part_then, Part, Bare, Generic}
use Rattle.java_tree.specs.Trees.{Arguments, Angled, ArgumentList, no_argument, argument_then, Argument, Exact, Any}
use Rattle.java_tree.specs.Trees.{Extends, Super}
use Rattle.java_tree.specs.Spelling.{brackets_onto, ty_onto, base_onto, more_parts_onto, part_onto}
use Rattle.java_tree.specs.Spelling.{angled_onto, arguments_onto, more_arguments_onto, argument_onto}
use Rattle.java_tree.specs.Formed.{is_plain_word, FormedTy, FormedBase, FormedParts, FormedPart, FormedAngled}
use Rattle.java_tree.specs.Formed.{FormedArguments, FormedArgument, are_bare_parts}
use Rattle.java_tree.specs.Nesting.{ty_nesting, base_nesting, parts_nesting, part_nesting, angled_nesting}
use Rattle.java_tree.specs.Nesting.{arguments_nesting, argument_nesting}
use Rattle.java_parser_grammar.specs.Taking.{match_number}
use Rattle.java_parser_grammar.specs.TypeReading.{is_angle_sign, in_arguments, no_operand_at, closes_angle}
use Rattle.java_parser_grammar.specs.TypeReading.{closes_bracket, EndsNoTypes}

-- ---- types within the limit

-- the word of a primitive type is passed
pub plain_passes : (text : List ℕ) → is_plain_word text ≡ true → (l d : ℕ) (rest : List Spelled) → closes_angle l d
    (keyword text ∷ rest) ≡ closes_angle l d rest
plain_passes text w l d rest = rw w refl

pub brackets_pass : (m l d : ℕ) (rest : List Spelled) → closes_angle l d (brackets_onto m rest) ≡ closes_angle l d rest
brackets_pass zero l d rest = refl
brackets_pass (suc m) l d rest = brackets_pass m l d rest

-- a `>` closes the innermost
angle_passes : (glued : Bool) (l d : ℕ) (rest : List Spelled) → closes_angle l (suc d) (sign_glued glued (codes ">")
    ∷ rest) ≡ closes_angle l d rest
angle_passes true l d rest = refl
angle_passes false l d rest = refl

mutual
  -- a type is passed
  pub ty_passes : (t : Ty) → FormedTy t → (l d : ℕ) (rest : List Spelled) → d + ty_nesting t ≤ l → closes_angle l d
      (ty_onto t rest) ≡ closes_angle l d rest
  ty_passes (Typed b m) f l d rest fits =
      base_passes b f l d (brackets_onto m rest) (omega (arith, fits)) ∙ brackets_pass m l d rest

  base_passes : (b : Base) → FormedBase b → (l d : ℕ) (rest : List Spelled) → suc d + base_nesting b ≤ l
      → closes_angle l d (base_onto b rest) ≡ closes_angle l d rest
  base_passes (Plain text) f l d rest fits = plain_passes text f l d rest
  base_passes (Named no_part) f l d rest fits = refl
  base_passes (Named (part_then p ps)) f l d rest fits =
      part_passes p f.0.0 l d (more_parts_onto ps rest) (omega arith) ∙ parts_pass ps f.0.1 l d rest (omega arith)

  parts_pass : (ps : Parts) → FormedParts ps → (l d : ℕ) (rest : List Spelled) → suc d + parts_nesting ps ≤ l
      → closes_angle l d (more_parts_onto ps rest) ≡ closes_angle l d rest
  parts_pass no_part f l d rest fits = refl
  parts_pass (part_then p ps) f l d rest fits =
      part_passes p f.0 l d (more_parts_onto ps rest) (omega arith) ∙ parts_pass ps f.1 l d rest (omega arith)

  part_passes : (p : Part) → FormedPart p → (l d : ℕ) (rest : List Spelled) → suc d + part_nesting p ≤ l
      → closes_angle l d (part_onto p rest) ≡ closes_angle l d rest
  part_passes (Bare x) f l d rest fits = refl
  part_passes (Generic x a) f l d rest fits = angled_passes a f l d rest fits

  -- type arguments in their brackets are passed
  angled_passes : (a : Arguments) → FormedAngled a → (l d : ℕ) (rest : List Spelled) → suc d + angled_nesting a ≤ l
      → closes_angle l d (angled_onto a rest) ≡ closes_angle l d rest
  angled_passes (Angled list g) f l d rest fits =
      rw (lt-ltb d l (omega arith)) (arguments_pass list f.0 l (suc d) (sign_glued g (codes ">") ∷ rest) fits
      ∙ angle_passes g l d rest)

  arguments_pass : (list : ArgumentList) → FormedArguments list → (l d : ℕ) (rest : List Spelled)
      → d + arguments_nesting list ≤ l → closes_angle l d (arguments_onto list rest) ≡ closes_angle l d rest
  arguments_pass no_argument f l d rest fits = refl
  arguments_pass (argument_then a others) f l d rest fits =
      argument_passes a f.0 l d (more_arguments_onto others rest) (omega arith)
      ∙ more_pass others f.1 l d rest (omega arith)

  more_pass : (others : ArgumentList) → FormedArguments others → (l d : ℕ) (rest : List Spelled)
      → d + arguments_nesting others ≤ l → closes_angle l d (more_arguments_onto others rest) ≡ closes_angle l d rest
  more_pass no_argument f l d rest fits = refl
  more_pass (argument_then a others) f l d rest fits =
      argument_passes a f.0 l d (more_arguments_onto others rest) (omega arith)
      ∙ more_pass others f.1 l d rest (omega arith)

  argument_passes : (a : Argument) → FormedArgument a → (l d : ℕ) (rest : List Spelled) → d + argument_nesting a ≤ l
      → closes_angle l d (argument_onto a rest) ≡ closes_angle l d rest
  argument_passes (Exact t) f l d rest fits = ty_passes t f l d rest fits
  argument_passes Any f l d rest fits = refl
  argument_passes (Extends t) f l d rest fits = ty_passes t f l d rest fits
  argument_passes (Super t) f l d rest fits = ty_passes t f l d rest fits

-- a `<` behind a name begins these type arguments, where no operand stands behind them
pub angled_closes : (list : ArgumentList) (glued : Bool) → FormedArguments list → (l : ℕ) (rest : List Spelled)
    → arguments_nesting list ≤ l → closes_angle l 0 (arguments_onto list (sign_glued glued (codes ">") ∷ rest))
    ≡ no_operand_at rest
angled_closes list true f l rest fits =
    arguments_pass list f l 0 (sign_glued true (codes ">") ∷ rest) (omega (arith, fits))
angled_closes list false f l rest fits =
    arguments_pass list f l 0 (sign_glued false (codes ">") ∷ rest) (omega (arith, fits))

-- names are passed
pub bare_pass : (ps : Parts) → IsTrue (are_bare_parts ps) → (l d : ℕ) (rest : List Spelled) → closes_angle l d
    (more_parts_onto ps rest) ≡ closes_angle l d rest
bare_pass no_part f l d rest = refl
bare_pass (part_then (Bare x) ps) f l d rest = bare_pass ps f l d rest
bare_pass (part_then (Generic x a) ps) f l d rest = absurd (false≢true f)

-- ---- other limits

-- a smaller limit closes no more
module _ (l m : ℕ) (less : l ≤ m) where
  less_room : (d : ℕ) (b c : Bool) → (b ≡ false → c ≡ false) → nat_lt d m && b ≡ false → nat_lt d l && c ≡ false
  less_room d b c within e = by_test (nat_lt d l) refl where
    by_test : (room : Bool) → nat_lt d l ≡ room → room && c ≡ false
    by_test true is =
        let more : nat_lt d m ≡ true = lt-ltb d m (omega (arith, ltb-true d l is)) in
        within (rw more at e)
    by_test false is = refl

  by_token : (less angle opens inside : Bool) (ts : List Spelled) (d : ℕ) → ((k : ℕ) → closes_angle m k ts ≡ false
      → closes_angle l k ts ≡ false) → (closes_bracket m d ts ≡ false → closes_bracket l d ts ≡ false)
      → cond less (nat_lt d m && closes_angle m (suc d) ts) (cond angle (match_number d (no_operand_at ts)
      (λ k. closes_angle m k ts)) (cond opens (closes_bracket m d ts) (inside && closes_angle m d ts))) ≡ false
      → cond less (nat_lt d l && closes_angle l (suc d) ts) (cond angle (match_number d (no_operand_at ts)
      (λ k. closes_angle l k ts)) (cond opens (closes_bracket l d ts) (inside && closes_angle l d ts))) ≡ false
  by_token true angle opens inside ts d within behind e =
      less_room d (closes_angle m (suc d) ts) (closes_angle l (suc d) ts) (within (suc d)) e
  by_token false true opens inside ts zero within behind e = e
  by_token false true opens inside ts (suc k) within behind e = within k e
  by_token false false true inside ts d within behind e = behind e
  by_token false false false true ts d within behind e = within d e
  by_token false false false false ts d within behind e = refl

  by_bracket : (closes : Bool) (ts : List Spelled) (d : ℕ) → (closes_angle m d ts ≡ false → closes_angle l d ts
      ≡ false) → closes && closes_angle m d ts ≡ false → closes && closes_angle l d ts ≡ false
  by_bracket true ts d within e = within e
  by_bracket false ts d within e = refl

  mutual
    angle_within : (ts : List Spelled) (d : ℕ) → closes_angle m d ts ≡ false → closes_angle l d ts ≡ false
    angle_within [] d e = refl
    angle_within (t ∷ ts) d e =
        by_token (is_sign (codes "<") t) (is_angle_sign t) (is_sign (codes "[") t) (in_arguments t) ts d
        (λ k. angle_within ts k) (bracket_within ts d) e

    bracket_within : (ts : List Spelled) (d : ℕ) → closes_bracket m d ts ≡ false → closes_bracket l d ts ≡ false
    bracket_within [] d e = refl
    bracket_within (t ∷ ts) d e = by_bracket (is_sign (codes "]") t) ts d (angle_within ts d) e

-- where types that are begun do not end behind a type, they do not end in it
pub ty_ends : (t : Ty) → FormedTy t → (rest : List Spelled) → EndsNoTypes rest → EndsNoTypes (ty_onto t rest)
ty_ends t f rest shut l d =
    let m = max l (d + ty_nesting t) in
    angle_within l m (omega arith) (ty_onto t rest) d (ty_passes t f m d rest (omega arith) ∙ shut m d)

pub angled_ends : (a : Arguments) → FormedAngled a → (rest : List Spelled) → EndsNoTypes rest
    → EndsNoTypes (angled_onto a rest)
angled_ends a f rest shut l d =
    let m = max l (suc d + angled_nesting a) in
    angle_within l m (omega arith) (angled_onto a rest) d (angled_passes a f m d rest (omega arith) ∙ shut m d)
