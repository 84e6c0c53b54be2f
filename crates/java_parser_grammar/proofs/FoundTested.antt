-- Each type behind `instanceof` is read, where a `<` behind it begins no type arguments and no operand follows.
use Rattle.std.proofs.Common.{◌≡◌, ℕ, zero, suc, ◌≤◌, Bool, true, false, cond, ◌&&◌, ◌||◌, List, [], ◌∷◌, length}
use Rattle.std.proofs.Common.{Option}
use Rattle.std.proofs.Common.{Some, None, refl, ◌∙◌, codes, arith}
use Rattle.std.proofs.lemmas.Bool.{or_parts}
use Rattle.java_tree.specs.declared.words.Spelled.{Spelled}
use Rattle.java_tree.specs.Words.{sign, sign_glued, identifier}
use Rattle.java_tree.specs.Brackets.{is_sign}
use Rattle.java_tree.specs.Trees.{Ty, Typed, Base, Plain, Named, Parts, no_part, part_then, Part, Bare, Generic}
use Rattle.java_tree.specs.Trees.{Arguments, Angled, no_argument, argument_then}
use Rattle.java_tree.specs.Spelling.{brackets_onto, ty_onto, base_onto, more_parts_onto, part_onto, angled_onto}
use Rattle.java_tree.specs.Spelling.{more_arguments_onto, argument_onto}
use Rattle.java_tree.specs.Formed.{FormedTy, FormedBase, FormedParts, FormedPart}
use Rattle.java_tree.specs.Nesting.{ty_nesting, base_nesting, parts_nesting, part_nesting}
use Rattle.java_parser_grammar.specs.Taking.{◌>>=◌, after_sign}
use Rattle.java_parser_grammar.specs.TypeReading.{after_brackets, after_less, no_operand_at, closes_angle, points}
use Rattle.java_parser_grammar.specs.TypeReading.{angled_with, tested_part_with, base_with, ty_at, tested_ty_at}
use Rattle.java_parser_grammar.specs.ExpressionReading.{goes_typed, name_goes_typed}
use Rattle.java_parser_grammar.proofs.TypeFronts.{count_parts, parts_longer, arguments_longer}
use Rattle.java_parser_grammar.proofs.CommaLoops.{points_end, points_turn}
use Rattle.java_parser_grammar.proofs.Angles.{angled_closes}
use Rattle.java_parser_grammar.proofs.FoundTypes.{unpack_parts, arrays_found, plain_found, named_found, angle_found}
use Rattle.java_parser_grammar.proofs.FoundTypes.{argument_found, arguments_found}

-- what does not go on with a part
pub record EndsTestedPart (rest : List Spelled) : Type 0 where
  pub less : (limit : ℕ) → after_less limit rest ≡ None
  pub operand : no_operand_at rest ≡ true

-- what does not go on with parts
pub record EndsTestedBase (rest : List Spelled) : Type 0 where
  pub less : (limit : ℕ) → after_less limit rest ≡ None
  pub operand : no_operand_at rest ≡ true
  pub point : after_sign (codes ".") rest ≡ None

-- what does not go on with a type
pub record EndsTested (rest : List Spelled) : Type 0 where
  pub less : (limit : ℕ) → after_less limit rest ≡ None
  pub operand : no_operand_at rest ≡ true
  pub point : after_sign (codes ".") rest ≡ None
  pub brackets : after_brackets rest ≡ None

ends_base : (m : ℕ) (rest : List Spelled) → EndsTested rest → EndsTestedBase (brackets_onto m rest)
ends_base zero rest e = record { less = e.less; operand = e.operand; point = e.point }
ends_base (suc m) rest e = record { less = λ l. refl; operand = refl; point = refl }

ends_part : (ps : Parts) (rest : List Spelled) → EndsTestedBase rest → EndsTestedPart (more_parts_onto ps rest)
ends_part no_part rest e = record { less = e.less; operand = e.operand }
ends_part (part_then p ps) rest e = record { less = λ l. refl; operand = refl }

-- what leaves types begins no type arguments
pub leaves_less : (rest : List Spelled) (l : ℕ) → goes_typed l rest ≡ false → after_sign (codes ".") rest ≡ None
    → after_less l rest ≡ None
leaves_less [] l g e = refl
leaves_less (t ∷ ts) l g e =
    by_tests (is_sign (codes ".") t) (is_sign (codes "<") t) (closes_angle l 0 ts) _ (name_goes_typed l ts) ts g e refl
  where
    by_tests : (point less closes other named : Bool) (ts : List Spelled) → cond point named (other || (less && closes))
        ≡ false → cond point (Some ts) None ≡ None → closes_angle l 0 ts ≡ closes → (cond less
        (Some ts) None >>= λ r. cond (closes_angle l 0 r) (Some r) None) ≡ None
    by_tests true less closes other named ts g e is = absurd cc
    by_tests false false closes other named ts g e is = refl
    by_tests false true closes other named ts g e is = rw (is, (or_parts other closes g).1) refl

module _ (l : ℕ) (read : List Spelled → Option (Ty × List Spelled)) where
  tested_bare : (x : List ℕ) (rest : List Spelled) → after_less l rest ≡ None → tested_part_with l read (identifier x
      ∷ rest) ≡ Some (Bare x, rest)
  unfolding tested_part_with
  tested_bare x rest e = rw e refl

  tested_generic : (x : List ℕ) (a : Arguments) (r rest : List Spelled) → closes_angle l 0 r ≡ true → angled_with read
      r ≡ Some (a, rest) → tested_part_with l read (identifier x ∷ sign (codes "<") ∷ r) ≡ Some (Generic x a, rest)
  unfolding tested_part_with
  tested_generic x a r rest c e = rw (c, e) refl

tested_part_found : (p : Part) → FormedPart p → (n : ℕ) (rest : List Spelled) → part_nesting p ≤ n
    → EndsTestedPart rest → tested_part_with n (ty_at n) (part_onto p rest) ≡ Some (p, rest)
tested_part_found (Bare x) f n rest fits e = tested_bare n (ty_at n) x rest (e.less n)
tested_part_found (Generic x (Angled no_argument g)) f n rest fits e = absurd cc
tested_part_found (Generic x (Angled (argument_then a others) g)) f n rest fits e =
    let tail = sign_glued g (codes ">") ∷ rest in
    let s = more_arguments_onto others tail in
    tested_generic n (ty_at n) x (Angled (argument_then a others) g) (argument_onto a s) rest
    (angled_closes (argument_then a others) g f.0 n rest fits ∙ e.operand)
    (angle_found (ty_at n) a others g (argument_onto a s) s rest
    (argument_found a f.0.0 n others g rest (omega arith))
    (arguments_found others f.0.1 n (length s) g rest (omega arith) (omega (arith, arguments_longer others tail))))

tested_parts_found : (ps : Parts) → FormedParts ps → (n k : ℕ) (rest : List Spelled) → parts_nesting ps ≤ n
    → count_parts ps ≤ k → EndsTestedBase rest → points (tested_part_with n (ty_at n)) k (more_parts_onto ps rest)
    ≡ Some (unpack_parts ps, rest)
unfolding unpack_parts count_parts
tested_parts_found no_part f n k rest fits room e = points_end (tested_part_with n (ty_at n)) k rest e.point
tested_parts_found (part_then p ps) f n zero rest fits room e = absurd (omega arith)
tested_parts_found (part_then p ps) f n (suc k) rest fits room e =
    let s = more_parts_onto ps rest in
    points_turn (tested_part_with n (ty_at n)) k p (unpack_parts ps) (part_onto p s) s rest (tested_part_found p f.0 n s
    (omega arith) (ends_part ps rest e)) (tested_parts_found ps f.1 n k rest (omega arith) (omega arith) e)

tested_base_found : (b : Base) → FormedBase b → (n : ℕ) (rest : List Spelled) → base_nesting b ≤ n
    → EndsTestedBase rest → base_with (tested_part_with n (ty_at n)) (base_onto b rest) ≡ Some (b, rest)
tested_base_found (Plain text) f n rest fits e = plain_found (tested_part_with n (ty_at n)) text rest f
tested_base_found (Named no_part) f n rest fits e = absurd cc
tested_base_found (Named (part_then (Bare x) ps)) f n rest fits e =
    let s = more_parts_onto ps rest in
    named_found (tested_part_with n (ty_at n)) (Bare x) ps x s s rest
    (tested_part_found (Bare x) f.0.0 n s (omega arith)
    (ends_part ps rest e)) (tested_parts_found ps f.0.1 n (length s) rest (omega arith)
    (omega (arith, parts_longer ps rest)) e)
tested_base_found (Named (part_then (Generic x a) ps)) f n rest fits e =
    let s = more_parts_onto ps rest in
    named_found (tested_part_with n (ty_at n)) (Generic x a) ps x (angled_onto a s) s rest (tested_part_found
    (Generic x a) f.0.0 n s (omega arith) (ends_part ps rest e)) (tested_parts_found ps f.0.1 n (length s) rest
    (omega arith) (omega (arith, parts_longer ps rest)) e)

pub tested_found : (t : Ty) → FormedTy t → (n : ℕ) (rest : List Spelled) → ty_nesting t ≤ n → EndsTested rest
    → tested_ty_at n (ty_onto t rest) ≡ Some (t, rest)
unfolding tested_ty_at
tested_found (Typed b m) f zero rest fits e = absurd (omega arith)
tested_found (Typed b m) f (suc n) rest fits e =
    rw (tested_base_found b f n (brackets_onto m rest) (omega arith) (ends_base m rest e)) (arrays_found b m rest
    e.brackets)
