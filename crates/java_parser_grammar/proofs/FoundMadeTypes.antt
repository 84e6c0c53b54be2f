-- Each type that a `new` makes is read.
use Rattle.std.proofs.Common.{◌≡◌, ℕ, zero, suc, ◌≤◌, ◌<◌, Bool, true, false, List, [], ◌∷◌, length, Option, Some}
use Rattle.std.proofs.Common.{None, IsTrue, refl, codes, arith}
use Rattle.java_tree.specs.declared.words.Spelled.{Spelled}
use Rattle.java_tree.specs.Words.{sign, sign_glued, keyword, identifier}
use Rattle.java_tree.specs.Trees.{Ty, Typed, Base, Plain, Named, Parts, no_part, part_then, Part, Bare, Generic}
use Rattle.java_tree.specs.Trees.{Arguments, Angled, no_argument, argument_then}
use Rattle.java_tree.specs.Spelling.{ty_onto, base_onto, more_parts_onto, part_onto, angled_onto}
use Rattle.java_tree.specs.Spelling.{more_arguments_onto, argument_onto}
use Rattle.java_tree.specs.Formed.{has_part, is_plain_word, FormedTy, FormedParts, FormedPart, FormedLastPart}
use Rattle.java_tree.specs.Formed.{FormedClassParts, FormedClass, arrays_of, is_named}
use Rattle.java_tree.specs.Nesting.{ty_nesting, base_nesting, parts_nesting, part_nesting}
use Rattle.java_parser_grammar.specs.Taking.{after_sign, after_angle}
use Rattle.java_parser_grammar.specs.TypeReading.{angled_with, ty_at, is_diamond, have_diamond, has_diamond}
use Rattle.java_parser_grammar.specs.TypeReading.{made_part_with}
use Rattle.java_parser_grammar.specs.TypeReading.{made_parts_with, made_base_with, made_base_at}
use Rattle.java_parser_grammar.proofs.TypeFronts.{EndsPart, EndsBase, argument_front, count_parts, parts_longer}
use Rattle.java_parser_grammar.proofs.TypeFronts.{arguments_longer, part_longer}
use Rattle.java_parser_grammar.proofs.FoundTypes.{unpack_parts, packed_parts, angle_found, argument_found}
use Rattle.java_parser_grammar.proofs.FoundTypes.{arguments_found}

module _ (read : List Spelled → Option (Ty × List Spelled)) where
  made_bare : (x : List ℕ) (rest : List Spelled) → after_sign (codes "<") rest ≡ None → made_part_with read
      (identifier x ∷ rest) ≡ Some (Bare x, rest)
  unfolding made_part_with
  made_bare x rest e = rw e refl

  made_diamond : (x : List ℕ) (glued : Bool) (rest : List Spelled) → made_part_with read (identifier x
      ∷ sign (codes "<") ∷ sign_glued glued (codes ">") ∷ rest) ≡ Some (Generic x (Angled no_argument glued), rest)
  unfolding made_part_with
  made_diamond x glued rest = refl

  made_generic : (x : List ℕ) (a : Arguments) (r rest : List Spelled) → after_angle r ≡ None → angled_with read
      r ≡ Some (a, rest) → made_part_with read (identifier x ∷ sign (codes "<") ∷ r) ≡ Some (Generic x a, rest)
  unfolding made_part_with
  made_generic x a r rest front e = rw (front, e) refl

  made_diamond_last : (k : ℕ) (p : Part) (r rest : List Spelled) → made_part_with read r ≡ Some (p, rest)
      → after_sign (codes ".") rest ≡ None → (d : Bool) → is_diamond p ≡ d → made_parts_with read (suc k) r ≡ Some (
        p
            ∷ [],
        rest,
      )
  unfolding made_parts_with
  made_diamond_last k p r rest e point true d = rw (e, d) refl
  made_diamond_last k p r rest e point false d = rw (e, d, point) refl

  made_turn : (k : ℕ) (p : Part) (ps : List Part) (r s rest : List Spelled) → made_part_with read r ≡ Some (
    p,
    sign (codes ".") ∷ s,
  ) → is_diamond p ≡ false → made_parts_with read k s ≡ Some (ps, rest) → made_parts_with read
      (suc k) r ≡ Some (p ∷ ps, rest)
  unfolding made_parts_with
  made_turn k p ps r s rest e d more = rw (e, d, more) refl

  made_plain : (text : List ℕ) (rest : List Spelled) → IsTrue (is_plain_word text) → made_base_with read (keyword text
      ∷ rest) ≡ Some (Plain text, rest)
  unfolding made_base_with
  made_plain text rest w = rw w refl

  made_named : (ps : Parts) (x : List ℕ) (r rest : List Spelled) → made_parts_with read (length (identifier x ∷ r))
      (identifier x ∷ r) ≡ Some (unpack_parts ps, rest) → made_base_with read (identifier x ∷ r) ≡ Some (
        Named ps,
        rest,
      )
  unfolding made_base_with
  made_named ps x r rest e = rw (e, packed_parts ps) refl

made_part_found : (p : Part) → FormedLastPart p → (n : ℕ) (rest : List Spelled) → part_nesting p ≤ n → EndsPart rest
    → made_part_with (ty_at n) (part_onto p rest) ≡ Some (p, rest)
made_part_found (Bare x) f n rest fits e = made_bare (ty_at n) x rest e.less
made_part_found (Generic x (Angled no_argument g)) f n rest fits e = made_diamond (ty_at n) x g rest
made_part_found (Generic x (Angled (argument_then a others) g)) f n rest fits e =
    let tail = sign_glued g (codes ">") ∷ rest in
    let s = more_arguments_onto others tail in
    made_generic (ty_at n) x (Angled (argument_then a others) g) (argument_onto a s) rest (argument_front a s f.0)
    (angle_found (ty_at n) a others g (argument_onto a s) s rest
    (argument_found a f.0 n others g rest (omega arith))
    (arguments_found others f.1 n (length s) g rest (omega arith) (omega (arith, arguments_longer others tail))))

pub last_part : (p : Part) → FormedPart p → FormedLastPart p
last_part (Bare x) f = tt
last_part (Generic x (Angled list g)) f = f.0

no_diamond : (p : Part) → FormedPart p → is_diamond p ≡ false
no_diamond (Bare x) f = refl
no_diamond (Generic x (Angled no_argument g)) f = absurd cc
no_diamond (Generic x (Angled (argument_then a others) g)) f = refl

made_parts_found : (ps : Parts) (p : Part) → FormedClassParts (part_then p ps) → (n k : ℕ) (rest : List Spelled)
    → part_nesting p ≤ n → parts_nesting ps ≤ n → count_parts ps < k → EndsBase rest → made_parts_with (ty_at n) k
    (part_onto p (more_parts_onto ps rest)) ≡ Some (p ∷ unpack_parts ps, rest)
unfolding unpack_parts count_parts
made_parts_found ps p f n zero rest fits more room e = absurd (omega arith)
made_parts_found no_part p f n (suc k) rest fits more room e =
    made_diamond_last (ty_at n) k p (part_onto p rest) rest (made_part_found p f n rest fits
    (record { less = e.less })) e.point (is_diamond p) refl
made_parts_found (part_then q qs) p f n (suc k) rest fits more room e =
    let s = part_onto q (more_parts_onto qs rest) in
    made_turn (ty_at n) k p (q ∷ unpack_parts qs) (part_onto p (sign (codes ".") ∷ s)) s rest (made_part_found p
    (last_part p f.0) n (sign (codes ".") ∷ s) fits (record { less = refl })) (no_diamond p f.0) (made_parts_found
    qs q f.1 n k rest (omega arith) (omega arith) (omega arith) e)

-- the bases of types that a `new` makes
abbrev pub MadeBase : Base → Type 0
MadeBase (Plain text) = IsTrue (is_plain_word text)
MadeBase (Named ps) = FormedClassParts ps × IsTrue (has_part ps)

made_base_found : (b : Base) → MadeBase b → (n : ℕ) (rest : List Spelled) → base_nesting b ≤ n → EndsBase rest
    → made_base_with (ty_at n) (base_onto b rest) ≡ Some (b, rest)
unfolding unpack_parts count_parts
made_base_found (Plain text) f n rest fits e = made_plain (ty_at n) text rest f
made_base_found (Named no_part) f n rest fits e = absurd cc
made_base_found (Named (part_then (Bare x) ps)) f n rest fits e =
    let s = more_parts_onto ps rest in
    made_named (ty_at n) (part_then (Bare x) ps) x s rest (made_parts_found ps (Bare x) f.0 n (length (identifier x
    ∷ s)) rest (omega arith) (omega arith) (omega (arith, parts_longer ps rest)) e)
made_base_found (Named (part_then (Generic x a) ps)) f n rest fits e =
    let s = more_parts_onto ps rest in
    made_named (ty_at n) (part_then (Generic x a) ps) x (angled_onto a s) rest (made_parts_found ps (Generic x a) f.0 n
    (length (identifier x ∷ angled_onto a s)) rest (omega arith) (omega arith)
    (omega (arith, parts_longer ps rest, part_longer (Generic x a) s)) e)

-- what stands before the `[ ]`
abbrev pub base_of : Ty → Base
base_of (Typed b m) = b

pub made_found : (t : Ty) → MadeBase (base_of t) → arrays_of t ≡ 0 → (n : ℕ) (rest : List Spelled) → ty_nesting t ≤ n
    → EndsBase rest → made_base_at n (ty_onto t rest) ≡ Some (base_of t, rest)
unfolding made_base_at
made_found (Typed b m) f z zero rest fits e = absurd (omega arith)
made_found (Typed b m) f z (suc n) rest fits e = rw z (made_base_found b f n rest (omega arith) e)

pub whole_type : (t : Ty) → arrays_of t ≡ 0 → Typed (base_of t) 0 ≡ t
whole_type (Typed b m) z = rw z refl

class_parts : (ps : Parts) (p : Part) → FormedPart p → FormedParts ps → FormedClassParts (part_then p ps)
class_parts no_part p f g = last_part p f
class_parts (part_then q qs) p f g = (f, class_parts qs q g.0 g.1)

-- a class
pub made_class : (t : Ty) → FormedClass t → MadeBase (base_of t)
made_class (Typed (Plain text) m) f = absurd f
made_class (Typed (Named ps) m) f = (f.0, f.1)

pub class_arrays : (t : Ty) → FormedClass t → arrays_of t ≡ 0
class_arrays (Typed (Plain text) m) f = absurd f
class_arrays (Typed (Named ps) m) f = f.2

pub class_named : (t : Ty) → FormedClass t → IsTrue (is_named t)
class_named (Typed (Plain text) m) f = absurd f
class_named (Typed (Named ps) m) f = refl

-- the type of elements
pub made_element : (t : Ty) → FormedTy t → MadeBase (base_of t)
made_element (Typed (Plain text) m) f = f
made_element (Typed (Named no_part) m) f = absurd cc
made_element (Typed (Named (part_then p ps)) m) f = (class_parts ps p f.0.0 f.0.1, refl)

no_diamonds : (ps : Parts) → FormedParts ps → have_diamond ps ≡ false
no_diamonds no_part f = refl
no_diamonds (part_then p ps) f = rw (no_diamond p f.0) (no_diamonds ps f.1)

pub element_diamond : (t : Ty) → FormedTy t → has_diamond (base_of t) ≡ false
element_diamond (Typed (Plain text) m) f = refl
element_diamond (Typed (Named ps) m) f = no_diamonds ps f.0
