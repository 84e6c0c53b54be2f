-- What the spelling of a type begins with, and its length.
use Rattle.std.proofs.Common.{◌≡◌, ℕ, zero, suc, ◌+◌, ◌≤◌, ◌<◌, Bool, true, false, List, ◌∷◌, length, None, refl}
use Rattle.std.proofs.Common.{codes, arith}
use Rattle.java_tree.specs.declared.words.Spelled.{Spelled}
use Rattle.java_tree.specs.Words.{sign_glued}
use Rattle.java_tree.specs.Trees.{Ty, Typed, Base, Plain, Named, Parts, no_part, part_then, Part, Bare, Generic}
use Rattle.java_tree.specs.Trees.{Arguments, Angled, ArgumentList, no_argument, argument_then, Argument, Exact, Any}
use Rattle.java_tree.specs.Trees.{Extends, Super}
use Rattle.java_tree.specs.Spelling.{brackets_onto, ty_onto, base_onto, more_parts_onto, part_onto, angled_onto}
use Rattle.java_tree.specs.Spelling.{more_arguments_onto, argument_onto}
use Rattle.java_tree.specs.Formed.{FormedTy, FormedArgument}
use Rattle.java_parser_grammar.specs.Taking.{after_sign, after_keyword, after_angle}
use Rattle.java_parser_grammar.specs.TypeReading.{after_brackets}

-- ---- what follows a type

-- what does not go on with a part
pub record EndsPart (rest : List Spelled) : Type 0 where
  pub less : after_sign (codes "<") rest ≡ None

-- what does not go on with parts
pub record EndsBase (rest : List Spelled) : Type 0 where
  pub less : after_sign (codes "<") rest ≡ None
  pub point : after_sign (codes ".") rest ≡ None

-- what does not go on with a type
pub record EndsTy (rest : List Spelled) : Type 0 where
  pub less : after_sign (codes "<") rest ≡ None
  pub point : after_sign (codes ".") rest ≡ None
  pub brackets : after_brackets rest ≡ None

pub ends_base : (m : ℕ) (rest : List Spelled) → EndsTy rest → EndsBase (brackets_onto m rest)
ends_base zero rest e = record { less = e.less; point = e.point }
ends_base (suc m) rest e = record { less = refl; point = refl }

pub ends_part : (ps : Parts) (rest : List Spelled) → EndsBase rest → EndsPart (more_parts_onto ps rest)
ends_part no_part rest e = record { less = e.less }
ends_part (part_then p ps) rest e = record { less = refl }

pub ends_angle : (glued : Bool) (rest : List Spelled) → EndsTy (sign_glued glued (codes ">") ∷ rest)
ends_angle true rest = record { less = refl; point = refl; brackets = refl }
ends_angle false rest = record { less = refl; point = refl; brackets = refl }

pub ends_argument : (others : ArgumentList) (glued : Bool) (rest : List Spelled) → EndsTy (more_arguments_onto others
    (sign_glued glued (codes ">") ∷ rest))
ends_argument no_argument glued rest = ends_angle glued rest
ends_argument (argument_then a others) glued rest = record { less = refl; point = refl; brackets = refl }

pub angle_no_comma : (glued : Bool) (rest : List Spelled) → after_sign (codes ",") (sign_glued glued (codes ">")
    ∷ rest) ≡ None
angle_no_comma true rest = refl
angle_no_comma false rest = refl

pub argument_no_word : (text : List ℕ) (others : ArgumentList) (glued : Bool) (rest : List Spelled) → after_keyword
    text (more_arguments_onto others (sign_glued glued (codes ">") ∷ rest)) ≡ None
argument_no_word text no_argument glued rest = refl
argument_no_word text (argument_then a others) glued rest = refl

-- ---- the first token

-- a first token that is no sign
pub record NoSign (ts : List Spelled) : Type 0 where
  pub no_sign : (text : List ℕ) → after_sign text ts ≡ None
  pub no_angle : after_angle ts ≡ None

pub ty_front : (t : Ty) (rest : List Spelled) → FormedTy t → NoSign (ty_onto t rest)
ty_front (Typed (Plain text) m) rest f = record { no_sign = λ s. refl; no_angle = refl }
ty_front (Typed (Named no_part) m) rest f = absurd cc
ty_front (Typed (Named (part_then (Bare x) ps)) m) rest f = record { no_sign = λ s. refl; no_angle = refl }
ty_front (Typed (Named (part_then (Generic x a) ps)) m) rest f = record { no_sign = λ s. refl; no_angle = refl }

pub argument_front : (a : Argument) (rest : List Spelled) → FormedArgument a → after_angle (argument_onto a rest) ≡ None
argument_front (Exact t) rest f = (ty_front t rest f).no_angle
argument_front Any rest f = refl
argument_front (Extends t) rest f = refl
argument_front (Super t) rest f = refl

-- ---- lengths

pub brackets_longer : (m : ℕ) (rest : List Spelled) → m + length rest ≤ length (brackets_onto m rest)
brackets_longer zero rest = omega arith
brackets_longer (suc m) rest = omega (arith, brackets_longer m rest)

unfoldable pub count_parts : Parts → ℕ
count_parts no_part = 0
count_parts (part_then p ps) = suc (count_parts ps)

unfoldable pub count_arguments : ArgumentList → ℕ
count_arguments no_argument = 0
count_arguments (argument_then a others) = suc (count_arguments others)

mutual
  unfolding count_parts count_arguments

  pub ty_longer : (t : Ty) (rest : List Spelled) → length rest ≤ length (ty_onto t rest)
  ty_longer (Typed b m) rest = omega (arith, brackets_longer m rest, base_longer b (brackets_onto m rest))

  base_longer : (b : Base) (rest : List Spelled) → length rest ≤ length (base_onto b rest)
  base_longer (Plain text) rest = omega arith
  base_longer (Named no_part) rest = omega arith
  base_longer (Named (part_then p ps)) rest =
      omega (arith, part_longer p (more_parts_onto ps rest), parts_longer ps rest)

  pub part_longer : (p : Part) (rest : List Spelled) → length rest < length (part_onto p rest)
  part_longer (Bare x) rest = omega arith
  part_longer (Generic x a) rest = omega (arith, angled_longer a rest)

  pub angled_longer : (a : Arguments) (rest : List Spelled) → length rest ≤ length (angled_onto a rest)
  angled_longer (Angled no_argument g) rest = omega arith
  angled_longer (Angled (argument_then a others) g) rest =
      let r = sign_glued g (codes ">") ∷ rest in
      omega (arith, arguments_longer others r, argument_longer a (more_arguments_onto others r))

  argument_longer : (a : Argument) (rest : List Spelled) → length rest ≤ length (argument_onto a rest)
  argument_longer (Exact t) rest = ty_longer t rest
  argument_longer Any rest = omega arith
  argument_longer (Extends t) rest = omega (arith, ty_longer t rest)
  argument_longer (Super t) rest = omega (arith, ty_longer t rest)

  -- as many parts as tokens
  pub parts_longer : (ps : Parts) (rest : List Spelled) → count_parts ps + length rest ≤ length (more_parts_onto ps
      rest)
  parts_longer no_part rest = omega arith
  parts_longer (part_then p ps) rest = omega (arith, part_longer p (more_parts_onto ps rest), parts_longer ps rest)

  pub arguments_longer : (others : ArgumentList) (rest : List Spelled) → count_arguments others + length rest ≤ length
      (more_arguments_onto others rest)
  arguments_longer no_argument rest = omega arith
  arguments_longer (argument_then a others) rest = omega (
    arith,
    argument_longer a (more_arguments_onto others rest),
    arguments_longer others rest,
  )

-- a formed type has a token
pub formed_longer : (t : Ty) → FormedTy t → (rest : List Spelled) → length rest < length (ty_onto t rest)
formed_longer (Typed (Plain text) m) f rest = omega (arith, brackets_longer m rest)
formed_longer (Typed (Named no_part) m) f rest = absurd cc
formed_longer (Typed (Named (part_then p ps)) m) f rest =
    let r = brackets_onto m rest in
    omega (arith, brackets_longer m rest, part_longer p (more_parts_onto ps r), parts_longer ps r)
