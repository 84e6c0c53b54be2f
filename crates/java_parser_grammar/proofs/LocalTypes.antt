-- A type is passed on the way to the name of a variable.
use Rattle.std.proofs.Common.{◌≡◌, ℕ, zero, suc, Bool, true, false, List, ◌∷◌, refl, ◌∙◌, codes}
use Rattle.java_tree.specs.declared.words.Spelled.{Spelled}
use Rattle.java_tree.specs.Words.{sign_glued, keyword}
use Rattle.java_tree.specs.Trees.{Ty, Typed, Base, Plain, Named, Parts, no_part, part_then, Bare, Generic}
use Rattle.java_tree.specs.Trees.{Arguments, Angled, ArgumentList, no_argument, argument_then, Argument, Exact, Any}
use Rattle.java_tree.specs.Trees.{Extends, Super}
use Rattle.java_tree.specs.Spelling.{brackets_onto, ty_onto, base_onto, more_parts_onto, angled_onto}
use Rattle.java_tree.specs.Spelling.{arguments_onto, more_arguments_onto, argument_onto}
use Rattle.java_tree.specs.Formed.{is_plain_word, FormedTy, FormedBase, FormedParts, FormedAngled}
use Rattle.java_tree.specs.Formed.{FormedArguments, FormedArgument}
use Rattle.java_parser_grammar.specs.Lookahead.{goes_local}

-- ---- behind a name or the word of a primitive type

pub brackets_passed : (m d : ℕ) (rest : List Spelled) → goes_local d (brackets_onto m rest) ≡ goes_local d rest
brackets_passed zero d rest = refl
brackets_passed (suc m) d rest = brackets_passed m d rest

-- ---- among type arguments

plain_passed : (text : List ℕ) → is_plain_word text ≡ true → (d : ℕ) (rest : List Spelled) → goes_local (suc d)
    (keyword text ∷ rest) ≡ goes_local (suc d) rest
plain_passed text w d rest = rw w refl

-- a `>` closes the innermost
angle_passed : (glued : Bool) (d : ℕ) (rest : List Spelled) → goes_local (suc d) (sign_glued glued (codes ">") ∷ rest)
    ≡ goes_local d rest
angle_passed true d rest = refl
angle_passed false d rest = refl

mutual
  ty_passed : (t : Ty) → FormedTy t → (d : ℕ) (rest : List Spelled) → goes_local (suc d) (ty_onto t rest)
      ≡ goes_local (suc d) rest
  ty_passed (Typed b m) f d rest = base_passed b f d (brackets_onto m rest) ∙ brackets_passed m (suc d) rest

  base_passed : (b : Base) → FormedBase b → (d : ℕ) (rest : List Spelled) → goes_local (suc d) (base_onto b rest)
      ≡ goes_local (suc d) rest
  base_passed (Plain text) f d rest = plain_passed text f d rest
  base_passed (Named no_part) f d rest = refl
  base_passed (Named (part_then (Bare x) ps)) f d rest = parts_passed ps f.0.1 (suc d) rest
  base_passed (Named (part_then (Generic x a) ps)) f d rest =
      angled_passed a f.0.0 (suc d) (more_parts_onto ps rest) ∙ parts_passed ps f.0.1 (suc d) rest

  -- parts behind a name
  pub parts_passed : (ps : Parts) → FormedParts ps → (d : ℕ) (rest : List Spelled) → goes_local d
      (more_parts_onto ps rest) ≡ goes_local d rest
  parts_passed no_part f d rest = refl
  parts_passed (part_then (Bare x) ps) f d rest = parts_passed ps f.1 d rest
  parts_passed (part_then (Generic x a) ps) f d rest =
      angled_passed a f.0 d (more_parts_onto ps rest) ∙ parts_passed ps f.1 d rest

  -- type arguments in their brackets
  pub angled_passed : (a : Arguments) → FormedAngled a → (d : ℕ) (rest : List Spelled) → goes_local d
      (angled_onto a rest) ≡ goes_local d rest
  angled_passed (Angled list g) f d rest =
      arguments_passed list f.0 d (sign_glued g (codes ">") ∷ rest) ∙ angle_passed g d rest

  arguments_passed : (list : ArgumentList) → FormedArguments list → (d : ℕ) (rest : List Spelled)
      → goes_local (suc d) (arguments_onto list rest) ≡ goes_local (suc d) rest
  arguments_passed no_argument f d rest = refl
  arguments_passed (argument_then a others) f d rest =
      argument_passed a f.0 d (more_arguments_onto others rest) ∙ more_passed others f.1 d rest

  more_passed : (others : ArgumentList) → FormedArguments others → (d : ℕ) (rest : List Spelled)
      → goes_local (suc d) (more_arguments_onto others rest) ≡ goes_local (suc d) rest
  more_passed no_argument f d rest = refl
  more_passed (argument_then a others) f d rest =
      argument_passed a f.0 d (more_arguments_onto others rest) ∙ more_passed others f.1 d rest

  argument_passed : (a : Argument) → FormedArgument a → (d : ℕ) (rest : List Spelled) → goes_local (suc d)
      (argument_onto a rest) ≡ goes_local (suc d) rest
  argument_passed (Exact t) f d rest = ty_passed t f d rest
  argument_passed Any f d rest = refl
  argument_passed (Extends t) f d rest = ty_passed t f d rest
  argument_passed (Super t) f d rest = ty_passed t f d rest
