-- Each formed type is read, whatever follows that does not go on with it.
use Rattle.std.proofs.Common.{◌≡◌, ℕ, zero, suc, ◌≤◌, ◌<◌, max, Bool, List, [], ◌∷◌, length, Option, Some, None}
use Rattle.std.proofs.Common.{IsTrue, refl, sym, ap, ◌∙◌, codes, arith}
use Rattle.std.proofs.lemmas.Option.{same_Some}
use Rattle.java_tree.specs.declared.words.Spelled.{Spelled}
use Rattle.java_tree.specs.Words.{sign, sign_glued, keyword, identifier}
use Rattle.java_tree.specs.Trees.{Ty, Typed, Base, Plain, Named, Parts, no_part, part_then, Part, Bare, Generic}
use Rattle.java_tree.specs.Trees.{Arguments, Angled, ArgumentList, no_argument, argument_then, Argument, Exact, Any}
use Rattle.java_tree.specs.Trees.{Extends, Super, pack_parts, pack_arguments}
use Rattle.java_tree.specs.Spelling.{brackets_onto, ty_onto, base_onto, more_parts_onto, part_onto, angled_onto}
use Rattle.java_tree.specs.Spelling.{more_arguments_onto, argument_onto}
use Rattle.java_tree.specs.Formed.{is_plain_word, FormedTy, FormedBase, FormedParts, FormedPart, FormedAngled}
use Rattle.java_tree.specs.Formed.{FormedArguments, FormedArgument}
use Rattle.java_tree.specs.Nesting.{ty_nesting, base_nesting, parts_nesting, part_nesting, angled_nesting}
use Rattle.java_tree.specs.Nesting.{arguments_nesting, argument_nesting}
use Rattle.java_parser_grammar.specs.Taking.{after_sign, after_keyword, commas}
use Rattle.java_parser_grammar.specs.TypeReading.{after_brackets, brackets_at, points, argument_with, angled_with}
use Rattle.java_parser_grammar.specs.TypeReading.{part_with, base_with, arrays_behind, ty_at}
use Rattle.java_parser_grammar.proofs.TypeFronts.{EndsPart, EndsBase, EndsTy, ends_base, ends_part, ends_argument}
use Rattle.java_parser_grammar.proofs.TypeFronts.{angle_no_comma, argument_no_word, ty_front, count_parts}
use Rattle.java_parser_grammar.proofs.TypeFronts.{count_arguments, brackets_longer, parts_longer, arguments_longer}
use Rattle.java_parser_grammar.proofs.CommaLoops.{commas_end, commas_turn, points_end, points_turn}

unfoldable pub unpack_parts : Parts → List Part
unpack_parts no_part = []
unpack_parts (part_then p ps) = p ∷ unpack_parts ps

unfoldable pub unpack_arguments : ArgumentList → List Argument
unpack_arguments no_argument = []
unpack_arguments (argument_then a others) = a ∷ unpack_arguments others

pub packed_parts : (ps : Parts) → pack_parts (unpack_parts ps) ≡ ps
unfolding unpack_parts
packed_parts no_part = refl
packed_parts (part_then p ps) = ap (part_then p) (packed_parts ps)

pub packed_arguments : (others : ArgumentList) → pack_arguments (unpack_arguments others) ≡ others
unfolding unpack_arguments
packed_arguments no_argument = refl
packed_arguments (argument_then a others) = ap (argument_then a) (packed_arguments others)

-- ---- brackets

pub brackets_found : (k m : ℕ) (rest : List Spelled) → m ≤ k → after_brackets rest ≡ None → brackets_at k
    (brackets_onto m rest) ≡ (m, rest)
unfolding brackets_at
brackets_found zero zero rest fits e = refl
brackets_found zero (suc m) rest fits e = absurd (omega arith)
brackets_found (suc k) zero rest fits e = rw e refl
brackets_found (suc k) (suc m) rest fits e =
    ap (λ (p : ℕ × List Spelled). (suc p.0, p.1)) (brackets_found k m rest (omega arith) e)

-- the `[ ]` behind a base
pub arrays_found : (b : Base) (m : ℕ) (rest : List Spelled) → after_brackets rest ≡ None → arrays_behind (
  b,
  brackets_onto m rest,
) ≡ Some (Typed b m, rest)
arrays_found b m rest e =
    rw (brackets_found (length (brackets_onto m rest)) m rest (omega (arith, brackets_longer m rest)) e) refl

-- ---- parts of a type, from what their parts give

module _ (read : List Spelled → Option (Ty × List Spelled)) where
  bare_found : (x : List ℕ) (rest : List Spelled) → after_sign (codes "<") rest ≡ None → part_with read (identifier x
      ∷ rest) ≡ Some (Bare x, rest)
  unfolding part_with
  bare_found x rest e = rw e refl

  generic_found : (x : List ℕ) (a : Arguments) (r rest : List Spelled) → angled_with read r ≡ Some (a, rest)
      → part_with read (identifier x ∷ sign (codes "<") ∷ r) ≡ Some (Generic x a, rest)
  unfolding part_with
  generic_found x a r rest e = rw e refl

  pub angle_found : (a : Argument) (others : ArgumentList) (glued : Bool) (r s rest : List Spelled) → argument_with
      read r ≡ Some (a, s) → commas (argument_with read) (length s) s ≡ Some (
        unpack_arguments others,
        sign_glued glued (codes ">") ∷ rest,
      ) → angled_with read r ≡ Some (Angled (argument_then a others) glued, rest)
  unfolding angled_with
  angle_found a others glued r s rest first more = rw (first, more, packed_arguments others) refl

  exact_found : (t : Ty) (r rest : List Spelled) → after_sign (codes "?") r ≡ None → read r ≡ Some (t, rest)
      → argument_with read r ≡ Some (Exact t, rest)
  exact_found t r rest front e = rw (front, e) refl

  any_found : (rest : List Spelled) → after_keyword (codes "extends") rest ≡ None → after_keyword (codes "super")
      rest ≡ None → argument_with read (sign (codes "?") ∷ rest) ≡ Some (Any, rest)
  any_found rest e f = rw (e, f) refl

  extends_found : (t : Ty) (r rest : List Spelled) → read r ≡ Some (t, rest) → argument_with read (sign (codes "?")
      ∷ keyword (codes "extends") ∷ r) ≡ Some (Extends t, rest)
  extends_found t r rest e = rw e refl

  super_found : (t : Ty) (r rest : List Spelled) → read r ≡ Some (t, rest) → argument_with read (sign (codes "?")
      ∷ keyword (codes "super") ∷ r) ≡ Some (Super t, rest)
  super_found t r rest e = rw e refl

module _ (read : List Spelled → Option (Part × List Spelled)) where
  pub plain_found : (text : List ℕ) (rest : List Spelled) → IsTrue (is_plain_word text) → base_with read (keyword text
      ∷ rest) ≡ Some (Plain text, rest)
  unfolding base_with
  plain_found text rest w = rw w refl

  pub named_found : (p : Part) (ps : Parts) (x : List ℕ) (r s rest : List Spelled) → read (identifier x ∷ r) ≡ Some
      (p, s) → points read (length s) s ≡ Some (unpack_parts ps, rest) → base_with read (identifier x ∷ r) ≡ Some
      (Named (part_then p ps), rest)
  unfolding base_with
  named_found p ps x r s rest first more = rw (first, more, packed_parts ps) refl

-- ---- types

typed_found : (n : ℕ) (b : Base) (m : ℕ) (r rest : List Spelled) → base_with (part_with (ty_at n)) r ≡ Some (
  b,
  brackets_onto m rest,
) → after_brackets rest ≡ None → ty_at (suc n) r ≡ Some (Typed b m, rest)
unfolding ty_at
typed_found n b m r rest e f = rw e (arrays_found b m rest f)

mutual
  unfolding unpack_parts unpack_arguments count_parts count_arguments

  pub ty_found : (t : Ty) → FormedTy t → (n : ℕ) (rest : List Spelled) → ty_nesting t ≤ n → EndsTy rest
      → ty_at n (ty_onto t rest) ≡ Some (t, rest)
  ty_found (Typed b m) f zero rest fits e = absurd (omega arith)
  ty_found (Typed b m) f (suc n) rest fits e =
      typed_found n b m _ rest (base_found b f n (brackets_onto m rest) (omega arith) (ends_base m rest e)) e.brackets

  pub base_found : (b : Base) → FormedBase b → (n : ℕ) (rest : List Spelled) → base_nesting b ≤ n → EndsBase rest
      → base_with (part_with (ty_at n)) (base_onto b rest) ≡ Some (b, rest)
  base_found (Plain text) f n rest fits e = plain_found (part_with (ty_at n)) text rest f
  base_found (Named no_part) f n rest fits e = absurd cc
  base_found (Named (part_then (Bare x) ps)) f n rest fits e =
      let s = more_parts_onto ps rest in
      named_found (part_with (ty_at n)) (Bare x) ps x s s rest (part_found (Bare x) f.0.0 n s (omega arith)
      (ends_part ps rest e)) (parts_found ps f.0.1 n (length s) rest (omega arith)
      (omega (arith, parts_longer ps rest)) e)
  base_found (Named (part_then (Generic x a) ps)) f n rest fits e =
      let s = more_parts_onto ps rest in
      named_found (part_with (ty_at n)) (Generic x a) ps x (angled_onto a s) s rest (part_found (Generic x a) f.0.0 n s
      (omega arith) (ends_part ps rest e)) (parts_found ps f.0.1 n (length s) rest (omega arith)
      (omega (arith, parts_longer ps rest)) e)

  pub parts_found : (ps : Parts) → FormedParts ps → (n k : ℕ) (rest : List Spelled) → parts_nesting ps ≤ n
      → count_parts ps ≤ k → EndsBase rest → points (part_with (ty_at n)) k (more_parts_onto ps rest) ≡ Some
      (unpack_parts ps, rest)
  parts_found no_part f n k rest fits room e = points_end (part_with (ty_at n)) k rest e.point
  parts_found (part_then p ps) f n zero rest fits room e = absurd (omega arith)
  parts_found (part_then p ps) f n (suc k) rest fits room e =
      let s = more_parts_onto ps rest in
      points_turn (part_with (ty_at n)) k p (unpack_parts ps) (part_onto p s) s rest (part_found p f.0 n s
      (omega arith) (ends_part ps rest e)) (parts_found ps f.1 n k rest (omega arith) (omega arith) e)

  pub part_found : (p : Part) → FormedPart p → (n : ℕ) (rest : List Spelled) → part_nesting p ≤ n → EndsPart rest
      → part_with (ty_at n) (part_onto p rest) ≡ Some (p, rest)
  part_found (Bare x) f n rest fits e = bare_found (ty_at n) x rest e.less
  part_found (Generic x a) f n rest fits e = angled_found a f x n rest fits

  -- a name with these type arguments
  pub angled_found : (a : Arguments) → FormedAngled a → (x : List ℕ) (n : ℕ) (rest : List Spelled) → angled_nesting
      a ≤ n → part_with (ty_at n) (identifier x ∷ angled_onto a rest) ≡ Some (Generic x a, rest)
  angled_found (Angled no_argument g) f x n rest fits = absurd cc
  angled_found (Angled (argument_then a others) g) f x n rest fits =
      let tail = sign_glued g (codes ">") ∷ rest in
      let s = more_arguments_onto others tail in
      generic_found (ty_at n) x (Angled (argument_then a others) g) (argument_onto a s) rest
      (angle_found (ty_at n) a others g (argument_onto a s) s rest
      (argument_found a f.0.0 n others g rest (omega arith))
      (arguments_found others f.0.1 n (length s) g rest (omega arith) (omega (arith, arguments_longer others tail))))

  pub arguments_found : (others : ArgumentList) → FormedArguments others → (n k : ℕ) (glued : Bool)
      (rest : List Spelled) → arguments_nesting others ≤ n → count_arguments others < k
      → commas (argument_with (ty_at n)) k (more_arguments_onto others (sign_glued glued (codes ">") ∷ rest)) ≡ Some
      (unpack_arguments others, sign_glued glued (codes ">") ∷ rest)
  arguments_found no_argument f n k g rest fits room =
      commas_end (argument_with (ty_at n)) k (sign_glued g (codes ">") ∷ rest) (angle_no_comma g rest)
  arguments_found (argument_then a others) f n zero g rest fits room = absurd (omega arith)
  arguments_found (argument_then a others) f n (suc k) g rest fits room =
      let tail = sign_glued g (codes ">") ∷ rest in
      let s = more_arguments_onto others tail in
      commas_turn (argument_with (ty_at n)) k a (unpack_arguments others) (argument_onto a s) s tail (argument_found a
      f.0 n others g rest (omega arith)) (arguments_found others f.1 n k g rest (omega arith) (omega arith))

  -- a type argument before others
  pub argument_found : (a : Argument) → FormedArgument a → (n : ℕ) (others : ArgumentList) (glued : Bool)
      (rest : List Spelled) → argument_nesting a ≤ n → argument_with (ty_at n) (argument_onto a (more_arguments_onto
      others (sign_glued glued (codes ">") ∷ rest))) ≡ Some (
        a,
        more_arguments_onto others (sign_glued glued
            (codes ">") ∷ rest),
      )
  argument_found (Exact t) f n others g rest fits =
      let s = more_arguments_onto others (sign_glued g (codes ">") ∷ rest) in
      exact_found (ty_at n) t (ty_onto t s) s ((ty_front t s f).no_sign (codes "?")) (ty_found t f n s fits
      (ends_argument others g rest))
  argument_found Any f n others g rest fits = any_found (ty_at n) _ (argument_no_word (codes "extends") others g rest)
      (argument_no_word (codes "super") others g rest)
  argument_found (Extends t) f n others g rest fits =
      extends_found (ty_at n) t _ _ (ty_found t f n (more_arguments_onto others (sign_glued g (codes ">") ∷ rest))
      fits (ends_argument others g rest))
  argument_found (Super t) f n others g rest fits =
      super_found (ty_at n) t _ _ (ty_found t f n (more_arguments_onto others (sign_glued g (codes ">") ∷ rest)) fits
      (ends_argument others g rest))

-- two formed types with one spelling are equal
pub one_type : (a b : Ty) → FormedTy a → FormedTy b → ty_onto a [] ≡ ty_onto b [] → a ≡ b
one_type a b f g e =
    let n = max (ty_nesting a) (ty_nesting b) in
    let ends : EndsTy [] = record { less = refl; point = refl; brackets = refl } in
    ap (λ (p : Ty × List Spelled). p.0) (same_Some (a, []) (b, []) (sym (ty_found a f n [] (omega arith) ends)
    ∙ ap (ty_at n) e ∙ ty_found b g n [] (omega arith) ends))
