-- Annotations and modifiers are read.
use Rattle.std.proofs.Common.{◌≡◌, ℕ, zero, suc, ◌+◌, ◌≤◌, ◌<◌, false, List, [], ◌∷◌, ◌++◌, length, length-append}
use Rattle.std.proofs.Common.{Bool, true, Option, Some, None, IsTrue, codes, refl, sym, ap, arith}
use Rattle.std.proofs.lemmas.Bool.{false≢true, and_parts}
use Rattle.std.specs.Prelude.{bytes_eq}
use Rattle.std.specs.Cmp.Lexicographic.{bytes_decides}
use Rattle.java_tree.specs.declared.words.Spelled.{Spelled}
use Rattle.java_tree.specs.Words.{keyword, identifier}
use Rattle.java_tree.specs.Brackets.{is_sign, closes, are_parentheses_or_none}
use Rattle.java_tree.specs.Trees.{Ty, Typed, Plain, Named, no_part, part_then, Bare, Generic, Annotation, Modifier}
use Rattle.java_tree.specs.Trees.{Word, Annotated}
use Rattle.java_tree.specs.Spelling.{behind_points, names_onto, brackets_onto, ty_onto, annotation_onto}
use Rattle.java_tree.specs.Spelling.{annotations_onto, modifiers_onto}
use Rattle.java_tree.specs.FormedMethods.{FormedModifier}
use Rattle.java_tree.specs.FormedModifiers.{Each, has_some, FormedAnnotation, FormedVariableModifier}
use Rattle.java_tree.specs.FormedModifiers.{have_no_word, have_one_word, FormedVariableModifiers}
use Rattle.java_tree.specs.Formed.{FormedTy, is_plain_word}
use Rattle.java_parser_grammar.specs.Taking.{after_name, after_sign, after_keyword}
use Rattle.java_parser_grammar.specs.Leads.{begins_with}
use Rattle.java_parser_grammar.specs.Lookahead.{after_modifier}
use Rattle.java_parser_grammar.specs.BalancedReading.{arguments_at, names_at, annotation_at, annotations_at}
use Rattle.java_parser_grammar.specs.BalancedReading.{variable_modifiers_at, before_type_at}
use Rattle.java_parser_grammar.specs.MethodReading.{modifiers_at}
use Rattle.java_parser_grammar.proofs.Taken.{sign_is}
use Rattle.java_parser_grammar.proofs.StatementFronts.{plain_cases, starts_ty}
use Rattle.java_parser_grammar.proofs.FoundTokens.{closed_found}
use Rattle.java_parser_grammar.proofs.TypeFronts.{formed_longer}
use Rattle.java_parser_grammar.proofs.Lengths.{names_longer}
use Rattle.java_parser_grammar.proofs.CommaLoops.{points_end, points_turn}
use Rattle.java_parser_grammar.specs.TypeReading.{points}

-- ---- tokens in parentheses

arguments_found : (args rest : List Spelled) → IsTrue (are_parentheses_or_none args) → begins_with (codes "(")
    rest ≡ false → arguments_at (args ++ rest) ≡ Some (args, rest)
arguments_found [] rest h ends = rw ends refl
arguments_found (t ∷ ts) rest h ends =
    let here = (and_parts (is_sign (codes "(") t) (closes (codes ")" ∷ []) ts) h).0 in
    let inside = (and_parts (is_sign (codes "(") t) (closes (codes ")" ∷ []) ts) h).1 in
    rw (here, closed_found ts (codes ")" ∷ []) inside rest) refl

-- no point stands before arguments
no_point_found : (args rest : List Spelled) → IsTrue (are_parentheses_or_none args) → after_sign (codes ".")
    rest ≡ None → after_sign (codes ".") (args ++ rest) ≡ None
no_point_found [] rest h ends = ends
no_point_found (t ∷ ts) rest h ends =
    rw (sign_is (codes "(") t (and_parts (is_sign (codes "(") t) (closes (codes ")" ∷ []) ts) h).0) refl

-- ---- names

points_fit : (xs : List (List ℕ)) (rest : List Spelled) → length xs ≤ length (behind_points xs rest)
points_fit [] rest = omega arith
points_fit (x ∷ xs) rest = omega (arith, points_fit xs rest)

points_found : (xs : List (List ℕ)) (m : ℕ) (rest : List Spelled) → after_sign (codes ".") rest ≡ None → length xs ≤ m
    → points after_name m (behind_points xs rest) ≡ Some (xs, rest)
points_found [] m rest ends room = points_end after_name m rest ends
points_found (x ∷ xs) zero rest ends room = absurd (omega arith)
points_found (x ∷ xs) (suc m) rest ends room =
    points_turn after_name m x xs (identifier x ∷ behind_points xs rest) (behind_points xs rest) rest refl
    (points_found xs m rest ends (omega arith))

names_found : (xs : List (List ℕ)) (rest : List Spelled) → IsTrue (has_some xs) → after_sign (codes ".") rest ≡ None
    → names_at (names_onto xs rest) ≡ Some (xs, rest)
unfolding names_at
names_found [] rest some ends = absurd cc
names_found (x ∷ xs) rest some ends =
    rw (points_found xs (length (behind_points xs rest)) rest ends (points_fit xs rest)) refl

-- ---- annotations

-- tokens that do not go on with an annotation
pub record EndsAnnotation (rest : List Spelled) : Type 0 where
  pub no_point : after_sign (codes ".") rest ≡ None
  pub no_open : begins_with (codes "(") rest ≡ false

-- tokens that do not go on with annotations and modifiers
pub record EndsModifiers (rest : List Spelled) : Type 0 where
  pub annotation : EndsAnnotation rest
  pub no_at : after_sign (codes "@") rest ≡ None
  pub no_word : after_modifier rest ≡ None

pub annotation_found : (n : Annotation) (rest : List Spelled) → FormedAnnotation n → EndsAnnotation rest → annotation_at
    (names_onto n.names (n.arguments ++ rest)) ≡ Some (n, rest)
unfolding annotation_at
annotation_found n rest f e =
    rw (
      names_found n.names (n.arguments ++ rest) f.0 (no_point_found n.arguments rest f.1 e.no_point),
      arguments_found n.arguments rest f.1 e.no_open,
    ) refl

annotations_end : (ns : List Annotation) (rest : List Spelled) → EndsAnnotation rest → EndsAnnotation
    (annotations_onto ns rest)
annotations_end [] rest e = e
annotations_end (n ∷ ns) rest e = record { no_point = refl; no_open = refl }

pub annotations_found : (ns : List Annotation) (m : ℕ) (rest : List Spelled) → Each FormedAnnotation ns
    → EndsModifiers rest → length ns < m → annotations_at m (annotations_onto ns rest) ≡ Some (ns, rest)
unfolding annotations_at
annotations_found ns zero rest f e room = absurd (omega arith)
annotations_found [] (suc m) rest f e room = rw e.no_at refl
annotations_found (n ∷ ns) (suc m) rest f e room =
    rw (
      annotation_found n (annotations_onto ns rest) f.0 (annotations_end ns rest e.annotation),
      annotations_found ns
          m rest f.1 e (omega arith),
    ) refl

annotation_longer : (n : Annotation) (rest : List Spelled) → length rest < length (annotation_onto n rest)
annotation_longer n rest = omega (arith, names_longer n.names (n.arguments ++ rest), length-append n.arguments rest)

pub annotations_fit : (ns : List Annotation) (rest : List Spelled) → length ns + length rest ≤ length
    (annotations_onto ns rest)
annotations_fit [] rest = omega arith
annotations_fit (n ∷ ns) rest = omega (arith, annotations_fit ns rest, annotation_longer n (annotations_onto ns rest))

-- ---- modifiers

pub modifiers_end : (ms : List Modifier) (rest : List Spelled) → EndsAnnotation rest → EndsAnnotation (modifiers_onto ms
    rest)
modifiers_end [] rest e = e
modifiers_end (Word text ∷ ms) rest e = record { no_point = refl; no_open = refl }
modifiers_end (Annotated n ∷ ms) rest e = record { no_point = refl; no_open = refl }

pub modifiers_found : (ms : List Modifier) (m : ℕ) (rest : List Spelled) → Each FormedModifier ms → EndsModifiers rest
    → length ms < m → modifiers_at m (modifiers_onto ms rest) ≡ Some (ms, rest)
unfolding modifiers_at
modifiers_found ms zero rest f e room = absurd (omega arith)
modifiers_found [] (suc m) rest f e room = rw (e.no_at, e.no_word) refl
modifiers_found (Word text ∷ ms) (suc m) rest f e room = rw (f.0, modifiers_found ms m rest f.1 e (omega arith)) refl
modifiers_found (Annotated n ∷ ms) (suc m) rest f e room =
    rw (
      annotation_found n (modifiers_onto ms rest) f.0 (modifiers_end ms rest e.annotation),
      modifiers_found ms m
          rest f.1 e (omega arith),
    ) refl

pub modifiers_fit : (ms : List Modifier) (rest : List Spelled) → length ms + length rest ≤ length (modifiers_onto ms
    rest)
modifiers_fit [] rest = omega arith
modifiers_fit (Word text ∷ ms) rest = omega (arith, modifiers_fit ms rest)
modifiers_fit (Annotated n ∷ ms) rest =
    omega (arith, modifiers_fit ms rest, annotation_longer n (modifiers_onto ms rest))

-- ---- what stands behind modifiers

pub ends_plain : (text : List ℕ) (rest : List Spelled) → IsTrue (is_plain_word text) →
    EndsModifiers (keyword text ∷ rest)
ends_plain text rest h = record {
  annotation = record { no_point = refl; no_open = refl };
  no_at = refl;
  no_word = plain_cases (λ word. after_modifier (keyword word ∷ rest) ≡ None) refl refl refl refl refl refl refl refl
      text h;
}

pub ends_name : (x : List ℕ) (rest : List Spelled) → EndsModifiers (identifier x ∷ rest)
ends_name x rest = record { annotation = record { no_point = refl; no_open = refl }; no_at = refl; no_word = refl }

pub ends_void : (rest : List Spelled) → EndsModifiers (keyword (codes "void") ∷ rest)
ends_void rest = record { annotation = record { no_point = refl; no_open = refl }; no_at = refl; no_word = refl }

pub ends_type : (t : Ty) (rest : List Spelled) → FormedTy t → EndsModifiers (ty_onto t rest)
ends_type (Typed (Plain text) arrays) rest f = ends_plain text (brackets_onto arrays rest) f
ends_type (Typed (Named no_part) arrays) rest f = absurd cc
ends_type (Typed (Named (part_then (Bare x) ps)) arrays) rest f =
    record { annotation = record { no_point = refl; no_open = refl }; no_at = refl; no_word = refl }
ends_type (Typed (Named (part_then (Generic x a) ps)) arrays) rest f =
    record { annotation = record { no_point = refl; no_open = refl }; no_at = refl; no_word = refl }

-- ---- before the type of a variable

-- `final` stands at most once, or not at all
abbrev pub words_in : (may_be_final : Bool) → List Modifier → Bool
words_in true ms = have_one_word ms
words_in false ms = have_no_word ms

-- tokens that do not go on with what stands before the type of a variable
pub record EndsHead (rest : List Spelled) : Type 0 where
  pub annotation : EndsAnnotation rest
  pub no_at : after_sign (codes "@") rest ≡ None
  pub no_final : after_keyword (codes "final") rest ≡ None

-- a word there is `final`
abbrev word_read : List Modifier → List Spelled → (text : List ℕ) → Option (List Modifier × List Spelled)
word_read ms rest text = Some (Word text ∷ ms, rest)

final_word : (text : List ℕ) (ms : List Modifier) (rest : List Spelled) → bytes_eq text (codes "final") ≡ true
    → word_read ms rest (codes "final") ≡ word_read ms rest text
final_word text ms rest h = ap (word_read ms rest) (sym ((bytes_decides text (codes "final")).0 h))

variable_modifiers_found : (may : Bool) (ms : List Modifier) (m : ℕ) (rest : List Spelled)
    → Each FormedVariableModifier ms → IsTrue (words_in may ms) → EndsHead rest → length ms < m
    → variable_modifiers_at may m (modifiers_onto ms rest) ≡ Some (ms, rest)
unfolding variable_modifiers_at
variable_modifiers_found may ms zero rest f w e room = absurd (omega arith)
variable_modifiers_found true [] (suc m) rest f w e room = rw (e.no_at, e.no_final) refl
variable_modifiers_found false [] (suc m) rest f w e room = rw e.no_at refl
variable_modifiers_found true (Word text ∷ ms) (suc m) rest f w e room =
    rw (f.0, variable_modifiers_found false ms m rest f.1 w e (omega arith)) (final_word text ms rest f.0)
variable_modifiers_found false (Word text ∷ ms) (suc m) rest f w e room = absurd (false≢true w)
variable_modifiers_found true (Annotated n ∷ ms) (suc m) rest f w e room =
    rw (
      annotation_found n (modifiers_onto ms rest) f.0 (modifiers_end ms rest e.annotation),
      variable_modifiers_found true ms m rest f.1 w e (omega arith),
    ) refl
variable_modifiers_found false (Annotated n ∷ ms) (suc m) rest f w e room =
    rw (
      annotation_found n (modifiers_onto ms rest) f.0 (modifiers_end ms rest e.annotation),
      variable_modifiers_found false ms m rest f.1 w e (omega arith),
    ) refl

pub before_type_found : (ms : List Modifier) (t : Ty) (rest : List Spelled) → FormedVariableModifiers ms → FormedTy t
    → before_type_at (modifiers_onto ms (ty_onto t rest)) ≡ Some (ms, ty_onto t rest)
before_type_found ms t rest f g =
    let typed = ty_onto t rest in
    let e = ends_type t rest g in
    variable_modifiers_found true ms (length (modifiers_onto ms typed)) typed f.0 f.1
    (record { annotation = e.annotation; no_at = e.no_at; no_final = (starts_ty t rest g).no_final })
    (omega (arith, modifiers_fit ms typed, formed_longer t g rest))
