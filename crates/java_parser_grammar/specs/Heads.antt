-- A contract of a public call rests on this: methods and constructors (JLS 8.4, 8.8), those that have a tree and
-- what is kept of the others: their result (JLS 8.4.5) and the number of their parameters (JLS 8.4.1).
use Rattle.std.specs.Prelude.{◌≡◌, ℕ, suc, ◌-◌, ◌≤◌, Bool, not, ◌&&◌, List, [], ◌∷◌, ◌++◌, codes, ◌==◌, filter}
use Rattle.std.specs.Prelude.{if◌then◌else◌}
use Rattle.std.specs.List.{list_any}
use Rattle.racer_base.specs.declared.limits.TheConstants.{MAX_NESTING}
use Rattle.java_lexer.specs.declared.token.Token.{Token}
use Rattle.java_tree.specs.declared.words.Spelled.{Spelled}
use Rattle.java_tree.specs.Trees.{Modifier, Result, NoResult, VoidResult, TypeResult, Method}
use Rattle.java_tree.specs.Spelling.{modifiers_onto, result_onto, spelling}
use Rattle.java_tree.specs.FormedMethods.{FormedModifier, FormedResult, FormedMethod}
use Rattle.java_tree.specs.FormedModifiers.{Each}
use Rattle.java_tree.specs.Nesting.{result_nesting, method_nesting}
use Rattle.java_tree.specs.KeptPlaces.{ty_places}
use Rattle.java_tree.specs.View.{ty_of}
use Rattle.java_tree.specs.declared.unit.HeadResult.{HeadResult}
use Rattle.java_tree.specs.declared.unit.HeadResult.TheVariants.{Void, Formed, Constructor, Unknown}
use Rattle.java_tree.specs.declared.unit.OutsideHead.{OutsideHead}
use Rattle.java_parser_grammar.specs.Tokens.{plain_all, is_word_token, is_angle, begins_sign, begins_word, begins}
use Rattle.java_parser_grammar.specs.Tokens.{AreLast}
use Rattle.java_parser_grammar.specs.Cuts.{joined}
use Rattle.java_parser_grammar.specs.Pieces.{Item, items_of, inside, pieces_of, is_annotation}

-- ---- methods that have a tree

-- the tree of a method of this class; one without a result is a constructor, whose name is the class's (JLS 8.8)
pub record IsMethod (class : List ℕ) (ts : List Token) (m : Method) : Type 0 where
  pub formed : FormedMethod m
  pub nested : method_nesting m ≤ MAX_NESTING
  pub spelled : spelling m ≡ plain_all ts
  pub constructed : m.result ≡ NoResult → m.name ≡ class

-- ---- the result of a method that has none

-- the last of the tokens spell a type, or are `void`
abbrev pub EndsInResult : List Token → Type 0
EndsInResult ts =
    (front : List Spelled) × (r : Result) × FormedResult r × (result_nesting r ≤ MAX_NESTING) × (r ≡ NoResult → ⊥)
    × (front ++ result_onto r [] ≡ plain_all ts)

abbrev pub without_annotations : List Token → List Token
without_annotations ts = joined (filter (λ p. not (is_annotation p)) (pieces_of ts))

-- a constructor: its name is the class's, and neither a type nor `void` stands before it, annotations left out
pub record IsConstructor (class name : List ℕ) (front : List Token) : Type 0 where
  pub named : name ≡ class
  pub without_result : EndsInResult (without_annotations front) → ⊥

-- what stands before the name is modifiers of a method with annotations, and then this result
pub record IsHead (front : List Token) (modifiers : List Modifier) (result : Result) : Type 0 where
  pub formed : Each FormedModifier modifiers
  pub result_formed : FormedResult result
  pub nested : result_nesting result ≤ MAX_NESTING
  pub spelled : modifiers_onto modifiers (result_onto result []) ≡ plain_all front

abbrev pub HasHead : List Token → Result → Type 0
HasHead front result = (modifiers : List Modifier) × IsHead front modifiers result

abbrev pub HeadSays : List Token → HeadResult → Type 0
HeadSays front Void = HasHead front VoidResult
HeadSays front (Formed t) = HasHead front (TypeResult (ty_of t)) × AreLast (ty_places t) front
HeadSays front Constructor = ⊥
HeadSays front Unknown = (r : Result) → (r ≡ NoResult → ⊥) → HasHead front r → ⊥

abbrev pub IsResult : (class name : List ℕ) → List Token → HeadResult → Type 0
IsResult class name front Constructor = IsConstructor class name front
IsResult class name front r = (IsConstructor class name front → ⊥) × HeadSays front r

-- ---- the number of its parameters

-- how many commas stand outside brackets, where so many `<` are open
abbrev pub commas_among : (open_angles : ℕ) → List Item → ℕ
commas_among n [] = 0
commas_among n (i ∷ is) =
    if begins_sign (codes "<") i then commas_among (suc n) is
    else (if begins is_angle i then commas_among (n - 1) is
    else (if begins_sign (codes ",") i && n == 0 then suc (commas_among n is) else commas_among n is))

-- none between empty parentheses, and else one more than the commas
abbrev pub parameters_among : List Item → ℕ
parameters_among [] = 0
parameters_among (i ∷ is) = suc (commas_among 0 (i ∷ is))

-- ---- what is kept of it

-- whether `static` stands before the name, outside brackets
abbrev pub has_static : List Token → Bool
has_static front = list_any (begins_word (codes "static")) (items_of front)

-- whether `synchronized` stands anywhere in it
abbrev pub has_synchronized : List Token → Bool
has_synchronized ts = list_any (is_word_token (codes "synchronized")) ts

-- a constructor's name is no name of Java
abbrev pub name_kept : HeadResult → List ℕ → List ℕ
name_kept Constructor name = codes "<new>"
name_kept _ name = name

pub record IsOutside (class : List ℕ) (front : List Token) (name : Token) (parentheses ts : List Token)
    (head : OutsideHead) : Type 0 where
  pub named : head.name ≡ name_kept head.result name.text
  pub placed : head.place ≡ name.place
  pub is_static : head.is_static ≡ has_static front
  pub has_synchronized : head.has_synchronized ≡ has_synchronized ts
  pub result : IsResult class name.text front head.result
  pub counted : head.parameters ≡ parameters_among (items_of (inside parentheses))
