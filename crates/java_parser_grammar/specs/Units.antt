-- A contract of a public call rests on this: what a file is read as (JLS 7.3), its classes with their members (JLS 8.1)
-- and the types that are skipped, or its first fault.
use Rattle.std.specs.Prelude.{◌≡◌, ℕ, ◌⊎◌, List, [], ◌∷◌, Some, None, map, length}
use Rattle.std.specs.List.{AllZip}
use Rattle.racer_base.specs.declared.ids.Place.{Place}
use Rattle.java_lexer.specs.declared.token.Token.{Token}
use Rattle.java_tree.specs.declared.methods.FieldTree.{FieldTree}
use Rattle.java_tree.specs.Trees.{Modifier, Method}
use Rattle.java_tree.specs.KeptPlaces.{kept}
use Rattle.java_tree.specs.KeptPlaces.{AreAt}
use Rattle.java_tree.specs.MethodPlaces.{method_marks}
use Rattle.java_tree.specs.View.{method_of, annotation_of}
use Rattle.java_tree.specs.declared.unit.Member.{Member}
use Rattle.java_tree.specs.declared.unit.Member.TheVariants as member
use Rattle.java_tree.specs.declared.unit.ClassTree.{ClassTree}
use Rattle.java_tree.specs.declared.unit.Unit as unit
use Rattle.java_tree.specs.declared.unit.ParseFault.{ParseFault}
use Rattle.java_tree.specs.declared.unit.ParseFault.TheVariants.{Unbalanced, TooDeep, NotAUnit, Memory}
use Rattle.java_parser_grammar.specs.Tokens.{first_place}
use Rattle.java_parser_grammar.specs.Cuts.{joined}
use Rattle.java_parser_grammar.specs.Brackets.{unbalanced, too_deep}
use Rattle.java_parser_grammar.specs.Pieces.{Item, items_of, inside}
use Rattle.java_parser_grammar.specs.ClassHeads.{annotations_in, IsHead, HasNoHead}
use Rattle.java_parser_grammar.specs.Declarations.{types_among, AreDeclarations, IsMisfit}
use Rattle.java_parser_grammar.specs.Members.{members_of, Form, SkippedForm, MethodForm, FieldForm}
use Rattle.java_parser_grammar.specs.Members.{form_of}
use Rattle.java_parser_grammar.specs.Heads.{IsMethod, IsOutside, has_synchronized}
use Rattle.java_parser_grammar.specs.FieldDivisions.{AreFields}

-- the first token stands at this place
abbrev pub BeginsAt : List Token → Place → Type 0
BeginsAt [] place = ⊥
BeginsAt (t ∷ ts) place = t.place ≡ place

-- ---- members

-- the tokens of a member of this form are read as this; the tree of a method keeps their places, that of its name also,
-- whether `synchronized` stands among them, and how many they are
abbrev pub HasForm : (class : List ℕ) → List Token → Form → Member → Type 0
HasForm class m SkippedForm (member.Skipped place) = BeginsAt m place
HasForm class m (MethodForm front name parentheses) (member.Method tree) =
    IsMethod class m (method_of tree) × AreAt (method_marks tree) (kept m)
    × (tree.has_synchronized ≡ has_synchronized m) × (tree.tokens ≡ length m)
HasForm class m (MethodForm front name parentheses) (member.Outside head) =
    ((tree : Method) → IsMethod class m tree → ⊥) × IsOutside class front name parentheses m head
HasForm class m FieldForm (member.Field f) = AreFields m f
HasForm class m FieldForm (member.Skipped place) = ((f : FieldTree) → AreFields m f → ⊥) × BeginsAt m place
HasForm class m _ _ = ⊥

abbrev pub IsMember : (class : List ℕ) → List Token → Member → Type 0
IsMember class m tree = HasForm class m (form_of m) tree

-- ---- types

-- the tokens in the braces at the end
abbrev pub body_among : List Item → List Token
body_among [] = []
body_among (i ∷ []) = inside i
body_among (i ∷ j ∷ is) = body_among (j ∷ is)

-- the tokens of a type are read as this class
pub record IsClass (type : List Token) (c : ClassTree) : Type 0 where
  pub modifiers : List Modifier
  pub name : Token
  pub head : IsHead type modifiers name
  pub named : c.name ≡ name.text
  pub placed : c.place ≡ name.place
  pub annotated : map annotation_of c.annotations ≡ annotations_in modifiers
  pub members : AllZip (IsMember c.name) (members_of (body_among (items_of type))) c.members

-- a type is read as the first of these classes, and this holds of the others
abbrev pub IsFirstClass : List Token → (List ClassTree → Type 0) → List ClassTree → Type 0
IsFirstClass type Rest [] = ⊥
IsFirstClass type Rest (c ∷ cs) = IsClass type c × Rest cs

-- a type that has no head begins at the first of these places, and this holds of the others
abbrev pub IsFirstSkipped : List Token → (List Place → Type 0) → List Place → Type 0
IsFirstSkipped type Rest [] = ⊥
IsFirstSkipped type Rest (place ∷ places) = HasNoHead type × BeginsAt type place × Rest places

-- types, one after the other: each is read as the next class, or has no head and begins at the next place
abbrev pub AreTypes : List (List Token) → List ClassTree → List Place → Type 0
AreTypes [] [] [] = Unit {0}
AreTypes [] classes skipped = ⊥
AreTypes (type ∷ types) classes skipped =
    IsFirstClass type (λ others. AreTypes types others skipped) classes
    ⊎ IsFirstSkipped type (λ others. AreTypes types classes others) skipped

-- ---- files

-- the tokens of a file are read as this
pub record IsUnit (ts : List Token) (u : unit.Unit) : Type 0 where
  pub balanced : unbalanced [] ts ≡ None
  pub flat : too_deep 0 ts ≡ None
  pub all : List (List Item)
  pub fit : AreDeclarations (items_of ts) all
  pub types : AreTypes (types_among all) u.classes u.skipped

-- the fault of a file that ends at this place: the first bracket that does not match, else the first that stands too
-- deep, else the first token that does not fit; nothing is said where memory was refused
abbrev pub IsFault : List Token → (end : Place) → ParseFault → Type 0
IsFault ts end (Unbalanced place) = unbalanced [] ts ≡ Some place
IsFault ts end (TooDeep place) = (unbalanced [] ts ≡ None) × (too_deep 0 ts ≡ Some place)
IsFault ts end (NotAUnit place) =
    (unbalanced [] ts ≡ None) × (too_deep 0 ts ≡ None) × (rest : List Item) × IsMisfit (items_of ts) rest
    × (first_place end (joined rest) ≡ place)
IsFault ts end Memory = Unit {0}
