-- No public contract rests on this: the types of a file, one after the other.
use Rattle.std.specs.Prelude.{◌≡◌, ◌⊎◌, List, [], ◌∷◌, ◌++◌, IsTrue}
use Rattle.racer_base.specs.declared.ids.Place.{Place}
use Rattle.java_lexer.specs.declared.token.Token.{Token}
use Rattle.java_tree.specs.FormedModifiers.{Each, has_some}
use Rattle.java_tree.specs.declared.unit.ClassTree.{ClassTree}
use Rattle.java_tree.specs.declared.unit.Unit as unit
use Rattle.java_parser_grammar.specs.ClassHeads.{HasNoHead}
use Rattle.java_parser_grammar.specs.Units.{BeginsAt, IsClass}

-- each has a token
abbrev pub HaveTokens : List (List Token) → Type 0
HaveTokens = Each (λ ts. IsTrue (has_some ts))

pub record AddsClass (type : List Token) (a b : unit.Unit) : Type 0 where
  pub class : ClassTree
  pub is : IsClass type class
  pub classes : b.classes ≡ a.classes ++ class ∷ []
  pub skipped : b.skipped ≡ a.skipped

pub record SkipsType (type : List Token) (a b : unit.Unit) : Type 0 where
  pub none : HasNoHead type
  pub place : Place
  pub begins : BeginsAt type place
  pub classes : b.classes ≡ a.classes
  pub skipped : b.skipped ≡ a.skipped ++ place ∷ []

abbrev pub AddsType : List Token → unit.Unit → unit.Unit → Type 0
AddsType type a b = AddsClass type a b ⊎ SkipsType type a b
