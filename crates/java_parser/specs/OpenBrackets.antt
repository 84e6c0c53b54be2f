-- A contract of a public call rests on this: what is said of the brackets of a file, and the code's stack of open ones.
use Rattle.std.specs.Prelude.{◌≡◌, Bool, true, false, List, [], ◌∷◌, Option, Some, None}
use Rattle.java_lexer.specs.declared.token.Token.{Token}
use Rattle.java_tree.specs.declared.unit.ParseFault.{ParseFault}
use Rattle.java_tree.specs.declared.unit.ParseFault.TheVariants.{Unbalanced, TooDeep, NotAUnit, Memory}
use Rattle.java_parser_grammar.specs.Brackets.{unbalanced, too_deep}

-- the innermost first, of a list that has it last; others are further out
abbrev pub open_onto : List Token → List Token → List Token
open_onto [] outer = outer
open_onto (t ∷ ts) outer = open_onto ts (t ∷ outer)

-- whether one more token fits, and what is open behind it
abbrev pub IsOpened : Bool → List Token → Option (List Token) → Type 0
IsOpened true behind os = os ≡ Some behind
IsOpened false behind os = os ≡ None

pub record IsBalanced (ts : List Token) : Type 0 where
  pub balanced : unbalanced [] ts ≡ None
  pub flat : too_deep 0 ts ≡ None

-- nothing is said where memory was refused
abbrev pub IsBracketFault : List Token → ParseFault → Type 0
IsBracketFault ts (Unbalanced place) = unbalanced [] ts ≡ Some place
IsBracketFault ts (TooDeep place) = (unbalanced [] ts ≡ None) × (too_deep 0 ts ≡ Some place)
IsBracketFault ts (NotAUnit place) = ⊥
IsBracketFault ts Memory = Unit {0}
