-- A contract of a public call rests on this: units that are read from the tokens of files, which are numbered in order.
use Rattle.std.specs.Prelude.{◌≡◌, ℕ, suc, List, [], ◌∷◌, Ok}
use Rattle.java_lexer.specs.declared.token.Lexed.{Lexed}
use Rattle.java_lexer.specs.JavaTokens.{lexed_answer}
use Rattle.java_tree.specs.declared.unit.Unit as unit
use Rattle.java_parser_grammar.specs.Units.{IsUnit}

-- a unit is read from the tokens of the n-th file, whatever its bytes are
pub record IsFromTokens (n : ℕ) (u : unit.Unit) : Type 0 where
  pub bytes : List ℕ
  pub lexed : Lexed
  pub tokens : lexed_answer (record { 0 = n }) bytes ≡ Ok lexed
  pub unit : IsUnit lexed.tokens u

-- each of these, numbered from n on
abbrev pub AreFromTokens : (n : ℕ) → List unit.Unit → Type 0
AreFromTokens n [] = Unit {0}
AreFromTokens n (u ∷ us) = IsFromTokens n u × AreFromTokens (suc n) us
