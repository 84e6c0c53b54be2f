-- A contract of a public call rests on this: the laws `units_are_total` and `tokens_are_few`. That each list of tokens
-- is a unit or has a fault.
use Rattle.std.specs.Prelude.{◌≡◌, ℕ, ◌<◌, ◌≤◌, Ok, ◌^◌, ◌⊎◌, List, length}
use Rattle.racer_base.specs.declared.ids.Place.{Place}
use Rattle.racer_base.specs.declared.ids.FileId.{FileId}
use Rattle.java_lexer.specs.declared.token.Token.{Token}
use Rattle.java_lexer.specs.declared.token.Lexed.{Lexed}
use Rattle.java_lexer.specs.JavaTokens.{lexed_answer}
use Rattle.java_tree.specs.declared.unit.Unit as unit
use Rattle.java_tree.specs.declared.unit.ParseFault.{ParseFault}
use Rattle.java_tree.specs.declared.unit.ParseFault.TheVariants.{Memory}
use Rattle.java_parser_grammar.specs.Units.{IsUnit, IsFault}

-- a list in memory has fewer elements than this
abbrev pub most : ℕ
most = 2 ^ 63

-- a fault that says something of the tokens
abbrev pub IsTold : ParseFault → Type 0
IsTold Memory = ⊥
IsTold _ = Unit {0}

-- the tokens of a file that ends at this place are a unit, or have a fault that is no want of memory
abbrev pub IsUnitOrFault : List Token → (end : Place) → Type 0
IsUnitOrFault ts end =
    ((u : unit.Unit) × IsUnit ts u) ⊎ ((fault : ParseFault) × IsTold fault × IsFault ts end fault)

-- so are all tokens that there can be in memory
abbrev pub IsTotalUnits : Type 0
IsTotalUnits = (ts : List Token) (end : Place) → length ts < most → IsUnitOrFault ts end

-- a file has no more tokens than bytes
abbrev pub AreTokensFew : Type 0
AreTokensFew = (file : FileId) (bytes : List ℕ) (lexed : Lexed) → lexed_answer file bytes ≡ Ok lexed
    → length lexed.tokens ≤ length bytes
