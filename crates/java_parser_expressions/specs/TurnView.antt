-- No public contract rests on this: what a turn of the code gave.
use Rattle.std.specs.Prelude.{ℕ, ◌≤◌, length, map}
use Rattle.java_tree.specs.KeptPlaces.{Places, Puts, kept, expr_places}
use Rattle.java_tree.specs.View.{expr_of}
use Rattle.java_parser_expressions.specs.declared.progress.Progress.{Progress}
use Rattle.java_parser_expressions.specs.declared.progress.Progress.TheVariants as turned
use Rattle.java_parser_grammar.specs.ExpressionReading.{Turn, Stop, Next}
use Rattle.java_parser_types.specs.LedPlaces.{LeadsOn}
use Rattle.java_parser_types.specs.Tokens.{spelled}

-- a whole expression, or the left part of a larger one and the tokens behind it
abbrev pub turn_of : Progress → Turn
turn_of (turned.Stop e) = Stop (expr_of e.tree.value)
turn_of (turned.Next e rest) = Next (expr_of e.tree.value) (map spelled rest.now)

-- the marks of the expression
abbrev pub turn_puts : Progress → Puts
turn_puts (turned.Stop e) = expr_places e.tree.value
turn_puts (turned.Next e rest) = expr_places e.tree.value

-- the places of the tokens behind it: these here, where it is whole
abbrev pub turn_left : Progress → Places → Places
turn_left (turned.Stop e) here = here
turn_left (turned.Next e rest) here = kept rest.now

-- where what was read before leads to the tokens here, what the turn gave leads to those behind it
abbrev pub TurnLeadsOn : Puts → Progress → Places → Type 0
TurnLeadsOn before x here = LeadsOn before (turn_puts x) here (turn_left x here)

-- the expression is of a nesting of at most n
abbrev pub IsSmall : Progress → ℕ → Type 0
IsSmall (turned.Stop e) n = e.nesting ≤ n
IsSmall (turned.Next e rest) n = e.nesting ≤ n

-- at most n tokens stand behind it
abbrev pub IsWithin : Progress → ℕ → Type 0
IsWithin (turned.Stop e) n = Unit {0}
IsWithin (turned.Next e rest) n = length rest.now ≤ n
