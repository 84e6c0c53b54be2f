-- A contract of a public call rests on this: the brackets of the code that are still to be closed.
use Rattle.std.specs.Prelude.{ℕ, List, [], ◌∷◌, Option, Some, None, codes}
use Rattle.java_tree.specs.declared.words.Spelled.{Spelled}
use Rattle.java_parser_lookahead.specs.declared.brackets.Bracket.{Bracket}
use Rattle.java_parser_lookahead.specs.declared.brackets.Bracket.TheVariants as bracket
use Rattle.java_parser_lookahead.specs.declared.brackets.BracketStep.{BracketStep}
use Rattle.java_parser_lookahead.specs.declared.brackets.BracketStep.TheVariants as step

-- the sign that closes it
abbrev pub closing : Bracket → List ℕ
closing bracket.Round = codes ")"
closing bracket.Square = codes "]"
closing bracket.Curly = codes "}"

-- the signs that close these, the last of which is the innermost, and then others further out
abbrev pub awaited_onto : List Bracket → List (List ℕ) → List (List ℕ)
awaited_onto [] outer = outer
awaited_onto (b ∷ bs) outer = awaited_onto bs (closing b ∷ outer)

-- the closing brackets that are awaited behind a token, by what it is
abbrev pub stepped : BracketStep → List ℕ → List (List ℕ) → Option (List (List ℕ))
stepped (step.Opens b) inner outer = Some (closing b ∷ inner ∷ outer)
stepped step.Closes inner outer = Some outer
stepped step.Wrong inner outer = None
stepped step.Stays inner outer = Some (inner ∷ outer)

-- the first token and those behind it
abbrev pub first_at : List Spelled → Option (Spelled × List Spelled)
first_at [] = None
first_at (t ∷ ts) = Some (t, ts)
