-- No public contract rests on this: what a token is among type arguments, and what it does there (JLS 15.20).
use Rattle.std.specs.Prelude.{◌≡◌, ℕ, suc, Bool, false, ◌&&◌, List, ◌∷◌, nat_lt}
use Rattle.java_tree.specs.declared.words.Spelled.{Spelled}
use Rattle.java_parser_grammar.specs.Taking.{match_number}
use Rattle.java_parser_grammar.specs.TypeReading.{closes_angle, closes_bracket, no_operand_at}
use Rattle.java_parser_types.specs.declared.angles.AngleStep.{AngleStep}
use Rattle.java_parser_types.specs.declared.angles.AngleStep.TheVariants as step

-- whether so many type arguments close behind a token, by what it is
abbrev pub closes_behind : AngleStep → (limit depth : ℕ) → List Spelled → Bool
closes_behind step.Opens l d ts = nat_lt d l && closes_angle l (suc d) ts
closes_behind step.Closes l d ts = match_number d (no_operand_at ts) (λ e. closes_angle l e ts)
closes_behind step.Indexes l d ts = closes_bracket l d ts
closes_behind step.Stays l d ts = closes_angle l d ts
closes_behind step.Ends l d ts = false

-- the token is this among type arguments
abbrev pub Steps : Spelled → AngleStep → Type 0
Steps t s = (limit depth : ℕ) (ts : List Spelled) → closes_behind s limit depth ts ≡ closes_angle limit depth (t ∷ ts)
