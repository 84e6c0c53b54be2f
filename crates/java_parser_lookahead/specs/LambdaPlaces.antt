-- A contract of a public call rests on this: what is read where a lambda may stand beside other expressions (JLS 15.27).
use Rattle.std.specs.Prelude.{ℕ, List}
use Rattle.java_tree.specs.declared.words.Spelled.{Spelled}
use Rattle.java_parser_grammar.specs.ExpressionReading.{lambda_level}
use Rattle.java_parser_lookahead.specs.declared.lambdas.Lambdas as lambdas
use Rattle.java_parser_lookahead.specs.declared.lambdas.Lambdas.TheVariants as stand

-- the level of a part, which at any level may be a lambda where these stand anywhere
abbrev pub part_level : lambdas.Lambdas → (level : ℕ) → List Spelled → ℕ
part_level stand.AsAssignments l ts = l
part_level stand.Anywhere l ts = lambda_level l ts
