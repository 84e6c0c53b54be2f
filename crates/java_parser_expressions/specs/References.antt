-- No public contract rests on this: method references and class literals, by what stands in front.
use Rattle.std.specs.Prelude.{ℕ}
use Rattle.java_tree.specs.Trees.{Expr}
use Rattle.java_parser_grammar.specs.Taking.{◌>>=◌}
use Rattle.java_parser_grammar.specs.TypeReading.{ty_at}
use Rattle.java_parser_grammar.specs.BalancedReading.{Reading}
use Rattle.java_parser_grammar.specs.ExpressionReading.{type_reference_at}

-- a reference to the type in front (JLS 15.13)
abbrev pub typed_reference_at : ℕ → Reading Expr
typed_reference_at n ts = do
  t ← ty_at n ts
  type_reference_at n t.0 t.1
