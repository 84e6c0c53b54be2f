-- No public contract rests on this: types in angle brackets, none of which is a wildcard (JLS 15.12, 15.13).
use Rattle.std.specs.Prelude.{ℕ, List, Option, Some, codes, map}
use Rattle.java_tree.specs.declared.words.Spelled.{Spelled}
use Rattle.java_tree.specs.Trees.{Arguments, Angled, Exact, pack_arguments}
use Rattle.java_parser_grammar.specs.Taking.{◌>>=◌, after_angle}
use Rattle.java_parser_grammar.specs.TypeReading.{between_each, ty_at}

-- read behind the `<`, each behind a comma, with the `>`
abbrev pub exact_types_at : ℕ → List Spelled → Option (Option Arguments × List Spelled)
exact_types_at n ts = do
  types ← between_each (codes ",") (ty_at n) ts
  angle ← after_angle types.1
  Some (Some (Angled (pack_arguments (map Exact types.0)) angle.0), angle.1)
