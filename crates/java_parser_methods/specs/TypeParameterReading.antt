-- No public contract rests on this: reading parts of type parameters by themselves.
use Rattle.std.specs.Prelude.{ℕ, Bool, List, [], map, Some, codes}
use Rattle.java_tree.specs.KeptPlaces.{Puts, each_marks}
use Rattle.java_tree.specs.MethodPlaces.{type_parameter_marks}
use Rattle.java_tree.specs.Trees.{Ty, TypeParameter}
use Rattle.java_tree.specs.View.{type_parameter_of}
use Rattle.java_parser_grammar.specs.BalancedReading.{Reading}
use Rattle.java_parser_grammar.specs.MethodReading.{type_parameter_at}
use Rattle.java_parser_grammar.specs.Readers.{Readers}
use Rattle.java_parser_grammar.specs.StatementReading.{comma_list}
use Rattle.java_parser_grammar.specs.Taking.{◌>>=◌, match_option, after_keyword, after_angle}
use Rattle.java_parser_grammar.specs.TypeReading.{between_each}
use Rattle.java_parser_methods.specs.declared.type_parameters.AngledParameters.{AngledParameters}

-- type parameters, and whether the `>` behind them is glued
abbrev pub Angled : Type 0
Angled = List TypeParameter × Bool

abbrev pub angled_of : AngledParameters → Angled
angled_of ps = (map type_parameter_of ps.items, ps.glued)

abbrev pub angled_places : AngledParameters → Puts
angled_places ps rest = each_marks type_parameter_marks ps.items rest

module _ (readers : Readers) where
  -- the bounds behind `extends`, where this stands
  abbrev pub bounds_at : ℕ → Reading (List Ty)
  bounds_at n ts = match_option (after_keyword (codes "extends") ts) (Some ([], ts)) (between_each (codes "&")
      (readers.ty n))

  -- type parameters behind their `<`, and the `>`
  abbrev pub angled_at : ℕ → Reading Angled
  angled_at n ts = do
    ps ← comma_list (type_parameter_at readers n) ts
    angle ← after_angle ps.1
    Some ((ps.0, angle.0), angle.1)
