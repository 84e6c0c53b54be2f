-- No public contract rests on this: reading what stands before the name of a variable, by itself.
use Rattle.std.specs.Prelude.{ℕ, List, Some, map}
use Rattle.java_tree.specs.KeptPlaces.{Puts, some_onto, each_marks, modifier_marks, ty_places}
use Rattle.java_tree.specs.Trees.{Ty, Modifier}
use Rattle.java_tree.specs.View.{ty_of, modifier_of}
use Rattle.java_parser_grammar.specs.BalancedReading.{Reading, before_type_at}
use Rattle.java_parser_grammar.specs.Taking.{◌>>=◌}
use Rattle.java_parser_grammar.specs.Readers.{Readers}
use Rattle.java_parser_methods.specs.declared.typed.TypedFront.{TypedFront}

-- modifiers and a type
abbrev pub typed_at : Readers → ℕ → Reading (List Modifier × Ty)
typed_at readers n ts = do
  ms ← before_type_at ts
  t ← readers.ty n ms.1
  Some ((ms.0, t.0), t.1)

abbrev pub typed_of : TypedFront → List Modifier × Ty
typed_of front = (map modifier_of front.modifiers, ty_of front.kind.value)

-- its places, and then the rest
abbrev pub typed_places : TypedFront → Puts
typed_places front rest = each_marks modifier_marks front.modifiers (some_onto (ty_places front.kind.value) rest)
