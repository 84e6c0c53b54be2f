-- No public contract rests on this: annotations of a class, one after the other.
use Rattle.std.specs.Prelude.{List, [], ◌∷◌, ◌++◌}
use Rattle.java_tree.specs.Trees.{Annotation, Modifier, Word, Annotated}

-- behind these an annotation; a word is left out
abbrev pub added : List Annotation → Modifier → List Annotation
added ns (Word text) = ns
added ns (Annotated n) = ns ++ n ∷ []
