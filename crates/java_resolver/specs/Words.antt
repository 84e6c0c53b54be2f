-- A contract of a public call rests on this: the words and annotations that a declaration has.
use Rattle.std.specs.Prelude.{ℕ, Bool, false, List, [], ◌∷◌, bytes_eq}
use Rattle.std.specs.List.{list_any}
use Rattle.java_tree.specs.declared.methods.AnnotationTree.{AnnotationTree}
use Rattle.java_tree.specs.declared.methods.ModifierTree.{ModifierTree}
use Rattle.java_tree.specs.declared.methods.ModifierTree.TheVariants.{Word, Annotated}

-- whether the last of the names is this one
abbrev pub ends_with : List ℕ → List (List ℕ) → Bool
ends_with name [] = false
ends_with name (x ∷ []) = bytes_eq x name
ends_with name (x ∷ y ∷ ys) = ends_with name (y ∷ ys)

-- an annotation counts by its last name
abbrev pub is_annotation_named : List ℕ → AnnotationTree → Bool
is_annotation_named name a = ends_with name a.names

abbrev pub is_modifier_named : List ℕ → ModifierTree → Bool
is_modifier_named name (Annotated a) = is_annotation_named name a
is_modifier_named name (Word text) = false

abbrev pub is_word : List ℕ → ModifierTree → Bool
is_word word (Word text) = bytes_eq text word
is_word word (Annotated a) = false

-- whether this word stands among the modifiers
abbrev pub has_word : List ℕ → List ModifierTree → Bool
has_word word = list_any (is_word word)

-- whether an annotation of this name stands among the modifiers
abbrev pub is_annotated : List ℕ → List ModifierTree → Bool
is_annotated name = list_any (is_modifier_named name)
