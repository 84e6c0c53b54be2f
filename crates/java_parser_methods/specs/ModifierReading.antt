-- A contract of a public call rests on this: reading modifiers of types, methods, fields and variables alike.
use Rattle.std.specs.Prelude.{ℕ, zero, suc, Bool, false, List, [], ◌∷◌, Some, None, codes, bytes_eq}
use Rattle.racer_base.specs.Name.{is_listed}
use Rattle.java_tree.specs.FormedMethods.{is_method_modifier}
use Rattle.java_tree.specs.Trees.{Modifier, Word}
use Rattle.java_parser_grammar.specs.Taking.{◌>>=◌, match_option}
use Rattle.java_parser_grammar.specs.BalancedReading.{Reading}
use Rattle.java_parser_grammar.specs.ClassHeadReading.{modifier_at}
use Rattle.java_parser_grammar.specs.Declarations.{type_modifiers}
use Rattle.java_parser_grammar.specs.FieldDivisions.{is_field_modifier}
use Rattle.java_parser_methods.specs.declared.modifiers.ModifierWords.{ModifierWords}
use Rattle.java_parser_methods.specs.declared.modifiers.ModifierWords.TheVariants as words

-- whether the text is one of these words
abbrev pub is_word : ModifierWords → List ℕ → Bool
is_word words.Method text = is_method_modifier text
is_word words.Field text = is_field_modifier text
is_word words.Type text = is_listed type_modifiers text
is_word words.Variable text = bytes_eq text (codes "final")
is_word words.Nothing text = false

-- the words that may still come behind one of them: `final` stands once
abbrev pub words_behind : ModifierWords → Modifier → ModifierWords
words_behind words.Variable (Word text) = words.Nothing
words_behind ws m = ws

-- words and annotations, as long as they come
unfoldable pub listed_at : ModifierWords → ℕ → Reading (List Modifier)
listed_at ws zero ts = None
listed_at ws (suc m) ts = do
  one ← modifier_at (is_word ws) ts
  match_option one (Some ([], ts)) (λ x. do
    others ← listed_at (words_behind ws x.0) m x.1
    Some (x.0 ∷ others.0, others.1))
