-- A contract of a public call rests on this: reading what is kept as tokens: brackets with what stands in them
-- (JLS 3.11), and annotations (JLS 9.7).
use Rattle.std.specs.Prelude.{ℕ, zero, suc, Bool, true, false, List, [], ◌∷◌, length, Option, Some, None, codes}
use Rattle.std.specs.Prelude.{if◌then◌else◌}
use Rattle.java_tree.specs.declared.words.Spelled.{Spelled}
use Rattle.java_tree.specs.Brackets.{awaited_behind}
use Rattle.java_tree.specs.Trees.{Annotation, Modifier, Word, Annotated}
use Rattle.java_parser_grammar.specs.Taking.{◌>>=◌, match_option, after_sign, after_keyword, after_name}
use Rattle.java_parser_grammar.specs.TypeReading.{points}
use Rattle.java_parser_grammar.specs.Leads.{begins_with}

-- what is read from the front of tokens, and the tokens behind it
abbrev pub Reading : Type 0 → Type 0
Reading A = List Spelled → Option (A × List Spelled)

-- the tokens up to the one that closes the brackets that are awaited, and those behind it
unfoldable pub closed_at : List (List ℕ) → Reading (List Spelled)
closed_at [] ts = Some ([], ts)
closed_at (inner ∷ outer) [] = None
closed_at (inner ∷ outer) (t ∷ ts) = do
  awaited ← awaited_behind t inner outer
  closed ← closed_at awaited ts
  Some (t ∷ closed.0, closed.1)

-- one bracket and the tokens up to the one that closes it
abbrev pub between_at : (closing : List ℕ) → Reading (List Spelled)
between_at closing [] = None
between_at closing (t ∷ ts) = do
  closed ← closed_at (closing ∷ []) ts
  Some (t ∷ closed.0, closed.1)

-- the tokens of a pair of braces
abbrev pub braces_tokens_at : Reading (List Spelled)
braces_tokens_at ts = if begins_with (codes "{") ts then between_at (codes "}") ts else None

-- ---- annotations (JLS 9.7)

-- one pair of parentheses, where it stands
abbrev pub arguments_at : Reading (List Spelled)
arguments_at ts = if begins_with (codes "(") ts then between_at (codes ")") ts else Some ([], ts)

-- names joined by points
unfoldable pub names_at : Reading (List (List ℕ))
names_at ts = do
  x ← after_name ts
  others ← points after_name (length x.1) x.1
  Some (x.0 ∷ others.0, others.1)

-- an annotation, behind its `@`
unfoldable pub annotation_at : Reading Annotation
annotation_at ts = do
  xs ← names_at ts
  a ← arguments_at xs.1
  Some (record { names = xs.0; arguments = a.0 }, a.1)

-- annotations, as long as they come
unfoldable pub annotations_at : ℕ → Reading (List Annotation)
annotations_at zero ts = None
annotations_at (suc m) ts = match_option (after_sign (codes "@") ts) (Some ([], ts)) (λ r. do
  first ← annotation_at r
  others ← annotations_at m first.1
  Some (first.0 ∷ others.0, others.1))

-- ---- before the type of a variable (JLS 14.4)

-- annotations and, where it may still come, `final`, as long as they come
unfoldable pub variable_modifiers_at : (may_be_final : Bool) → ℕ → Reading (List Modifier)
variable_modifiers_at may_be_final zero ts = None
variable_modifiers_at may_be_final (suc m) ts =
    match_option (after_sign (codes "@") ts)
    (match_option (if may_be_final then after_keyword (codes "final") ts else None) (Some ([], ts)) (λ r. do
      others ← variable_modifiers_at false m r
      Some (Word (codes "final") ∷ others.0, others.1)))
    (λ r. do
      first ← annotation_at r
      others ← variable_modifiers_at may_be_final m first.1
      Some (Annotated first.0 ∷ others.0, others.1))

-- the same of all that come
abbrev pub before_type_at : Reading (List Modifier)
before_type_at ts = variable_modifiers_at true (length ts) ts
