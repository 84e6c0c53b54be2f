-- A contract of a public call rests on this: facts of each element of a list, and the formed annotations and modifiers
-- of variables (JLS 9.7, 14.4).
use Rattle.std.specs.Prelude.{ℕ, Bool, true, false, List, [], ◌∷◌, IsTrue, codes, bytes_eq}
use Rattle.java_tree.specs.Brackets.{are_parentheses_or_none}
use Rattle.java_tree.specs.Trees.{Annotation, Modifier, Word, Annotated}

-- ---- lists

-- the fact holds of each element
abbrev pub Each : {A : Type 0} → (A → Type 0) → List A → Type 0
Each P [] = Unit {0}
Each P (x ∷ xs) = P x × Each P xs

-- whether there is an element; so are has_part, has_argument, has_expr and has_init
abbrev pub has_some : {A : Type 0} → List A → Bool
has_some [] = false
has_some (x ∷ xs) = true

-- ---- modifiers (JLS 8.4.3, 9.7, 14.4)

-- names, and parentheses with any balanced tokens or none (JLS 9.7)
abbrev pub FormedAnnotation : Annotation → Type 0
FormedAnnotation n = IsTrue (has_some n.names) × IsTrue (are_parentheses_or_none n.arguments)

-- a word before a variable's type is `final` (JLS 14.4)
abbrev pub FormedVariableModifier : Modifier → Type 0
FormedVariableModifier (Word text) = IsTrue (bytes_eq text (codes "final"))
FormedVariableModifier (Annotated n) = FormedAnnotation n

abbrev pub have_no_word : List Modifier → Bool
have_no_word [] = true
have_no_word (Word text ∷ ms) = false
have_no_word (Annotated n ∷ ms) = have_no_word ms

abbrev pub have_one_word : List Modifier → Bool
have_one_word [] = true
have_one_word (Word text ∷ ms) = have_no_word ms
have_one_word (Annotated n ∷ ms) = have_one_word ms

-- annotations, and `final` at most once
abbrev pub FormedVariableModifiers : List Modifier → Type 0
FormedVariableModifiers ms = Each FormedVariableModifier ms × IsTrue (have_one_word ms)
