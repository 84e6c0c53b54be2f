-- A contract of a public call rests on this: the formed methods (JLS 8.4, 8.8).
use Rattle.std.specs.Prelude.{◌≡◌, ℕ, Bool, true, false, not, ◌&&◌, List, [], ◌∷◌, Option, Some, None, IsTrue, codes}
use Rattle.racer_base.specs.Name.{is_listed}
use Rattle.java_tree.specs.Trees.{Modifier, Word, Annotated, Result, NoResult, VoidResult, TypeResult, Parameter}
use Rattle.java_tree.specs.Trees.{TypeParameter, TypeParameters, Method}
use Rattle.java_tree.specs.FormedModifiers.{Each, has_some, FormedAnnotation, FormedVariableModifiers}
use Rattle.java_tree.specs.Formed.{FormedTy, FormedThrown, FormedStmts}

-- the words of a method (JLS 8.4.3)
abbrev pub is_method_modifier : List ℕ → Bool
is_method_modifier text =
    is_listed
    (codes "public" ∷ codes "protected" ∷ codes "private" ∷ codes "static" ∷ codes "final" ∷ codes "synchronized"
    ∷ codes "strictfp" ∷ [])
    text

abbrev pub FormedModifier : Modifier → Type 0
FormedModifier (Word text) = IsTrue (is_method_modifier text)
FormedModifier (Annotated n) = FormedAnnotation n

abbrev pub FormedResult : Result → Type 0
FormedResult NoResult = Unit {0}
FormedResult VoidResult = Unit {0}
FormedResult (TypeResult t) = FormedTy t

abbrev pub FormedParameter : Parameter → Type 0
FormedParameter p = FormedVariableModifiers p.modifiers × FormedTy p.kind

-- only the last one takes any number of arguments
abbrev pub is_any_number_last : List Parameter → Bool
is_any_number_last [] = true
is_any_number_last (p ∷ []) = true
is_any_number_last (p ∷ q ∷ ps) = not p.any_number && is_any_number_last (q ∷ ps)

abbrev pub FormedTypeParameter : TypeParameter → Type 0
FormedTypeParameter p = Each FormedAnnotation p.annotations × Each FormedTy p.bounds

abbrev pub FormedTypeParameters : Option TypeParameters → Type 0
FormedTypeParameters None = Unit {0}
FormedTypeParameters (Some ps) =
    IsTrue (has_some ps.items) × Each FormedTypeParameter ps.items × Each FormedModifier ps.modifiers

-- `[ ]` behind the parameters belong to the type of the result (JLS 8.4)
abbrev pub is_typed : Result → Bool
is_typed (TypeResult t) = true
is_typed _ = false

abbrev pub FormedMethod : Method → Type 0
FormedMethod m =
    Each FormedModifier m.modifiers × FormedTypeParameters m.type_parameters × FormedResult m.result
    × Each FormedParameter m.parameters × IsTrue (is_any_number_last m.parameters)
    × (IsTrue (not (is_typed m.result)) → m.arrays ≡ 0) × Each FormedThrown m.throws × FormedStmts m.body
