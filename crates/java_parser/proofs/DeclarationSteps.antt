-- One step of the walk to the end of a declaration.
use Rattle.std.proofs.Common.{◌≡◌, Bool, true, false, List, ◌∷◌, Option, Some, None, refl, ap, sym, ◌∙◌}
use Rattle.std.proofs.Common.{codes}
use Rattle.java_parser_grammar.specs.Tokens.{begins_sign}
use Rattle.java_parser_grammar.specs.Pieces.{Item}
use Rattle.java_parser_grammar.specs.DeclarationWalk.{Seen, seen_with, is_whole}
use Rattle.java_parser.specs.FirstDeclaration.{First, Misfit, Declared, first_by, first_declared}

-- by what is seen with the next item
abbrev pub first_from : Option Seen → Item → List Item → First
first_from None i is = Misfit (i ∷ is)
first_from (Some m) i is = first_by (is_whole m) m i is (first_declared m is)

pub first_is : (seen : Seen) (i : Item) (is : List Item) →
    first_declared seen (i ∷ is) ≡ first_from (seen_with seen i) i is
first_is seen i is = by_next (seen_with seen i) where
  by_next : (o : Option Seen) → (elim o as (λ _. First) [
    | None ↦ Misfit (i ∷ is)
    | (Some m) ↦ first_by (is_whole m) m i is (first_declared m is)
  ])
      ≡ first_from o i is
  by_next None = refl
  by_next (Some m) = refl

first_step : (seen more : Seen) (is js : List Item) (i : Item) (b : Bool) → is ≡ i ∷ js → Some more ≡ seen_with seen i
    → is_whole more ≡ b → first_declared seen is ≡ first_by b more i js (first_declared more js)
first_step seen more is js i b e n w =
    ap (first_declared seen) e ∙ first_is seen i js ∙ ap (λ o. first_from o i js) (sym n)
    ∙ ap (λ c. first_by c more i js (first_declared more js)) w

pub declared_there : (seen more : Seen) (is js : List Item) (i : Item) → is ≡ i ∷ js → Some more ≡ seen_with seen i
    → is_whole more ≡ true → first_declared seen is ≡ Declared (begins_sign (codes "{") i) more js
declared_there seen more is js i e n w = first_step seen more is js i true e n w

pub not_yet : (seen more : Seen) (is js : List Item) (i : Item) → is ≡ i ∷ js → Some more ≡ seen_with seen i
    → is_whole more ≡ false → first_declared more js ≡ first_declared seen is
not_yet seen more is js i e n w = sym (first_step seen more is js i false e n w)
