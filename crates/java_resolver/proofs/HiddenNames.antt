-- Names that are hidden, and the last of some parameters.
use Rattle.std.proofs.Common.{◌≡◌, ℕ, suc, zero, ◌-◌, ◌<◌, List, [], ◌∷◌, length, get_or, is_some, refl, ap, ◌∙◌, arith}
use Rattle.std.specs.Prelude.{bytes_eq}
use Rattle.java_tree.specs.declared.methods.ParameterTree.{ParameterTree}
use Rattle.java_resolver.specs.Declarations.{takes_any_number}
use Rattle.java_resolver.specs.Hidden.{is_hidden}
use Rattle.java_resolver.specs.NameNumbers.{FindsNames}
use Rattle.keyed_numbers.specs.Numbers.{Named, number_at}
use Rattle.java_resolver.proofs.SecondOnes.{any_first}

pub hidden_found : (numbers : Named) (names : List (List ℕ)) (name : List ℕ) → FindsNames numbers names →
    is_some (number_at numbers name (0, 0)) ≡ is_hidden names name
hidden_found numbers names name finds =
    ap is_some (finds name (0, 0)) ∙ any_first (λ (h : List ℕ). bytes_eq h name) names

takes_at : (ps : List ParameterTree) (n : ℕ) (d : ParameterTree) → length ps ≡ suc n →
    takes_any_number ps ≡ (get_or ps n d).any_number
takes_at [] n d size = absurd (omega arith)
takes_at (p ∷ []) zero d size = refl
takes_at (p ∷ []) (suc n) d size = absurd (omega arith)
takes_at (p ∷ q ∷ ps) zero d size = absurd (omega arith)
takes_at (p ∷ q ∷ ps) (suc n) d size = takes_at (q ∷ ps) n d (omega arith)

pub takes_last : (ps : List ParameterTree) (d : ParameterTree) → 0 < length ps →
    takes_any_number ps ≡ (get_or ps (length ps - 1) d).any_number
takes_last ps d some = takes_at ps (length ps - 1) d (omega arith)
