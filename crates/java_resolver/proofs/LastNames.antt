-- The last of some names.
use Rattle.std.proofs.Common.{◌≡◌, ℕ, suc, zero, ◌-◌, ◌<◌, List, [], ◌∷◌, length, get_or, refl, arith}
use Rattle.std.specs.Prelude.{bytes_eq}
use Rattle.java_resolver.specs.Words.{ends_with}

ends_with_at : (name : List ℕ) (xs : List (List ℕ)) (n : ℕ) (d : List ℕ) → length xs ≡ suc n →
    ends_with name xs ≡ bytes_eq (get_or xs n d) name
ends_with_at name [] n d size = absurd (omega arith)
ends_with_at name (x ∷ []) zero d size = refl
ends_with_at name (x ∷ []) (suc n) d size = absurd (omega arith)
ends_with_at name (x ∷ y ∷ ys) zero d size = absurd (omega arith)
ends_with_at name (x ∷ y ∷ ys) (suc n) d size = ends_with_at name (y ∷ ys) n d (omega arith)

pub ends_with_last : (name : List ℕ) (xs : List (List ℕ)) (d : List ℕ) → 0 < length xs →
    ends_with name xs ≡ bytes_eq (get_or xs (length xs - 1) d) name
ends_with_last name xs d some = ends_with_at name xs (length xs - 1) d (omega arith)
