-- The first bytes of a file.
use Rattle.std.proofs.Common.{◌≡◌, ℕ, List, length, take, min, Option, None, Some, sym, ap, ◌∙◌, arith}
use Rattle.std.proofs.lemmas.List.{length-take, take_min}
use Rattle.std.specs.Option.{option_map, IfSome}

-- a cut at the smaller of the most that is asked for and the length
pub is_within : (bytes : List ℕ) (most len n : ℕ) → len ≡ length bytes → n ≡ min most len → n ≡ length (take n bytes)
is_within bytes most len n is least = omega (arith, is, least, length-take n bytes)

-- what is read of a file
pub is_read : (file : Option (List ℕ)) (bytes piece : List ℕ) (most len n : ℕ) → Some bytes ≡ file →
    len ≡ length bytes → n ≡ min most len → piece ≡ take n bytes → option_map (take most) file ≡ Some piece
is_read file bytes piece most len n found is least cut =
    ap (option_map (take most)) (sym found)
    ∙ ap Some (sym (take_min most bytes) ∙ ap (λ k. take (min most k) bytes) (sym is)
    ∙ ap (λ k. take k bytes) (sym least) ∙ sym cut)

-- what holds whatever there is
pub if_any : {A : Type 0} (o : Option A) (P : A → Type 0) → ((x : A) → P x) → IfSome o P
if_any None P h = tt
if_any (Some x) P h = h x
