-- Loops that go from the back.
use Rattle.std.proofs.Common.{◌≡◌, ℕ, suc, ◌-◌, ◌<◌, ◌≤◌, List, ◌∷◌, length, drop, get_or, sym, ap, ◌∙◌, arith}
use Rattle.std.proofs.Math.Seq.{drop-cons}

-- one more item
pub one-before : {A : Type 0} (xs : List A) (i : ℕ) (x : A) → 0 < i → i ≤ length xs → x ≡ get_or xs (i - 1) x →
    drop (i - 1) xs ≡ x ∷ drop i xs
one-before {A} xs i x some within is =
    let next : suc (i - 1) ≡ i = omega (arith, some) in
    let fits : i - 1 < length xs = omega (arith, some, within) in
    drop-cons xs (i - 1) x fits ∙ ap (λ (y : A). y ∷ drop (suc (i - 1)) xs) (sym is)
    ∙ ap (λ n. x ∷ drop n xs) next
