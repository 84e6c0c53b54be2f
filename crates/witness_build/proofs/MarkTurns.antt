-- One turn of the loop that makes the marks of warnings, and its end.
use Rattle.std.proofs.Common.{◌≡◌, ℕ, ◌+◌, ◌<◌, ◌≤◌, List, [], ◌∷◌, ◌++◌, length, get_or, map, drop}
use Rattle.std.proofs.Common.{sym, ap, ◌∙◌, append_assoc, append-nil}
use Rattle.std.proofs.lemmas.List.{drop_more, at_drop_all, map-append}

-- the next one was made, which is seen as what the next element gives
pub seen_turn : {X Y Z : Type 0} (f : X → Z) (g : Y → Z) (xs : List X) (i : ℕ) (x : X) (y : Y) (made more : List Y) →
    i < length xs → more ≡ made ++ y ∷ [] → g y ≡ f (get_or xs i x) →
    map g more ++ map f (drop (i + 1) xs) ≡ map g made ++ map f (drop i xs)
seen_turn f g xs i x y made more within adds is =
    let rest = map f (drop (i + 1) xs) in
    ap (λ ys. map g ys ++ rest) adds
    ∙ ap (λ zs. zs ++ rest) (map-append g made (y ∷ []) ∙ ap (λ z. map g made ++ z ∷ []) is)
    ∙ append_assoc (map g made) (f (get_or xs i x) ∷ []) rest
    ∙ ap (λ ys. map g made ++ map f ys) (sym (drop_more xs i x within))

-- all are made
pub seen_all : {X Y Z : Type 0} (f : X → Z) (g : Y → Z) (xs : List X) (i : ℕ) (made : List Y) → length xs ≤ i →
    map g made ≡ map g made ++ map f (drop i xs)
seen_all f g xs i made past =
    sym (append-nil (map g made)) ∙ ap (λ zs. map g made ++ zs) (sym (at_drop_all (map f) xs i past))
