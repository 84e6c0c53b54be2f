-- Loops over what is left.
use Rattle.std.proofs.Common.{◌≡◌, ℕ, ◌+◌, ◌<◌, List, [], ◌∷◌, ◌++◌, map, length, drop, get_or, sym, ap, ◌∙◌}
use Rattle.std.proofs.Common.{append_assoc}
use Rattle.std.specs.List.{flat_map}
use Rattle.std.proofs.lemmas.List.{at_drop_more}

pub flat_map-step : {A B : Type 0} (f : A → List B) (xs : List A) (i : ℕ) (x : A) (made new whole : List B) →
    i < length xs → x ≡ get_or xs i x → new ≡ made ++ f x → made ++ flat_map f (drop i xs) ≡ whole →
    new ++ flat_map f (drop (i + 1) xs) ≡ whole
flat_map-step {A} {B} f xs i x made new whole within is e before =
    let rest : List B = flat_map f (drop (i + 1) xs) in
    ap (λ (ys : List B). ys ++ rest) e
    ∙ append_assoc made (f x) rest
    ∙ ap (λ (y : A). made ++ (f y ++ rest)) is
    ∙ sym (at_drop_more (λ (ys : List A). made ++ flat_map f ys) xs i x within)
    ∙ before

pub map-step : {A B : Type 0} (f : A → B) (xs : List A) (i : ℕ) (x : A) (made new : List B) (y : B)
    (whole : List B) → i < length xs → x ≡ get_or xs i x → new ≡ made ++ y ∷ [] → y ≡ f x →
    made ++ map f (drop i xs) ≡ whole → new ++ map f (drop (i + 1) xs) ≡ whole
map-step {A} {B} f xs i x made new y whole within is e same before =
    let rest : List B = map f (drop (i + 1) xs) in
    ap (λ (ys : List B). ys ++ rest) e
    ∙ append_assoc made (y ∷ []) rest
    ∙ ap (λ (z : B). made ++ z ∷ rest) (same ∙ ap f is)
    ∙ sym (at_drop_more (λ (ys : List A). made ++ map f ys) xs i x within)
    ∙ before

-- F is what the elements of two lists give side by side, and f what one of each gives: one turn, and the end
