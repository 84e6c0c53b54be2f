-- What one turn of a loop over a list adds.
use Rattle.std.proofs.Common.{◌≡◌, ℕ, ◌+◌, ◌<◌, List, [], ◌∷◌, ◌++◌, Option, None, Some, length, get_or, map, drop}
use Rattle.std.proofs.Common.{sym, ap, ◌∙◌, append_assoc}
use Rattle.std.proofs.lemmas.List.{drop_more}
use Rattle.std.specs.List.{flat_map, filter_map, cons_option}

-- what is left at an index begins with the element that is read there
pub rest_of : {X : Type 0} (xs : List X) (i : ℕ) (x : X) → i < length xs → x ≡ get_or xs i x →
    drop i xs ≡ x ∷ drop (i + 1) xs
rest_of xs i x within is = drop_more xs i x within ∙ ap (λ y. y ∷ drop (i + 1) xs) (sym is)

-- a list of lists, whose next list was added
pub flat_map_turn : {X Y : Type 0} (f : X → List Y) (made here : List Y) (x : X) (rest : List X) → here ≡ f x →
    (made ++ here) ++ flat_map f rest ≡ made ++ flat_map f (x ∷ rest)
flat_map_turn f made here x rest is = append_assoc made here (flat_map f rest)
    ∙ ap (λ ys. made ++ (ys ++ flat_map f rest)) is

-- a list of what is given, whose next element was added
pub filter_map_adds : {X Y : Type 0} (f : X → Option Y) (made : List Y) (x : X) (y : Y) (rest : List X) →
    f x ≡ Some y → (made ++ y ∷ []) ++ filter_map f rest ≡ made ++ filter_map f (x ∷ rest)
filter_map_adds f made x y rest is =
    append_assoc made (y ∷ []) (filter_map f rest) ∙ ap (λ o. made ++ cons_option o (filter_map f rest)) (sym is)

-- the same where nothing is given
pub filter_map_leaves : {X Y : Type 0} (f : X → Option Y) (made : List Y) (x : X) (rest : List X) → f x ≡ None →
    made ++ filter_map f rest ≡ made ++ filter_map f (x ∷ rest)
filter_map_leaves f made x rest is = ap (λ o. made ++ cons_option o (filter_map f rest)) (sym is)

-- a list of what is made of each element, whose next element was added
pub map_turn : {X Y : Type 0} (f : X → Y) (xs : List X) (i : ℕ) (x : X) (made more : List Y) → i < length xs →
    more ≡ made ++ f (get_or xs i x) ∷ [] → more ++ map f (drop (i + 1) xs) ≡ made ++ map f (drop i xs)
map_turn f xs i x made more within adds =
    let rest = drop (i + 1) xs in
    ap (λ ys. ys ++ map f rest) adds
    ∙ append_assoc made (f (get_or xs i x) ∷ []) (map f rest)
    ∙ ap (λ ys. made ++ map f ys) (sym (drop_more xs i x within))
