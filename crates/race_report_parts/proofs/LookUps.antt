-- What a look-up by a number gives, and a list that is gathered in step with another.
use Rattle.std.proofs.Common.{◌≡◌, ℕ, ◌+◌, ◌<◌, true, false, List, [], ◌∷◌, ◌++◌, None, Some, length, map, get_or}
use Rattle.std.proofs.Common.{slice_get, drop, option_map, unwrap_or, refl, sym, ap, ◌∙◌}
use Rattle.std.proofs.Math.Dec.{ltb}
use Rattle.std.proofs.lemmas.Bool.{ltb-true, ltb-false}
use Rattle.std.proofs.lemmas.List.{map-append}
use Rattle.std.proofs.lemmas.Option.{slice_get-map, slice_get_read, slice_get_past}
use Rattle.std.proofs.lemmas.Option.{get_or_from_slice_get, unwrap_or-slice_get}
use Rattle.access_paths.specs.Text.{name_at}
use Rattle.racer_base.proofs.Lists.{one_turn}

found_at : {X : Type 0} (xs : List X) (i : ℕ) (x : X) → true ≡ ltb i (length xs) → x ≡ get_or xs i x →
    slice_get xs i ≡ Some x
found_at xs i x within at = slice_get_read xs (length xs) i x refl (ltb-true i (length xs) (sym within)) at

past_all : {X : Type 0} (xs : List X) (i : ℕ) → false ≡ ltb i (length xs) → slice_get xs i ≡ None
past_all xs i past = slice_get_past xs i (ltb-false i (length xs) (sym past))

pub option_found : {X Y : Type 0} (f : X → Y) (xs all : List X) (i : ℕ) (x : X) → xs ≡ all →
    true ≡ ltb i (length xs) → x ≡ get_or xs i x → Some (f x) ≡ option_map f (slice_get all i)
option_found f xs all i x same within at =
    sym (ap (λ ys. option_map f (slice_get ys i)) (sym same) ∙ ap (option_map f) (found_at xs i x within at))

pub option_past : {X Y : Type 0} (f : X → Y) (xs all : List X) (i : ℕ) → xs ≡ all → false ≡ ltb i (length xs) →
    None ≡ option_map f (slice_get all i)
option_past f xs all i same past =
    sym (ap (λ ys. option_map f (slice_get ys i)) (sym same) ∙ ap (option_map f) (past_all xs i past))

-- the name of a number, and none
pub name_found : {X : Type 0} (name : X → List ℕ) (xs all : List X) (i : ℕ) (x : X) (text : List ℕ) → xs ≡ all →
    true ≡ ltb i (length xs) → x ≡ get_or xs i x → text ≡ name x → text ≡ name_at (map name all) i
name_found name xs all i x text same within at is =
    is ∙ sym (get_or_from_slice_get (map name all) i (name x) []
    (slice_get-map name all i ∙ sym (option_found name xs all i x same within at)))

pub no_name : {X : Type 0} (name : X → List ℕ) (xs all : List X) (i : ℕ) → xs ≡ all → false ≡ ltb i (length xs) →
    [] ≡ name_at (map name all) i
no_name name xs all i same past =
    ap (λ o. unwrap_or o []) (option_past name xs all i same past ∙ sym (slice_get-map name all i))
    ∙ unwrap_or-slice_get (map name all) i []

-- one more in each of two lists: what F gives of all, and g of one
pub more_mapped : {A B C : Type 0} (F : List B → List C) (g : B → C) (f : A → C) (made more : List A) (a : A)
    (xs : List B) (i : ℕ) (x : B) → ((y : B) (ys : List B) → F (y ∷ ys) ≡ g y ∷ F ys) → i < length xs →
    x ≡ get_or xs i x → more ≡ made ++ a ∷ [] → f a ≡ g x →
    map f more ++ F (drop (i + 1) xs) ≡ map f made ++ F (drop i xs)
more_mapped F g f made more a xs i x splits within at grown same =
    one_turn F (λ y. g y ∷ []) xs i x (map f made) (map f more) splits within at
    (ap (map f) grown ∙ map-append f made (a ∷ []) ∙ ap (λ c. map f made ++ c ∷ []) same)
