-- Two lists whose elements go together are used alike.
use Rattle.std.proofs.Common.{◌≡◌, Bool, true, false, cond, List, [], ◌∷◌, ◌++◌, map, refl, ap, ◌∙◌}
use Rattle.std.specs.Prelude.{◌||◌}
use Rattle.std.specs.List.{AllZip, flat_map, list_any}
use Rattle.racer_base.proofs.Lists.{same_4}

-- ---- equal parts

pub same_5 : {A B C D E R : Type 0} (f : A → B → C → D → E → R) {a x : A} {b y : B} {c z : C} {d w : D} {e v : E}
    → a ≡ x → b ≡ y → c ≡ z → d ≡ w → e ≡ v → f a b c d e ≡ f x y z w v
same_5 f {x = x} {b = b} {c = c} {d = d} {e = e} p q r s t = ap (λ u. f u b c d e) p ∙ same_4 (f x) q r s t

-- ---- lists

pub zip-equal : {A : Type 0} (R : A → A → Type 0) → ((x y : A) → R x y → x ≡ y) → (xs ys : List A) → AllZip R xs ys
    → xs ≡ ys
zip-equal R one [] [] h = refl
zip-equal R one [] (y ∷ ys) h = absurd h
zip-equal R one (x ∷ xs) [] h = absurd h
zip-equal R one (x ∷ xs) (y ∷ ys) h = ap (λ t. t ∷ xs) (one x y h.0) ∙ ap (λ l. y ∷ l) (zip-equal R one xs ys h.1)

pub zip-map : {A B : Type 0} (R : A → A → Type 0) (f : A → B) → ((x y : A) → R x y → f x ≡ f y) → (xs ys : List A)
    → AllZip R xs ys → map f xs ≡ map f ys
zip-map R f one [] [] h = refl
zip-map R f one [] (y ∷ ys) h = absurd h
zip-map R f one (x ∷ xs) [] h = absurd h
zip-map R f one (x ∷ xs) (y ∷ ys) h =
    ap (λ t. t ∷ map f xs) (one x y h.0) ∙ ap (λ l. f y ∷ l) (zip-map R f one xs ys h.1)

-- by two functions
pub zip-flat : {A B : Type 0} (R : A → A → Type 0) (f g : A → List B) → ((x y : A) → R x y → f x ≡ g y)
    → (xs ys : List A) → AllZip R xs ys → flat_map f xs ≡ flat_map g ys
zip-flat R f g one [] [] h = refl
zip-flat R f g one [] (y ∷ ys) h = absurd h
zip-flat R f g one (x ∷ xs) [] h = absurd h
zip-flat R f g one (x ∷ xs) (y ∷ ys) h =
    ap (λ t. t ++ flat_map f xs) (one x y h.0) ∙ ap (λ l. g y ++ l) (zip-flat R f g one xs ys h.1)

pub zip-any : {A : Type 0} (R : A → A → Type 0) (f : A → Bool) → ((x y : A) → R x y → f x ≡ f y) → (xs ys : List A)
    → AllZip R xs ys → list_any f xs ≡ list_any f ys
zip-any R f one [] [] h = refl
zip-any R f one [] (y ∷ ys) h = absurd h
zip-any R f one (x ∷ xs) [] h = absurd h
zip-any R f one (x ∷ xs) (y ∷ ys) h =
    ap (λ t. t || list_any f xs) (one x y h.0) ∙ ap (λ b. f y || b) (zip-any R f one xs ys h.1)

pub zip-append : {A : Type 0} (R : A → A → Type 0) (xs ys us vs : List A) → AllZip R xs ys → AllZip R us vs
    → AllZip R (xs ++ us) (ys ++ vs)
zip-append R [] [] us vs h k = k
zip-append R [] (y ∷ ys) us vs h k = absurd h
zip-append R (x ∷ xs) [] us vs h k = absurd h
zip-append R (x ∷ xs) (y ∷ ys) us vs h k = (h.0, zip-append R xs ys us vs h.1 k)

pub zip-zips : {A B : Type 0} (R : A → A → Type 0) (S : B → B → Type 0) (f g : A → List B)
    → ((x y : A) → R x y → AllZip S (f x) (g y)) → (xs ys : List A) → AllZip R xs ys
    → AllZip S (flat_map f xs) (flat_map g ys)
zip-zips R S f g one [] [] h = tt
zip-zips R S f g one [] (y ∷ ys) h = absurd h
zip-zips R S f g one (x ∷ xs) [] h = absurd h
zip-zips R S f g one (x ∷ xs) (y ∷ ys) h =
    zip-append S (f x) (g y) (flat_map f xs) (flat_map g ys) (one x y h.0) (zip-zips R S f g one xs ys h.1)

-- an element that stands there by a test
pub zip-unless : {A : Type 0} (R : A → A → Type 0) (b : Bool) (x y : A) → R x y
    → AllZip R (cond b [] (x ∷ [])) (cond b [] (y ∷ []))
zip-unless R true x y r = tt
zip-unless R false x y r = (r, tt)

-- ---- what is seen alike is equal

pub map-injective : {A B : Type 0} (f : A → B) → ((x y : A) → f x ≡ f y → x ≡ y) → (xs ys : List A)
    → map f xs ≡ map f ys → xs ≡ ys
map-injective f one [] [] e = refl
map-injective f one [] (y ∷ ys) e = absurd (cc e)
map-injective f one (x ∷ xs) [] e = absurd (cc e)
map-injective f one (x ∷ xs) (y ∷ ys) e =
    ap (λ t. t ∷ xs) (one x y (cc e)) ∙ ap (λ l. y ∷ l) (map-injective f one xs ys (cc e))
