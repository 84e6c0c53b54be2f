-- What is given of each element of a list, where all are.
use Rattle.std.proofs.Common.{◌≡◌, ℕ, zero, suc, ◌+◌, ◌<◌, ◌≤◌, Bool, true, false, cond, not, ◌&&◌, ◌||◌}
use Rattle.std.proofs.Common.{List, [], ◌∷◌, ◌++◌, Some, None, map, filter, take, get_or, length, refl, sym, ap, subst}
use Rattle.std.proofs.Common.{◌∙◌, arith}
use Rattle.std.specs.Prelude.{Option, Err, is_some, option_map}
use Rattle.std.specs.List.{list_all, list_any}
use Rattle.std.specs.Option.{option_and_then}
use Rattle.std.proofs.lemmas.List.{get_or_default, take_more, take_all}
use Rattle.std.proofs.lemmas.Option.{none-some, same_Some}
use Rattle.racer_base.proofs.Lists.{same_given}
use Rattle.access_domain.specs.Records.{firsts}
use Rattle.transfer_ties.specs.declared.untied.Untied.{Untied}
use Rattle.transfer_ties.specs.declared.untied.Untied.TheVariants.{NoPartner, Memory}
use Rattle.transfer_ties.specs.Making.{IsGiven}
use Rattle.transfer_ties.specs.Partners.{all_given}

-- what is not given for want of a part
pub not_given : {X Y : Type 0} (part : Option X) (whole : Option Y) (why : Untied) → (part ≡ None → whole ≡ None) →
    IsGiven part (Err why) → IsGiven whole (Err why)
not_given part whole NoPartner none h = none h
not_given part whole Memory none h = tt

pub given_with : {X Y : Type 0} (f : X → Option Y) (o : Option X) (x : X) (y : Y) → o ≡ Some x → f x ≡ Some y →
    option_and_then f o ≡ Some y
given_with f o x y e h = ap (option_and_then f) e ∙ h

pub none_with : {X Y : Type 0} (f : X → Option Y) (o : Option X) → o ≡ None → option_and_then f o ≡ None
none_with f o e = ap (option_and_then f) e

pub none_behind : {X Y : Type 0} (f : X → Option Y) (o : Option X) → ((x : X) → f x ≡ None) →
    option_and_then f o ≡ None
none_behind f None none = refl
none_behind f (Some x) none = none x

module _ {A B : Type 0} (f : A → Option B) where
  abbrev put_last : Option B → List B → Option (List B)
  put_last o made = option_map (λ (y : B). made ++ y ∷ []) o

  abbrev put_first : Option (List B) → B → Option (List B)
  put_first o y = option_map (λ (ys : List B). y ∷ ys) o

  shuffled : (a : Option B) (b : Option (List B)) (c : Option B) →
      option_and_then (put_first (option_and_then (put_last c) b)) a ≡
      option_and_then (put_last c) (option_and_then (put_first b) a)
  shuffled None b c = refl
  shuffled (Some y) None c = refl
  shuffled (Some y) (Some made) None = refl
  shuffled (Some y) (Some made) (Some z) = refl

  alone : (o : Option B) → option_and_then (put_first (Some [])) o ≡ put_last o []
  alone None = refl
  alone (Some y) = refl

  given_push : (xs : List A) (x : A) →
      all_given (map f (xs ++ x ∷ [])) ≡ option_and_then (put_last (f x)) (all_given (map f xs))
  given_push [] x = alone (f x)
  given_push (z ∷ xs) x =
      ap (λ (o : Option (List B)). option_and_then (put_first o) (f z)) (given_push xs x)
      ∙ shuffled (f z) (all_given (map f xs)) (f x)

  pub given_next : (xs : List A) (i : ℕ) (x : A) (y : B) (made : List B) → i < length xs → x ≡ get_or xs i x →
      f x ≡ Some y → all_given (map f (take i xs)) ≡ Some made →
      all_given (map f (take (i + 1) xs)) ≡ Some (made ++ y ∷ [])
  given_next xs i x y made within is gives before =
      ap (λ (ys : List A). all_given (map f ys))
      (take_more xs i x within ∙ ap (λ (z : A). take i xs ++ z ∷ []) (sym is))
      ∙ given_push (take i xs) x
      ∙ ap (option_and_then (put_last (f x))) before
      ∙ ap (λ (o : Option B). put_last o made) gives

  pub given_all : (xs : List A) (i : ℕ) (made : List B) → length xs ≤ i → all_given (map f (take i xs)) ≡ Some made →
      all_given (map f xs) ≡ Some made
  given_all xs i made past before = ap (λ (ys : List A). all_given (map f ys)) (sym (take_all i xs past)) ∙ before

  pub none_given : (xs : List A) (i : ℕ) (x : A) → i < length xs → x ≡ get_or xs i x → f x ≡ None →
      all_given (map f xs) ≡ None
  none_given [] i x within is none = absurd (omega arith)
  none_given (z ∷ xs) zero x within is none =
      none_with (put_first (all_given (map f xs))) (f z) (ap f (sym is) ∙ none)
  none_given (z ∷ xs) (suc i) x within is none =
      none_behind (put_first (all_given (map f xs))) (f z)
      (λ y. ap (λ (o : Option (List B)). put_first o y) (none_given xs i x (omega (arith, within)) is none))

  -- of a list of values that are copied
  pub given_read : (xs : List A) (i : ℕ) (d : A) (y : B) (made new : List B) → i < length xs →
      Some y ≡ f (get_or xs i d) → new ≡ made ++ y ∷ [] → all_given (map f (take i xs)) ≡ Some made →
      all_given (map f (take (i + 1) xs)) ≡ Some new
  given_read xs i d y made new within gives pushed before =
      given_next xs i (get_or xs i d) y made within (get_or_default xs i d (get_or xs i d) within) (sym gives) before
      ∙ ap Some (sym pushed)

  pub none_read : (xs : List A) (i : ℕ) (d : A) → i < length xs → None ≡ f (get_or xs i d) →
      all_given (map f xs) ≡ None
  none_read xs i d within none =
      none_given xs i (get_or xs i d) within (get_or_default xs i d (get_or xs i d) within) (sym none)

-- what stays as it is
module _ {A : Type 0} (f : A → Option A) where
  pub stays_read : (xs : List A) (i : ℕ) (d : A) → i < length xs → f (get_or xs i d) ≡ Some (get_or xs i d) →
      all_given (map f (take i xs)) ≡ Some (take i xs) → all_given (map f (take (i + 1) xs)) ≡ Some (take (i + 1) xs)
  stays_read xs i d within stays before =
      given_next f xs i (get_or xs i d) (get_or xs i d) (take i xs) within
      (get_or_default xs i d (get_or xs i d) within) stays before
      ∙ ap Some (sym (take_more xs i d within))

  pub stays_next : (xs : List A) (i : ℕ) (x : A) → i < length xs → x ≡ get_or xs i x → f x ≡ Some x →
      all_given (map f (take i xs)) ≡ Some (take i xs) → all_given (map f (take (i + 1) xs)) ≡ Some (take (i + 1) xs)
  stays_next xs i x within is stays before =
      given_next f xs i x x (take i xs) within is stays before
      ∙ ap (λ (y : A). Some (take i xs ++ y ∷ [])) is
      ∙ ap Some (sym (take_more xs i x within))

  pub stays_all : (xs : List A) (i : ℕ) → length xs ≤ i → all_given (map f (take i xs)) ≡ Some (take i xs) →
      all_given (map f xs) ≡ Some xs
  stays_all xs i past before =
      subst (λ (ys : List A). all_given (map f ys) ≡ Some ys) (take_all i xs past) before

-- one by one
abbrev pub AreImages : {A B : Type 0} → (A → Option B) → List A → List B → Type 0
AreImages f [] [] = Unit {0}
AreImages f [] (y ∷ ys) = ⊥
AreImages f (x ∷ xs) [] = ⊥
AreImages f (x ∷ xs) (y ∷ ys) = (f x ≡ Some y) × AreImages f xs ys

module _ {A B : Type 0} (f : A → Option B) where
  -- the first and the others, where all are given
  taken : (x : A) (xs : List A) → ((zs : List B) → all_given (map f xs) ≡ Some zs → AreImages f xs zs) →
      (o : Option B) (os : Option (List B)) (ys : List B) → f x ≡ o → all_given (map f xs) ≡ os →
      option_and_then (λ (y : B). option_map (λ (zs : List B). y ∷ zs) os) o ≡ Some ys → AreImages f (x ∷ xs) ys
  taken x xs later None os ys g h e = absurd (none-some ys e)
  taken x xs later (Some y) None ys g h e = absurd (none-some ys e)
  taken x xs later (Some y) (Some zs) ys g h e =
      subst (AreImages f (x ∷ xs)) (same_Some (y ∷ zs) ys e) (g, later zs h)

  pub images : (xs : List A) (ys : List B) → all_given (map f xs) ≡ Some ys → AreImages f xs ys
  images [] [] e = tt
  images [] (y ∷ ys) e = let none : [] ≡ y ∷ ys = same_Some [] (y ∷ ys) e in absurd cc
  images (x ∷ xs) ys e = taken x xs (images xs) (f x) (all_given (map f xs)) ys refl refl e

  pub given_images : (xs : List A) (ys : List B) → AreImages f xs ys → all_given (map f xs) ≡ Some ys
  given_images [] [] h = refl
  given_images [] (y ∷ ys) h = absurd h
  given_images (x ∷ xs) [] h = absurd h
  given_images (x ∷ xs) (y ∷ ys) h =
      given_with (λ (z : B). option_map (λ (zs : List B). z ∷ zs) (all_given (map f xs))) (f x) y (y ∷ ys) h.0
      (ap (option_map (λ (zs : List B). y ∷ zs)) (given_images xs ys h.1))

  pub images_long : (xs : List A) (ys : List B) → AreImages f xs ys → length ys ≡ length xs
  images_long [] [] h = refl
  images_long [] (y ∷ ys) h = absurd h
  images_long (x ∷ xs) [] h = absurd h
  images_long (x ∷ xs) (y ∷ ys) h = ap suc (images_long xs ys h.1)

  module _ (test : A → Bool) (check : B → Bool) (agree : (x : A) (y : B) → f x ≡ Some y → test x ≡ check y) where
    pub any_images : (xs : List A) (ys : List B) → AreImages f xs ys → list_any test xs ≡ list_any check ys
    any_images [] [] h = refl
    any_images [] (y ∷ ys) h = absurd h
    any_images (x ∷ xs) [] h = absurd h
    any_images (x ∷ xs) (y ∷ ys) h = λ i. agree x y h.0 i || any_images xs ys h.1 i

    pub all_images : (xs : List A) (ys : List B) → AreImages f xs ys → list_all test xs ≡ list_all check ys
    all_images [] [] h = refl
    all_images [] (y ∷ ys) h = absurd h
    all_images (x ∷ xs) [] h = absurd h
    all_images (x ∷ xs) (y ∷ ys) h = λ i. agree x y h.0 i && all_images xs ys h.1 i

    pub filter_images : (xs : List A) (ys : List B) → AreImages f xs ys → AreImages f (filter test xs) (filter check ys)
    filter_images [] [] h = tt
    filter_images [] (y ∷ ys) h = absurd h
    filter_images (x ∷ xs) [] h = absurd h
    filter_images (x ∷ xs) (y ∷ ys) h =
        let later = filter_images xs ys h.1 in
        subst (λ (b : Bool). AreImages f (cond b (x ∷ filter test xs) (filter test xs)) (filter check (y ∷ ys)))
        (sym (agree x y h.0))
        (elim (check y) as (λ b. AreImages f (cond b (x ∷ filter test xs) (filter test xs))
        (cond b (y ∷ filter check ys) (filter check ys))) [ true ↦ (h.0, later) | false ↦ later ])

  module _ (same : A → A → Bool) (others : B → B → Bool)
      (agree : (a b : A) (x y : B) → f a ≡ Some x → f b ≡ Some y → same a b ≡ others x y) where
    firsts_images : (xs : List A) (ys : List B) → AreImages f xs ys → AreImages f (firsts same xs) (firsts others ys)
    firsts_images [] [] h = tt
    firsts_images [] (y ∷ ys) h = absurd h
    firsts_images (x ∷ xs) [] h = absurd h
    firsts_images (x ∷ xs) (y ∷ ys) h = (
      h.0,
      filter_images (λ z. not (same x z)) (λ z. not (others y z)) (λ z w e. ap not (agree x z y w h.0 e))
          (firsts same xs) (firsts others ys) (firsts_images xs ys h.1),
    )

    -- what is made of different elements is different
    pub firsts_kept : (xs : List A) (ys : List B) → all_given (map f xs) ≡ Some ys → firsts same xs ≡ xs →
        firsts others ys ≡ ys
    firsts_kept xs ys given different =
        same_given (firsts others ys) ys (all_given (map f xs))
        (given_images xs (firsts others ys)
        (subst (λ (zs : List A). AreImages f zs (firsts others ys)) different
        (firsts_images xs ys (images xs ys given))))
        given

-- whether all are given
pub is_given : {A B : Type 0} (f : A → Option B) (xs : List A) →
    is_some (all_given (map f xs)) ≡ list_all (λ x. is_some (f x)) xs
is_given f [] = refl
is_given {A} {B} f (x ∷ xs) =
    both_given (f x) (all_given (map f xs)) ∙ ap (λ b. is_some (f x) && b) (is_given f xs)
  where
    both_given : (o : Option B) (os : Option (List B)) →
        is_some (option_and_then (λ (y : B). option_map (λ (ys : List B). y ∷ ys) os) o) ≡ (is_some o && is_some os)
    both_given None os = refl
    both_given (Some y) None = refl
    both_given (Some y) (Some ys) = refl
