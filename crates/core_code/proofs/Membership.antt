-- Members of lists that are made of lists.
use Rattle.std.proofs.Common.{◌≡◌, ℕ, zero, suc, ◌+◌, ◌<◌, Bool, true, false, cond, ◌⊎◌, inl, inr, ⊎_elim, List, []}
use Rattle.std.proofs.Common.{◌∷◌, ◌++◌, Option, None, Some, map, length, slice_index_or, slice_get, refl, sym, ap}
use Rattle.std.proofs.Common.{subst, ◌∙◌, arith}
use Rattle.std.specs.List.{enumerate_from, flat_map, filter_map, cons_option, find}

-- an element of a list
abbrev pub In : {X : Type 0} → List X → X → Type 0
In [] y = ⊥
In (x ∷ xs) y = (x ≡ y) ⊎ In xs y

pub in_from_Contains : {X : Type 0} (xs : List X) (y : X) (k : ℕ) → k < length xs → slice_index_or xs k y ≡ y → In xs y
in_from_Contains [] y k within is = absurd (omega arith)
in_from_Contains (x ∷ xs) y zero within is = inl is
in_from_Contains (x ∷ xs) y (suc k) within is = inr (in_from_Contains xs y k (omega arith) is)

pub in_append : {X : Type 0} (xs ys : List X) (y : X) → In (xs ++ ys) y → In xs y ⊎ In ys y
in_append [] ys y h = inr h
in_append (x ∷ xs) ys y h = ⊎_elim (λ e. inl (inl e)) (λ r.
    ⊎_elim (λ a. inl (inr a)) (λ b. inr b) (in_append xs ys y r)) h

pub in_left : {X : Type 0} (xs ys : List X) (y : X) → In xs y → In (xs ++ ys) y
in_left (x ∷ xs) ys y h = ⊎_elim (λ e. inl e) (λ r. inr (in_left xs ys y r)) h
in_left [] ys y h = absurd h

pub in_right : {X : Type 0} (xs ys : List X) (y : X) → In ys y → In (xs ++ ys) y
in_right [] ys y h = h
in_right (x ∷ xs) ys y h = inr (in_right xs ys y h)

pub in_flat_map : {X Y : Type 0} (f : X → List Y) (xs : List X) (y : Y) → In (flat_map f xs) y →
    (x : X) × In xs x × In (f x) y
in_flat_map f [] y h = absurd h
in_flat_map f (x ∷ xs) y h =
    ⊎_elim
    (λ a. (x, inl refl, a))
    (λ b. let r = in_flat_map f xs y b in (r.0, inr r.1, r.2))
    (in_append (f x) (flat_map f xs) y h)

pub flat_map_has : {X Y : Type 0} (f : X → List Y) (xs : List X) (x : X) (y : Y) → In xs x → In (f x) y →
    In (flat_map f xs) y
flat_map_has f [] x y h one = absurd h
flat_map_has f (z ∷ xs) x y h one =
    ⊎_elim
    (λ e. in_left (f z) (flat_map f xs) y (subst (λ a. In (f a) y) (sym e) one))
    (λ r. in_right (f z) (flat_map f xs) y (flat_map_has f xs x y r one))
    h

pub in_filter_map : {X Y : Type 0} (h : X → Option Y) (xs : List X) (y : Y) → In (filter_map h xs) y →
    (x : X) × In xs x × (h x ≡ Some y)
in_filter_map h [] y given = absurd given
in_filter_map {X} {Y} h (x ∷ xs) y given =
    let later : In (filter_map h xs) y → (z : X) × In (x ∷ xs) z × (h z ≡ Some y) = λ g. let r =
    in_filter_map h xs y g in (r.0, inr r.1, r.2) in
    elim (h x) as (λ o. h x ≡ o → In (cons_option o (filter_map h xs)) y → (z : X) × In (x ∷ xs) z × (h z ≡ Some y)) [
      | None ↦ λ e g. later g
      | Some v ↦ λ e g. ⊎_elim (λ is. (x, inl refl, e ∙ ap Some is)) later g
    ] refl given

pub in_map : {X Y : Type 0} (f : X → Y) (xs : List X) (y : Y) → In (map f xs) y → (x : X) × In xs x × (f x ≡ y)
in_map f [] y h = absurd h
in_map f (x ∷ xs) y h = ⊎_elim (λ e. (x, inl refl, e)) (λ r. let s = in_map f xs y r in (s.0, inr s.1, s.2)) h

pub map_has : {X Y : Type 0} (f : X → Y) (xs : List X) (x : X) → In xs x → In (map f xs) (f x)
map_has f [] x h = absurd h
map_has f (z ∷ xs) x h = ⊎_elim (λ e. inl (ap f e)) (λ r. inr (map_has f xs x r)) h

-- what is found is there, and passes
pub find_gives : {X : Type 0} (test : X → Bool) (xs : List X) (y : X) → find test xs ≡ Some y →
    In xs y × (test y ≡ true)
find_gives test [] y h = cc
find_gives test (x ∷ xs) y h =
    elim (test x) as (λ b. test x ≡ b → cond b (Some x) (find test xs) ≡ Some y → In (x ∷ xs) y × (test y ≡ true)) [
      | true ↦ λ e g. let same : x ≡ y = cc in (inl same, ap test (sym same) ∙ e)
      | false ↦ λ e g. let r = find_gives test xs y g in (inr r.0, r.1)
    ] refl h

-- where one passes, one is found
pub find_has : {X : Type 0} (test : X → Bool) (xs : List X) (y : X) → In xs y → test y ≡ true →
    (z : X) × (find test xs ≡ Some z)
find_has test [] y h passes = absurd h
find_has {X} test (x ∷ xs) y h passes =
    elim (test x) as (λ b. test x ≡ b → (z : X) × (cond b (Some x) (find test xs) ≡ Some z)) [
      | true ↦ λ e. (x, refl)
      | false ↦ λ e. ⊎_elim (λ is. absurd (let wrong : false ≡ true = sym e ∙ ap test is ∙ passes in cc)) (λ r.
          find_has test xs y r passes) h
    ] refl

-- a numbered element is the one at its number
pub in_enumerate_from : {X : Type 0} (n : ℕ) (xs : List X) (e : ℕ × X) → In (enumerate_from n xs) e → (k : ℕ)
    × (e.0 ≡ n + k) × (slice_get xs k ≡ Some e.1)
in_enumerate_from n [] e h = absurd h
in_enumerate_from n (x ∷ xs) e h =
    ⊎_elim
    (λ is. let first : e.0 ≡ n = ap (λ p. p.0) (sym is) in (0, omega arith, ap (λ p. Some p.1) is))
    (λ r. let s = in_enumerate_from (n + 1) xs e r in
    (suc s.0, let moved : e.0 ≡ n + 1 + s.0 = s.1 in omega arith, s.2))
    h

pub enumerate_from_has : {X : Type 0} (n : ℕ) (xs : List X) (k : ℕ) (x : X) → slice_get xs k ≡ Some x →
    In (enumerate_from n xs) (n + k, x)
enumerate_from_has n [] k x h = cc
enumerate_from_has n (y ∷ xs) zero x h =
    let same : y ≡ x = cc in
    let moved : n ≡ n + 0 = omega arith in
    inl (λ i. (moved i, same i))
enumerate_from_has n (y ∷ xs) (suc k) x h =
    let moved : n + 1 + k ≡ n + suc k = omega arith in
    inr (subst (λ (m : ℕ). In (enumerate_from (n + 1) xs) (m, x)) moved (enumerate_from_has (n + 1) xs k x h))
