-- Things of a list that differ.
use Rattle.std.proofs.Common.{◌≡◌, ◌<◌, ℕ, zero, suc, ◌+◌, Bool, true, false, cond, not, List, [], ◌∷◌, Option, Some}
use Rattle.std.proofs.Common.{filter, length, map, nat_lt, slice_get, slice_index_or, refl, sym, ap, subst, ◌∙◌}
use Rattle.std.proofs.Common.{arith, inl, inr, ⊎_elim}
use Rattle.std.proofs.lemmas.Bool.{lt-ltb, ltb-true, and_parts}
use Rattle.std.specs.List.{enumerate_from, find, list_all}
use Rattle.core_code.specs.Names.{all_differ}
use Rattle.core_code.proofs.Membership.{In}
use Rattle.access_domain.proofs.Members.{filter_has, in_at}
use Rattle.access_domain.proofs.Tests.{passes_in}

kept-behind : {X : Type 0} (ys : List X) (y x : X) (b : Bool) → In ys x → In (cond b (y ∷ ys) ys) x
kept-behind ys y x true h = inr h
kept-behind ys y x false h = h

kept-here : {X : Type 0} (keep : X → Bool) (ys : List X) (y x : X) → y ≡ x → keep x ≡ true →
    In (cond (keep y) (y ∷ ys) ys) x
kept-here keep ys y x e k =
    subst (λ (b : Bool). In (cond b (y ∷ ys) ys) x) (sym (ap keep e ∙ k)) (inl e)

pub both-not : (b : Bool) → b ≡ true → not b ≡ true → ⊥
both-not true a b = let wrong : false ≡ true = b in absurd cc
both-not false a b = let wrong : false ≡ true = a in absurd cc

differ-rest : {X : Type 0} (same : X → X → Bool) (y : X) (ys : List X) (b : Bool) →
    all_differ same (cond b (y ∷ ys) ys) ≡ true → all_differ same ys ≡ true
differ-rest same y ys true h = (and_parts (list_all (λ z. not (same y z)) ys) (all_differ same ys) h).1
differ-rest same y ys false h = h

differ-first : {X : Type 0} (same : X → X → Bool) (y : X) (ys : List X) (b : Bool) → b ≡ true →
    all_differ same (cond b (y ∷ ys) ys) ≡ true → list_all (λ z. not (same y z)) ys ≡ true
differ-first same y ys true e h = (and_parts (list_all (λ z. not (same y z)) ys) (all_differ same ys) h).0
differ-first same y ys false e h = absurd cc

-- what passes is kept, and is the same as the one at the index
abbrev pub OneOf : {X : Type 0} → (X → X → Bool) → (X → Bool) → (X → Bool) → List X → X → Type 0
OneOf {X} same keep test xs x = (y : X) → In xs y → test y ≡ true → (keep y ≡ true) × (same y x ≡ true)

found-by : {X : Type 0} (test : X → Bool) (y x : X) (n i : ℕ) (rest : Option (ℕ × X)) (b : Bool) → (b ≡ true → ⊥) →
    rest ≡ Some (n + i, x) → cond b (Some (n, y)) rest ≡ Some (n + i, x)
found-by test y x n i rest true never later = absurd (never refl)
found-by test y x n i rest false never later = later

pub found-kept : {X : Type 0} (same : X → X → Bool) (keep test : X → Bool) (n : ℕ) (xs : List X) (i : ℕ) (x : X) →
    all_differ same (filter keep xs) ≡ true → slice_get xs i ≡ Some x → test x ≡ true → keep x ≡ true →
    OneOf same keep test xs x → find (λ (e : ℕ × X). test e.1) (enumerate_from n xs) ≡ Some (n + i, x)
found-kept same keep test n [] i x differ is passes kept one = cc
found-kept same keep test n (y ∷ xs) zero x differ is passes kept one =
    let e : y ≡ x = cc in
    let here : n ≡ n + 0 = omega arith in
    ap (λ (b : Bool). cond b (Some (n, y)) (find (λ e. test e.1) (enumerate_from (n + 1) xs))) (ap test e ∙ passes)
    ∙ (λ i. Some (here i, e i))
found-kept same keep test n (y ∷ xs) (suc i) x differ is passes kept one =
    let shift : n + 1 + i ≡ n + suc i = omega arith in
    found-by test y x n (suc i) _ (test y)
    (λ t.
    let y_is = one y (inl refl) t in
    both-not (same y x) y_is.1
    (passes_in (λ z. not (same y z)) (filter keep xs) x (differ-first same y (filter keep xs) (keep y) y_is.0 differ)
    (filter_has keep xs x (in_at xs i x is) kept)))
    (found-kept same keep test (n + 1) xs i x (differ-rest same y (filter keep xs) (keep y) differ) is passes kept
    (λ z there t. one z (inr there) t)
    ∙ (λ k. Some (shift k, x)))

-- two of one list that are the same have one index
pub one-index : {X : Type 0} (same : X → X → Bool) (xs : List X) (i j : ℕ) (a b : X) → all_differ same xs ≡ true →
    slice_get xs i ≡ Some a → slice_get xs j ≡ Some b → same a b ≡ true → same b a ≡ true → i ≡ j
one-index same [] i j a b differ is_a is_b ab ba = cc
one-index same (y ∷ xs) zero zero a b differ is_a is_b ab ba = refl
one-index same (y ∷ xs) zero (suc j) a b differ is_a is_b ab ba =
    let e : y ≡ a = cc in
    absurd (both-not (same a b) ab
    (subst (λ (z : _). not (same z b) ≡ true) e
    (passes_in (λ z. not (same y z)) xs b (and_parts (list_all (λ z. not (same y z)) xs) (all_differ same xs) differ).0
    (in_at xs j b is_b))))
one-index same (y ∷ xs) (suc i) zero a b differ is_a is_b ab ba =
    let e : y ≡ b = cc in
    absurd (both-not (same b a) ba
    (subst (λ (z : _). not (same z a) ≡ true) e
    (passes_in (λ z. not (same y z)) xs a (and_parts (list_all (λ z. not (same y z)) xs) (all_differ same xs) differ).0
    (in_at xs i a is_a))))
one-index same (y ∷ xs) (suc i) (suc j) a b differ is_a is_b ab ba =
    ap suc (one-index same xs i j a b (and_parts (list_all (λ z. not (same y z)) xs) (all_differ same xs) differ).1 is_a
    is_b ab ba)

-- an element at an index in range
pub there : {X : Type 0} (xs : List X) (i : ℕ) → nat_lt i (length xs) ≡ true → (x : X) × (slice_get xs i ≡ Some x)
there [] i h = let below : i < 0 = ltb-true i 0 h in absurd (omega (arith, below))
there (x ∷ xs) zero h = (x, refl)
there (x ∷ xs) (suc i) h = there xs i (less i (length xs) h)
  where
    less : (m n : ℕ) → nat_lt (suc m) (suc n) ≡ true → nat_lt m n ≡ true
    less m n e = let below : suc m < suc n = ltb-true (suc m) (suc n) e in lt-ltb m n (omega (arith, below))

pub mapped-at : {X Y : Type 0} (f : X → Y) (xs : List X) (i : ℕ) (x : X) (d : Y) → slice_get xs i ≡ Some x →
    slice_index_or (map f xs) i d ≡ f x
mapped-at f [] i x d is = cc
mapped-at f (y ∷ xs) zero x d is = let e : y ≡ x = cc in ap f e
mapped-at f (y ∷ xs) (suc i) x d is = mapped-at f xs i x d is

-- found in a list, where what passes is one thing
pub found-one : {X : Type 0} (test : X → Bool) (xs : List X) (x : X) → In xs x → test x ≡ true →
    ((y : X) → In xs y → test y ≡ true → y ≡ x) → find test xs ≡ Some x
found-one test [] x h passes one = absurd h
found-one {X} test (y ∷ xs) x h passes one =
    by (test y) refl (λ t r. found-one test xs x r passes (λ z in_it s. one z (inr in_it) s)) h
  where
    by : (b : Bool) → test y ≡ b → (b ≡ false → In xs x → find test xs ≡ Some x) → In (y ∷ xs) x →
        cond b (Some y) (find test xs) ≡ Some x
    by true e later h = ap Some (one y (inl refl) e)
    by false e later h =
        ⊎_elim (λ s. let wrong : false ≡ true = sym e ∙ ap test s ∙ passes in absurd cc) (λ r. later refl r) h
