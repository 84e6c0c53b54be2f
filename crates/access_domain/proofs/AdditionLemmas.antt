-- What is added one after another is the first of each, and never gets less.
use Rattle.std.proofs.Common.{◌≡◌, ℕ, ◌+◌, ◌≤◌, Bool, true, false, not, ◌&&◌, ◌||◌, cond, List, [], ◌∷◌, ◌++◌, length}
use Rattle.std.proofs.Common.{◌⊎◌, inl, inr, filter, refl, sym, ap, ◌∙◌, arith, append_assoc, length-append, add-one}
use Rattle.std.proofs.lemmas.List.{append-nil}
use Rattle.std.specs.List.{list_any}
use Rattle.std.specs.FinSet as set
use Rattle.access_paths.specs.declared.path.Path.{Path}
use Rattle.access_paths.specs.Order.{PathSet, path_cmp}
use Rattle.access_paths.specs.Paths.{same_path}
use Rattle.access_paths.specs.Same.{equal_of_same, tied, path_cmp-total, path_cmp-IsAntisymmetric}
use Rattle.std.specs.Ordering.{eq_by_cmp}
use Rattle.std.proofs.lemmas.Bool.{and_parts}
use Rattle.std.proofs.Math.Bool.{and-false, and-true, or-false}
use Rattle.wobbly_paths.specs.declared.wobbly.Adding.{Adding}
use Rattle.wobbly_paths.specs.declared.wobbly.Adding.TheVariants.{Added, Present, Full, Memory}
use Rattle.wobbly_paths.specs.Sets.{IsAnswer}
use Rattle.access_domain.specs.declared.access.Access.{Access}
use Rattle.core_code.specs.Touches.{is_write}
use Rattle.core_code.proofs.Different.{filter_all}
use Rattle.access_domain.specs.Records.{same_flag, same_touch, same_key, first_of_keys, different_paths}
use Rattle.access_domain.proofs.Different.{from_list-different}
use Rattle.access_domain.proofs.Tests.{equal_flags}
use Rattle.access_domain.specs.Additions.{key_added, keys_added, paths_added}

swap : (a b c : Bool) → ((a || b) || c) ≡ (b || (a || c))
swap true true c = refl
swap true false c = refl
swap false b c = refl

-- ---- never less

one_key_longer : (old : List Access) (b : Bool) (access : Access) →
    length old ≤ length (cond b old (old ++ access ∷ []))
one_key_longer old true access = omega arith
one_key_longer old false access = omega (arith, length-append old (access ∷ []))

pub keys_added-longer : (old xs : List Access) → length old ≤ length (keys_added old xs)
keys_added-longer old [] = omega arith
keys_added-longer old (x ∷ xs) =
    let one = one_key_longer old (list_any (λ earlier. same_key earlier x) old) x in
    let more = keys_added-longer (key_added old x) xs in
    omega arith

-- ---- the first of each key

abbrev is_new : List Access → Access → Bool
is_new old access = not (list_any (λ earlier. same_key earlier access) old)

pub any-push : (p : Access → Bool) (old : List Access) (x : Access) →
    list_any p (old ++ x ∷ []) ≡ (list_any p old || p x)
any-push p [] x = elim (p x) as (λ b. (b || false) ≡ b) [ true ↦ refl | false ↦ refl ]
any-push p (y ∷ old) x = ap (λ b. p y || b) (any-push p old x)
    ∙ (elim (p y) as (λ b. (b || (list_any p old || p x)) ≡ ((b || list_any p old) || p x)) [
      | true ↦ refl
      | false ↦
          refl
    ])

not-or : (a b : Bool) → not (a || b) ≡ (not a && not b)
not-or true b = refl
not-or false b = refl

filter-filter : {X : Type 0} (p q : X → Bool) (xs : List X) → filter p (filter q xs) ≡ filter (λ x. p x && q x) xs
filter-filter p q [] = refl
filter-filter p q (x ∷ xs) =
    elim (q x) as (λ b. filter p (cond b (x ∷ filter q xs) (filter q xs)) ≡
    cond (p x && b) (x ∷ filter (λ x. p x && q x) xs) (filter (λ x. p x && q x) xs)) [
      | true ↦ elim (p x) as (λ a. cond a (x ∷ filter p (filter q xs)) (filter p (filter q xs)) ≡
          cond (a && true) (x ∷ filter (λ x. p x && q x) xs) (filter (λ x. p x && q x) xs)) [
            | true ↦ ap (λ rest. x ∷ rest) (filter-filter p q xs)
            | false ↦ filter-filter p q xs
          ]
      | false ↦ elim (p x) as (λ a. filter p (filter q xs) ≡
          cond (a && false) (x ∷ filter (λ x. p x && q x) xs) (filter (λ x. p x && q x) xs)) [
            | true ↦ filter-filter p q xs
            | false ↦ filter-filter p q xs
          ]
    ]

filter-alike : {X : Type 0} (p q : X → Bool) (xs : List X) → ((x : X) → p x ≡ q x) → filter p xs ≡ filter q xs
filter-alike p q [] h = refl
filter-alike p q (x ∷ xs) h = ap (λ b. cond b (x ∷ filter p xs) (filter p xs)) (h x)
    ∙ ap (λ rest. cond (q x) (x ∷ rest) rest) (filter-alike p q xs h)

-- what one key covers the same key covers
pub alike_keys : (x y e : Access) → same_key x y ≡ true → same_key e x ≡ same_key e y
alike_keys x y e h =
    let paths = same_path x.path y.path in
    let touches = same_touch x.kind y.kind in
    let locks = same_flag x.locked y.locked in
    let mains = same_flag x.main y.main in
    let three = (and_parts (paths && touches && locks) mains h).0 in
    let two = (and_parts (paths && touches) locks three).0 in
    let path = equal_of_same x.path y.path (and_parts paths touches two).0 in
    let touch = equal_flags (is_write x.kind) (is_write y.kind) (and_parts paths touches two).1 in
    let lock = equal_flags x.locked y.locked (and_parts (paths && touches) locks three).1 in
    let main = equal_flags x.main y.main (and_parts (paths && touches && locks) mains h).1 in
    ap (λ (p : Path). same_path e.path p && same_touch e.kind x.kind && same_flag e.locked x.locked &&
    same_flag e.main x.main) path
    ∙ ap (λ (w : Bool). same_path e.path y.path && same_flag (is_write e.kind) w && same_flag e.locked x.locked &&
    same_flag e.main x.main) touch
    ∙ ap (λ (l : Bool). same_path e.path y.path && same_touch e.kind y.kind && same_flag e.locked l &&
    same_flag e.main x.main) lock
    ∙ ap (λ (m : Bool). same_path e.path y.path && same_touch e.kind y.kind && same_flag e.locked y.locked &&
    same_flag e.main m) main

any_alike : (p q : Access → Bool) (xs : List Access) → ((e : Access) → p e ≡ q e) → list_any p xs ≡ list_any q xs
any_alike p q [] h = refl
any_alike p q (x ∷ xs) h = ap (λ b. b || list_any p xs) (h x) ∙ ap (λ b. q x || b) (any_alike p q xs h)

covered : (old : List Access) (x y : Access) → same_key x y ≡ true →
    list_any (λ e. same_key e x) old ≡ list_any (λ e. same_key e y) old
covered old x y h = any_alike (λ e. same_key e x) (λ e. same_key e y) old (λ e. alike_keys x y e h)

-- where x is covered already, its own key tells nothing new
old_tells : (old : List Access) (x y : Access) → list_any (λ e. same_key e x) old ≡ true →
    (is_new old y && not (same_key x y)) ≡ is_new old y
old_tells old x y h =
    elim (same_key x y) as (λ b. same_key x y ≡ b → (is_new old y && not b) ≡ is_new old y) [
      | true ↦ λ e. and-false (is_new old y) ∙ sym (ap not (sym (covered old x y e) ∙ h))
      | false ↦ λ e. and-true (is_new old y)
    ] refl

-- where x is added, what is new behind it is of another key too
new_tells : (old : List Access) (x y : Access) → is_new (old ++ x ∷ []) y ≡ (is_new old y && not (same_key x y))
new_tells old x y = ap not (any-push (λ e. same_key e y) old x)
    ∙ not-or (list_any (λ e. same_key e y) old) (same_key x y)

pub keys_added-firsts : (old xs : List Access) → keys_added old xs ≡ old ++ filter (is_new old) (first_of_keys xs)
keys_added-firsts old [] = sym (append-nil old)
keys_added-firsts old (x ∷ xs) =
    let later = filter (λ y. not (same_key x y)) (first_of_keys xs) in
    elim (list_any (λ e. same_key e x) old) as (λ b. list_any (λ e. same_key e x) old ≡ b →
    keys_added (cond b old (old ++ x ∷ [])) xs ≡ old ++
    cond (not b) (x ∷ filter (is_new old) later) (filter (is_new old) later)) [
      | true ↦ λ h.
          keys_added-firsts old xs
          ∙ ap (λ rest. old ++ rest)
          (sym (filter-filter (is_new old) (λ y. not (same_key x y)) (first_of_keys xs)
          ∙ filter-alike (λ y. is_new old y && not (same_key x y)) (is_new old) (first_of_keys xs) (λ y.
          old_tells old x y h)))
      | false ↦ λ h.
          keys_added-firsts (old ++ x ∷ []) xs
          ∙ append_assoc old (x ∷ []) _
          ∙ ap (λ rest. old ++ (x ∷ rest))
          (filter-alike (is_new (old ++ x ∷ [])) (λ y.
          is_new old y && not (same_key x y)) (first_of_keys xs) (new_tells old x)
          ∙ sym (filter-filter (is_new old) (λ y. not (same_key x y)) (first_of_keys xs)))
    ] refl

-- added to nothing, the records are the first of each key
pub keys_added-nil : (xs : List Access) → keys_added [] xs ≡ first_of_keys xs
keys_added-nil xs = keys_added-firsts [] xs ∙ filter_all (first_of_keys xs)

-- ---- the set of paths

pub contains_added : (old : PathSet) (xs : List Path) (q : Path) →
    set.contains (paths_added old xs) q ≡ (set.contains old q || list_any (eq_by_cmp path_cmp q) xs)
contains_added old [] q = sym (or-false (set.contains old q))
contains_added old (x ∷ xs) q =
    contains_added (set.insert old x) xs q
    ∙ ap (λ b. b || list_any (eq_by_cmp path_cmp q) xs) (set.contains-insert path_cmp-total old x q)
    ∙ swap (eq_by_cmp path_cmp q x) (set.contains old q) (list_any (eq_by_cmp path_cmp q) xs)

-- added to nothing, the paths are the set of all of them
pub paths_added-empty : (xs : List Path) → paths_added set.empty xs ≡ set.from_list xs
paths_added-empty xs =
    set.same_set path_cmp-total path_cmp-IsAntisymmetric _ _
    (λ q. contains_added set.empty xs q ∙ ap (λ b.
    b || list_any (eq_by_cmp path_cmp q) xs) (set.contains-empty path_cmp q)
    ∙ sym (set.contains-from_list path_cmp-total xs q))

longer : (b : Bool) (n m : ℕ) → m ≡ cond b n (n + 1) → n ≤ m
longer true n m e = omega arith
longer false n m e = omega arith

one_path_longer : (old : PathSet) (x : Path) → set.len old ≤ set.len (set.insert old x)
one_path_longer old x = longer (set.contains old x) (set.len old) _ (set.len-insert path_cmp-total old x)

pub paths_added-longer : (old : PathSet) (xs : List Path) → set.len old ≤ set.len (paths_added old xs)
paths_added-longer old [] = omega arith
paths_added-longer old (x ∷ xs) =
    let one = one_path_longer old x in
    let more = paths_added-longer (set.insert old x) xs in
    omega arith

-- ---- as many paths as there are different ones

none_same : (x : Path) (p : Path → Bool) (ys : List Path) →
    list_any (eq_by_cmp path_cmp x) (filter (λ y. p y && not (same_path x y)) ys) ≡ false
none_same x p [] = refl
none_same x p (y ∷ ys) =
    elim (same_path x y) as (λ b. same_path x y ≡ b →
    list_any (eq_by_cmp path_cmp x) (cond (p y && not b) (y ∷ filter (λ y. p y && not (same_path x y)) ys)
    (filter (λ y. p y && not (same_path x y)) ys)) ≡ false) [
      | true ↦ λ e. ap (λ b. list_any (eq_by_cmp path_cmp x)
          (cond b (y ∷ filter (λ y. p y && not (same_path x y)) ys) (filter (λ y. p y && not (same_path x y)) ys)))
          (and-false (p y)) ∙ none_same x p ys
      | false ↦ λ e. elim (p y) as (λ b. list_any (eq_by_cmp path_cmp x)
          (cond (b && true) (y ∷ filter (λ y. p y && not (same_path x y)) ys)
          (filter (λ y. p y && not (same_path x y)) ys)) ≡ false) [
            | true ↦ ap (λ b. b || list_any (eq_by_cmp path_cmp x) (filter (λ y. p y && not (same_path x y)) ys))
                (tied x y ∙ e) ∙ none_same x p ys
            | false ↦ none_same x p ys
          ]
    ] refl

len-passing : (p : Path → Bool) (xs : List Path) →
    set.len (set.from_list {R = path_cmp} (filter p (different_paths xs))) ≡ length (filter p (different_paths xs))
len-passing p [] = set.len-empty path_cmp
len-passing p (x ∷ xs) =
    let others = filter (λ y. p y && not (same_path x y)) (different_paths xs) in
    let joined : filter p (filter (λ y. not (same_path x y)) (different_paths xs)) ≡ others =
    filter-filter p (λ y. not (same_path x y)) (different_paths xs) in
    let fewer : set.len (set.from_list {R = path_cmp} others) ≡ length others =
    len-passing (λ y. p y && not (same_path x y)) xs in
    let absent : set.contains (set.from_list {R = path_cmp} others) x ≡ false =
    set.contains-from_list path_cmp-total others x ∙ none_same x p (different_paths xs) in
    elim (p x) as (λ b. set.len (set.from_list {R =
    path_cmp} (cond b (x ∷ filter p (filter (λ y. not (same_path x y)) (different_paths xs)))
    (filter p (filter (λ y. not (same_path x y)) (different_paths xs))))) ≡
    length (cond b (x ∷ filter p (filter (λ y. not (same_path x y)) (different_paths xs)))
    (filter p (filter (λ y. not (same_path x y)) (different_paths xs))))) [
      | true ↦
          ap (λ (ys : List Path). set.len (set.insert (set.from_list {R = path_cmp} ys) x)) joined
          ∙ set.len-insert path_cmp-total (set.from_list {R = path_cmp} others) x
          ∙ ap (λ b. cond b (set.len (set.from_list {R = path_cmp} others))
          (set.len (set.from_list {R = path_cmp} others) + 1)) absent
          ∙ ap (λ n. n + 1) (fewer ∙ ap length (sym joined))
          ∙ add-one _
      | false ↦ ap (λ (ys : List Path). set.len (set.from_list {R = path_cmp} ys)) joined ∙ fewer
          ∙ ap length (sym joined)
    ]

-- the set of paths has as many as there are different ones
pub len-from_list : (xs : List Path) → set.len (set.from_list {R = path_cmp} xs) ≡ length (different_paths xs)
len-from_list xs =
    ap set.len (sym (from_list-different xs))
    ∙ ap (λ (ys : List Path). set.len (set.from_list {R = path_cmp} ys)) (sym (filter_all (different_paths xs)))
    ∙ len-passing (λ _. true) xs
    ∙ ap length (filter_all (different_paths xs))

-- ---- one list and then another

pub keys_added-append : (old xs ys : List Access) → keys_added old (xs ++ ys) ≡ keys_added (keys_added old xs) ys
keys_added-append old [] ys = refl
keys_added-append old (x ∷ xs) ys = keys_added-append (key_added old x) xs ys

pub paths_added-append : (old : PathSet) (xs ys : List Path) →
    paths_added old (xs ++ ys) ≡ paths_added (paths_added old xs) ys
paths_added-append old [] ys = refl
paths_added-append old (x ∷ xs) ys = paths_added-append (set.insert old x) xs ys

-- ---- one thing, by the answer to its addition

in_set : (kept : PathSet) (x q : Path) → set.contains kept x ≡ true → (b : Bool) → eq_by_cmp path_cmp q x ≡ b →
    (b || set.contains kept q) ≡ set.contains kept q
in_set kept x q there true e =
    let same : q ≡ x = equal_of_same q x (sym (tied q x) ∙ e) in
    sym there ∙ ap (set.contains kept) (sym same)
in_set kept x q there false e = refl

-- what is there is not added
pub paths-present : (kept : PathSet) (x : Path) → set.contains kept x ≡ true → set.insert kept x ≡ kept
paths-present kept x there =
    set.same_set path_cmp-total path_cmp-IsAntisymmetric _ _
    (λ q. set.contains-insert path_cmp-total kept x q ∙ in_set kept x q there (eq_by_cmp path_cmp q x) refl)

pub added_path : (kept new : PathSet) (x : Path) (answer : Adding) →
    IsAnswer (set.contains kept x) (set.len kept) kept new (set.insert kept x) answer
    → (answer ≡ Added) ⊎ (answer ≡ Present) → new ≡ set.insert kept x
added_path kept new x Added a is = a.2
added_path kept new x Present a is = a.1 ∙ sym (paths-present kept x a.0)
added_path kept new x Full a is = elim is [ inl e ↦ cc | inr e ↦ cc ]
added_path kept new x Memory a is = elim is [ inl e ↦ cc | inr e ↦ cc ]
