-- What lists weigh after a change.
use Rattle.std.proofs.Common.{◌≡◌, ℕ, zero, suc, ◌+◌, ◌<◌, ◌≤◌, List, [], ◌∷◌, ◌++◌, length, Bool, true, false, cond}
use Rattle.std.proofs.Common.{Some, None, refl, sym, ap, ◌∙◌, arith, take, drop, get_or}
use Rattle.std.proofs.lemmas.List.{length-take-le}
use Rattle.std.specs.Prelude.{◌==◌, slice_get, slice_set, replicate}
use Rattle.std.proofs.lemmas.Bool.Decides.{nat_tests}
use Rattle.std.proofs.lemmas.List.{take_more}
use Rattle.racer_base.specs.declared.ids.MethodId.{MethodId}
use Rattle.core_code.specs.Counting.{weigh, times, flagged}
use Rattle.summary_store.specs.Machine.{only, without, parked_on, parked_elsewhere, first_of, idle_after}

pub weigh-append : {X : Type 0} (f : X → ℕ) (xs ys : List X) → weigh f (xs ++ ys) ≡ weigh f xs + weigh f ys
weigh-append f [] ys = omega arith
weigh-append f (x ∷ xs) ys = omega (arith, weigh-append f xs ys)

pub weigh-set : {X : Type 0} (f : X → ℕ) (xs : List X) (i : ℕ) (y z : X) → slice_get xs i ≡ Some y →
    weigh f (slice_set xs i z) + f y ≡ weigh f xs + f z
weigh-set f [] i y z is = cc
weigh-set f (x ∷ xs) zero y z is = let e : x ≡ y = cc in let e' : f x ≡ f y = ap f e in omega arith
weigh-set f (x ∷ xs) (suc i) y z is = omega (arith, weigh-set f xs i y z is)

pub weigh-get : {X : Type 0} (f : X → ℕ) (xs : List X) (i : ℕ) (y : X) → slice_get xs i ≡ Some y → f y ≤ weigh f xs
weigh-get f [] i y is = cc
weigh-get f (x ∷ xs) zero y is = let e : x ≡ y = cc in let e' : f x ≡ f y = ap f e in omega arith
weigh-get f (x ∷ xs) (suc i) y is = omega (arith, weigh-get f xs i y is)

pub times-append : (x : ℕ) (xs ys : List MethodId) → times x (xs ++ ys) ≡ times x xs + times x ys
times-append x xs ys = weigh-append (λ m. cond (m.0 == x) 1 0) xs ys

pub times_only : (x c : ℕ) (xs : List MethodId) → times x (only c xs) + times x (without c xs) ≡ times x xs
times_only x c [] = refl
times_only x c (m ∷ ms) =
    elim (m.0 == c) as (λ b. times x (cond b (m ∷ only c ms) (only c ms))
    + times x (cond b (without c ms) (m ∷ without c ms)) ≡ cond (m.0 == x) 1 0 + times x ms)
    [ true ↦ omega (arith, times_only x c ms) | false ↦ omega (arith, times_only x c ms) ]

pub length_only : (c : ℕ) (xs : List MethodId) → length (only c xs) + length (without c xs) ≡ length xs
length_only c [] = refl
length_only c (m ∷ ms) =
    elim (m.0 == c) as (λ b. length (cond b (m ∷ only c ms) (only c ms))
    + length (cond b (without c ms) (m ∷ without c ms)) ≡ suc (length ms))
    [ true ↦ omega (arith, length_only c ms) | false ↦ omega (arith, length_only c ms) ]

pub times_without : (c : ℕ) (xs : List MethodId) → times c (without c xs) ≡ 0
times_without c [] = refl
times_without c (m ∷ ms) =
    let P : Bool → Type 0 = λ b. (m.0 == c) ≡ b → times c (cond b (without c ms) (m ∷ without c ms)) ≡ 0 in
    let f : P (m.0 == c) = elim (m.0 == c) as P [
      | true ↦ (λ e. times_without c ms)
      | false ↦
          (λ e. let z : cond {A = ℕ} (m.0 == c) 1 0 ≡ 0 = ap (λ (b : Bool). cond {A = ℕ} b 1 0) e in
          omega (arith, times_without c ms))
    ] in f refl

-- pairs
abbrev pub firsts : ℕ → List (MethodId × MethodId) → ℕ
firsts x ps = weigh (λ p. cond (p.0.0 == x) 1 0) ps

abbrev pub pairs : ℕ → ℕ → List (MethodId × MethodId) → ℕ
pairs x y ps = weigh (λ p. cond (p.0.0 == x) (cond (p.1.0 == y) 1 0) 0) ps

pub times_parked : (x c : ℕ) (ps : List (MethodId × MethodId)) →
    times x (parked_on c ps) + firsts x (parked_elsewhere c ps) ≡ firsts x ps
times_parked x c [] = refl
times_parked x c (p ∷ ps) =
    elim (p.1.0 == c) as (λ b. times x (cond b (p.0 ∷ parked_on c ps) (parked_on c ps))
    + firsts x (cond b (parked_elsewhere c ps) (p ∷ parked_elsewhere c ps)) ≡ cond (p.0.0 == x) 1 0 + firsts x ps)
    [ true ↦ omega (arith, times_parked x c ps) | false ↦ omega (arith, times_parked x c ps) ]

pub length_parked : (c : ℕ) (ps : List (MethodId × MethodId)) →
    length (parked_on c ps) + length (parked_elsewhere c ps) ≡ length ps
length_parked c [] = refl
length_parked c (p ∷ ps) =
    elim (p.1.0 == c) as (λ b. length (cond b (p.0 ∷ parked_on c ps) (parked_on c ps))
    + length (cond b (parked_elsewhere c ps) (p ∷ parked_elsewhere c ps)) ≡ suc (length ps))
    [ true ↦ omega (arith, length_parked c ps) | false ↦ omega (arith, length_parked c ps) ]

pub pairs-le-firsts : (x y : ℕ) (ps : List (MethodId × MethodId)) → pairs x y ps ≤ firsts x ps
pairs-le-firsts x y [] = omega arith
pairs-le-firsts x y (p ∷ ps) =
    elim (p.0.0 == x) as (λ b. cond b (cond (p.1.0 == y) 1 0) 0 + pairs x y ps ≤ cond b 1 0 + firsts x ps) [
      | true ↦ elim (p.1.0 == y) as (λ b. cond b 1 0 + pairs x y ps ≤
          1 + firsts x ps) [
            | true ↦ omega (arith, pairs-le-firsts x y ps)
            | false ↦ omega (
              arith,
              pairs-le-firsts x y ps,
            )
          ]
      | false ↦ omega (arith, pairs-le-firsts x y ps)
    ]

-- none of the pairs that are left is parked on c, and a pair of another callee stays
pub pairs_elsewhere_same : (x c : ℕ) (ps : List (MethodId × MethodId)) → pairs x c (parked_elsewhere c ps) ≡ 0
pairs_elsewhere_same x c [] = refl
pairs_elsewhere_same x c (p ∷ ps) =
    let P : Bool → Type 0 = λ b. (p.1.0 == c) ≡ b →
    pairs x c (cond b (parked_elsewhere c ps) (p ∷ parked_elsewhere c ps)) ≡ 0 in
    let none : (b : Bool) → cond {A = ℕ} b 0 0 ≡ 0 = elim [ true ↦ refl | false ↦ refl ] in
    let f : P (p.1.0 == c) = elim (p.1.0 == c) as P [
      | true ↦ (λ e. pairs_elsewhere_same x c ps)
      | false ↦ (λ e. let z : cond {A = ℕ} (p.0.0 == x) (cond {A = ℕ} (p.1.0 == c) 1 0) 0 ≡ 0 =
          ap (λ (b : Bool). cond {A = ℕ} (p.0.0 == x) (cond {A = ℕ} b 1 0) 0) e ∙ none (p.0.0 == x) in
          omega (arith, pairs_elsewhere_same x c ps))
    ] in f refl

pub pairs_elsewhere-le : (x y c : ℕ) (ps : List (MethodId × MethodId)) →
    pairs x y (parked_elsewhere c ps) ≤ pairs x y ps
pairs_elsewhere-le x y c [] = omega arith
pairs_elsewhere-le x y c (p ∷ ps) =
    elim (p.1.0 == c) as (λ b. pairs x y (cond b (parked_elsewhere c ps) (p ∷ parked_elsewhere c ps)) ≤
    cond (p.0.0 == x) (cond (p.1.0 == y) 1 0) 0 + pairs x y ps)
    [ true ↦ omega (arith, pairs_elsewhere-le x y c ps) | false ↦ omega (arith, pairs_elsewhere-le x y c ps) ]

pub pairs_elsewhere_other : (x y c : ℕ) (ps : List (MethodId × MethodId)) → (y == c) ≡ false →
    pairs x y (parked_elsewhere c ps) ≡ pairs x y ps
pairs_elsewhere_other x y c [] apart = refl
pairs_elsewhere_other x y c (p ∷ ps) apart =
    let P : Bool → Type 0 = λ b. (p.1.0 == c) ≡ b →
    pairs x y (cond b (parked_elsewhere c ps) (p ∷ parked_elsewhere c ps)) ≡
    cond (p.0.0 == x) (cond (p.1.0 == y) 1 0) 0 + pairs x y ps in
    let none : (b : Bool) → cond {A = ℕ} b 0 0 ≡ 0 = elim [ true ↦ refl | false ↦ refl ] in
    let f : P (p.1.0 == c) = elim (p.1.0 == c) as P [
      | true ↦ (λ e.
          let other : (p.1.0 == y) ≡ false = grind (arith, nat_tests) in
          let zero_here : cond {A = ℕ} (p.0.0 == x) (cond {A = ℕ} (p.1.0 == y) 1 0) 0 ≡ 0 =
          ap (λ (b : Bool). cond {A = ℕ} (p.0.0 == x) (cond {A = ℕ} b 1 0) 0) other ∙ none (p.0.0 == x) in
          omega (arith, pairs_elsewhere_other x y c ps apart))
      | false ↦ (λ e. ap (λ n. cond (p.0.0 == x) (cond (p.1.0 == y) 1 0) 0 + n) (pairs_elsewhere_other x y c ps apart))
    ] in f refl

-- where the front comes from
pub times_taken : (x : ℕ) (ready idle : List MethodId) (m : MethodId) → first_of ready idle ≡ Some m →
    times x (idle_after ready idle) + times x (drop 1 ready) + cond (m.0 == x) 1 0 ≡ times x idle + times x ready
times_taken x (r ∷ rs) idle m is = let e : r ≡ m = cc in
    let e' : cond {A = ℕ} (r.0 == x) 1 0 ≡ cond {A = ℕ} (m.0 == x) 1 0 =
    ap (λ (k : MethodId). cond {A = ℕ} (k.0 == x) 1 0) e in omega arith
times_taken x [] (i ∷ is') m is = let e : i ≡ m = cc in
    let e' : cond {A = ℕ} (i.0 == x) 1 0 ≡ cond {A = ℕ} (m.0 == x) 1 0 =
    ap (λ (k : MethodId). cond {A = ℕ} (k.0 == x) 1 0) e in omega arith
times_taken x [] [] m is = cc

pub length_taken : (ready idle : List MethodId) (m : MethodId) → first_of ready idle ≡ Some m →
    suc (length (idle_after ready idle) + length (drop 1 ready)) ≡ length idle + length ready
length_taken (r ∷ rs) idle m is = omega arith
length_taken [] (i ∷ is') m is = omega arith
length_taken [] [] m is = cc

pub none_left : (ready idle : List MethodId) → first_of ready idle ≡ None → (ready ≡ []) × (idle ≡ [])
none_left (r ∷ rs) idle is = cc
none_left [] (i ∷ is') is = cc
none_left [] [] is = (refl, refl)

pub weigh_replicate : {X : Type 0} (f : X → ℕ) (n : ℕ) (x : X) → f x ≡ 0 → weigh f (replicate n x) ≡ 0
weigh_replicate f zero x is = refl
weigh_replicate f (suc n) x is = omega (arith, weigh_replicate f n x is)

pub times_idle_after-le : (x : ℕ) (ready idle : List MethodId) → times x (idle_after ready idle) ≤ times x idle
times_idle_after-le x (r ∷ rs) idle = omega arith
times_idle_after-le x [] (i ∷ is') = omega arith
times_idle_after-le x [] [] = omega arith

pub slice_get-set_same : {X : Type 0} (xs : List X) (i : ℕ) (y z : X) → slice_get xs i ≡ Some y →
    slice_get (slice_set xs i z) i ≡ Some z
slice_get-set_same [] i y z is = cc
slice_get-set_same (x ∷ xs) zero y z is = refl
slice_get-set_same (x ∷ xs) (suc i) y z is = slice_get-set_same xs i y z is

pub slice_get-set_other : {X : Type 0} (xs : List X) (i j : ℕ) (z : X) → (i ≡ j → ⊥) →
    slice_get (slice_set xs i z) j ≡ slice_get xs j
slice_get-set_other [] i j z apart = refl
slice_get-set_other (x ∷ xs) zero zero z apart = absurd (apart refl)
slice_get-set_other (x ∷ xs) zero (suc j) z apart = refl
slice_get-set_other (x ∷ xs) (suc i) zero z apart = refl
slice_get-set_other (x ∷ xs) (suc i) (suc j) z apart = slice_get-set_other xs i j z (λ e. apart (ap suc e))

pub length-slice_set : {X : Type 0} (xs : List X) (i : ℕ) (z : X) → length (slice_set xs i z) ≡ length xs
length-slice_set [] i z = refl
length-slice_set (x ∷ xs) zero z = refl
length-slice_set (x ∷ xs) (suc i) z = ap suc (length-slice_set xs i z)

-- as many as weigh 1 are not all where one weighs 0
pub weigh-le-length : {X : Type 0} (f : X → ℕ) (small : (x : X) → f x ≤ 1) (xs : List X) → weigh f xs ≤ length xs
weigh-le-length f small [] = omega arith
weigh-le-length f small (x ∷ xs) = omega (arith, small x, weigh-le-length f small xs)

pub weigh-lt-length : {X : Type 0} (f : X → ℕ) (small : (x : X) → f x ≤ 1) (xs : List X) (i : ℕ) (y : X) →
    slice_get xs i ≡ Some y → f y ≡ 0 → weigh f xs < length xs
weigh-lt-length f small [] i y is none = cc
weigh-lt-length f small (x ∷ xs) zero y is none = let e : x ≡ y = cc in let e' : f x ≡ f y = ap f e in
    omega (arith, weigh-le-length f small xs)
weigh-lt-length f small (x ∷ xs) (suc i) y is none = omega (arith, small x, weigh-lt-length f small xs i y is none)

pub eqb_yes : (a b : ℕ) → (a == b) ≡ true → a ≡ b
eqb_yes a b e = grind (arith, nat_tests)

pub eqb_no : (a b : ℕ) → (a == b) ≡ false → a ≡ b → ⊥
eqb_no a b e same = grind (arith, nat_tests)

pub eqb_same : (a : ℕ) → (a == a) ≡ true
eqb_same a = grind (arith, nat_tests)

pub bit_le : (b : Bool) → cond {A = ℕ} b 1 0 ≤ 1
bit_le true = omega arith
bit_le false = omega arith

-- a list of pairs in which each pair stands no more often than in another is no longer
drop_pair : ℕ → ℕ → List (MethodId × MethodId) → List (MethodId × MethodId)
drop_pair x y [] = []
drop_pair x y (p ∷ ps) = cond (p.0.0 == x) (cond (p.1.0 == y) ps (p ∷ drop_pair x y ps)) (p ∷ drop_pair x y ps)

abbrev pair_bit : ℕ → ℕ → MethodId × MethodId → ℕ
pair_bit x y p = cond (p.0.0 == x) (cond (p.1.0 == y) 1 0) 0

drop_pair_same : (x y : ℕ) (ps : List (MethodId × MethodId)) → 0 < pairs x y ps →
    (suc (length (drop_pair x y ps)) ≡ length ps) × ((a b : ℕ) →
    pairs a b (drop_pair x y ps) + cond (x == a) (cond (y == b) 1 0) 0 ≡ pairs a b ps)
unfolding drop_pair
drop_pair_same x y [] some = absurd (omega arith)
drop_pair_same x y (p ∷ ps) some =
    let Goal : List (MethodId × MethodId) → Type 0 = λ d. (suc (length d) ≡ suc (length ps))
    × ((a b : ℕ) → pairs a b d + cond (x == a) (cond (y == b) 1 0) 0 ≡ pair_bit a b p + pairs a b ps) in
    let other : (0 < pairs x y ps) → Goal (p ∷ drop_pair x y ps) = λ more. let i = drop_pair_same x y ps more in
    (ap suc i.0, (λ a b. omega (arith, i.1 a b))) in
    let here : p.0.0 ≡ x → p.1.0 ≡ y → Goal ps = λ e f. (
      refl,
      (λ a b. let g : cond {A = ℕ} (x == a) (cond {A = ℕ} (y == b) 1 0) 0 ≡ pair_bit a b p =
          (λ i. cond {A = ℕ} (sym e i == a) (cond {A = ℕ} (sym f i == b) 1 0) 0) in omega arith),
    ) in
    let P : Bool → Type 0 = λ t. (p.0.0 == x) ≡ t →
    Goal (cond t (cond (p.1.0 == y) ps (p ∷ drop_pair x y ps)) (p ∷ drop_pair x y ps)) in
    let Q : Bool → Type 0 = λ t. (p.1.0 == y) ≡ t → Goal (cond t ps (p ∷ drop_pair x y ps)) in
    let f : P (p.0.0 == x) = elim (p.0.0 == x) as P [
      | true ↦ (λ e.
          let g : Q (p.1.0 == y) = elim (p.1.0 == y) as Q [
            | true ↦ (λ e'. here (eqb_yes _ _ e) (eqb_yes _ _ e'))
            | false ↦ (λ e'. other (let z : pair_bit x y p ≡ 0 =
                (λ i. cond {A = ℕ} (e i) (cond {A = ℕ} (e' i) 1 0) 0) in omega arith))
          ] in g refl)
      | false ↦ (λ e. other (let z : pair_bit x y p ≡ 0 =
          (λ i. cond {A = ℕ} (e i) (cond {A = ℕ} (p.1.0 == y) 1 0) 0) in omega arith))
    ] in f refl

pub fewer_pairs : (ps es : List (MethodId × MethodId)) → ((x y : ℕ) → pairs x y ps ≤ pairs x y es) →
    length ps ≤ length es
fewer_pairs [] es fits = omega arith
fewer_pairs (p ∷ ps) es fits =
    let here : cond {A = ℕ} (p.0.0 == p.0.0) (cond {A = ℕ} (p.1.0 == p.1.0) 1 0) 0 ≡ 1 =
    (λ i. cond {A = ℕ} (eqb_same p.0.0 i) (cond {A = ℕ} (eqb_same p.1.0 i) 1 0) 0) in
    let d = drop_pair_same p.0.0 p.1.0 es (omega (arith, fits p.0.0 p.1.0)) in
    let r = fewer_pairs ps (drop_pair p.0.0 p.1.0 es) (λ x y. omega (arith, fits x y, d.1 x y)) in
    omega (arith, d.0)

pub parked_on-append : (c : ℕ) (xs ys : List (MethodId × MethodId)) →
    parked_on c (xs ++ ys) ≡ parked_on c xs ++ parked_on c ys
parked_on-append c [] ys = refl
parked_on-append c (p ∷ ps) ys =
    elim (p.1.0 == c) as (λ b. cond b (p.0 ∷ parked_on c (ps ++ ys)) (parked_on c (ps ++ ys)) ≡
    cond b (p.0 ∷ parked_on c ps) (parked_on c ps) ++ parked_on c ys)
    [ true ↦ ap (λ (l : List MethodId). p.0 ∷ l) (parked_on-append c ps ys) | false ↦ parked_on-append c ps ys ]

pub eqb_yes_to : (a b : ℕ) → a ≡ b → (a == b) ≡ true
eqb_yes_to a b e = grind (arith, nat_tests)

pub eqb_no_to : (a b : ℕ) → (a ≡ b → ⊥) → (a == b) ≡ false
eqb_no_to a b e = grind (arith, nat_tests)

pub flagged-append : (n : ℕ) (xs ys : List Bool) → flagged n (xs ++ ys) ≡ flagged n xs ++ flagged (n + length xs) ys
flagged-append n [] ys = ap (λ (k : ℕ). flagged k ys) (let e : n ≡ n + 0 = omega arith in e)
flagged-append n (x ∷ xs) ys =
    let r = flagged-append (n + 1) xs ys ∙ ap (λ (k : ℕ). flagged (n + 1) xs ++ flagged k ys)
    (let e : n + 1 + length xs ≡ n + suc (length xs) = omega arith in e) in
    elim x as (λ b. cond b (record { 0 = n } ∷ flagged (n + 1) (xs ++ ys)) (flagged (n + 1) (xs ++ ys)) ≡
    cond b (record { 0 = n } ∷ flagged (n + 1) xs) (flagged (n + 1) xs) ++ flagged (n + suc (length xs)) ys)
    [ true ↦ ap (λ (l : List MethodId). record { 0 = n } ∷ l) r | false ↦ r ]

pub flagged_more : (xs : List Bool) (i : ℕ) (b : Bool) → i < length xs → get_or xs i b ≡ b →
    flagged 0 (take (i + 1) xs) ≡ flagged 0 (take i xs) ++ flagged i (b ∷ [])
flagged_more xs i b low is =
    ap (flagged 0) (take_more xs i b low) ∙ flagged-append 0 (take i xs) (get_or xs i b ∷ [])
    ∙ (let e : 0 + length (take i xs) ≡ i = omega (arith, length-take-le i xs) in
    (λ j. flagged 0 (take i xs) ++ flagged (e j) (is j ∷ [])))

pub flagged-length : (n : ℕ) (xs : List Bool) → length (flagged n xs) ≤ length xs
flagged-length n [] = omega arith
flagged-length n (x ∷ xs) =
    elim x as (λ b. length (cond b (record { 0 = n } ∷ flagged (n + 1) xs) (flagged (n + 1) xs)) ≤ suc (length xs))
    [ true ↦ omega (arith, flagged-length (n + 1) xs) | false ↦ omega (arith, flagged-length (n + 1) xs) ]

-- a number stands once at most, and only between n and the end
pub flagged_once : (x n : ℕ) (xs : List Bool) → (times x (flagged n xs) ≤ 1)
    × (0 < times x (flagged n xs) → (n ≤ x) × (x < n + length xs))
flagged_once x n [] = (omega arith, (λ h. absurd (omega arith)))
flagged_once x n (b ∷ bs) =
    let r = flagged_once x (n + 1) bs in
    let Goal : List MethodId → Type 0 = λ l. (times x l ≤ 1) × (0 < times x l → (n ≤ x) × (x < n + suc (length bs))) in
    let later : Goal (flagged (n + 1) bs) = (r.0, (λ h. let s = r.1 h in (omega arith, omega arith))) in
    let m : MethodId = record { 0 = n } in
    let now : Goal (m ∷ flagged (n + 1) bs) =
    (let P : Bool → Type 0 = λ t. (n == x) ≡ t → (cond {A = ℕ} t 1 0 + times x (flagged (n + 1) bs) ≤ 1)
    × (0 < cond {A = ℕ} t 1 0 + times x (flagged (n + 1) bs) → (n ≤ x) × (x < n + suc (length bs))) in
    let f : P (n == x) = elim (n == x) as P [
      | true ↦ (λ e. let same : n ≡ x = eqb_yes _ _ e in (
        le_by_cases (times x (flagged (n + 1) bs)) (λ more. let s = r.1 more in omega arith),
        (λ h. (omega arith, omega arith)),
      ))
      | false ↦ (λ e. (omega (arith, r.0), (λ h. let s = r.1 (omega arith) in (omega arith, omega arith))))
    ] in f refl) in
    elim b as (λ t. Goal (cond t (m ∷ flagged (n + 1) bs) (flagged (n + 1) bs))) [ true ↦ now | false ↦ later ]
  where
    le_by_cases : (k : ℕ) → (0 < k → ⊥) → 1 + k ≤ 1
    le_by_cases zero never = omega arith
    le_by_cases (suc k) never = absurd (never (omega arith))

pub replicate-push : {X : Type 0} (n : ℕ) (x : X) → replicate n x ++ x ∷ [] ≡ replicate (n + 1) x
replicate-push zero x = refl
replicate-push (suc n) x = ap (λ l. x ∷ l) (replicate-push n x)
    ∙ ap (λ (k : ℕ). replicate k x) (let e : suc (n + 1) ≡ suc n + 1 = omega arith in e)

pub flagged_step : (xs : List Bool) (i : ℕ) (b : Bool) (now then : List MethodId) → i < length xs → b ≡ get_or xs i b →
    now ≡ flagged 0 (take i xs) → then ≡ now ++ flagged i (b ∷ []) → then ≡ flagged 0 (take (i + 1) xs)
flagged_step xs i b now then low is e f = f ∙ ap (λ (l : List MethodId). l ++ flagged i (b ∷ [])) e
    ∙ sym (flagged_more xs i b low (sym is))

below_from : (n : ℕ) (bs : List Bool) (d : MethodId) →
    ((j : ℕ) → j < length (flagged (n + 1) bs) → (get_or (flagged (n + 1) bs) j d).0 < n + 1 + length bs) → (k : ℕ) →
    k < suc (length (flagged (n + 1) bs)) → (get_or (record { 0 = n } ∷ flagged (n + 1) bs) k d).0 < n + suc (length bs)
below_from n bs d later zero h = omega arith
below_from n bs d later (suc j) h = omega (arith, later j (omega arith))

pub flagged_below : (n : ℕ) (xs : List Bool) (k : ℕ) (d : MethodId) → k < length (flagged n xs) →
    (get_or (flagged n xs) k d).0 < n + length xs
flagged_below n [] k d low = absurd (omega arith)
flagged_below n (b ∷ bs) k d low =
    let m : MethodId = record { 0 = n } in
    let P : List MethodId → Type 0 = λ l. k < length l → (get_or l k d).0 < n + suc (length bs) in
    let rest = λ (j : ℕ). flagged_below (n + 1) bs j d in
    let later : P (flagged (n + 1) bs) = λ h. omega (arith, rest k h) in
    let now : P (m ∷ flagged (n + 1) bs) = below_from n bs d rest k in
    (elim b as (λ t. P (cond t (m ∷ flagged (n + 1) bs) (flagged (n + 1) bs))) [ true ↦ now | false ↦ later ]) low
