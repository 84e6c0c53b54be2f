-- The analysed methods, as numbers that are counted, and as the flags of a program.
use Rattle.std.proofs.Common.{◌≡◌, ℕ, zero, suc, ◌+◌, ◌<◌, List, [], ◌∷◌, Bool, true, false, cond}
use Rattle.std.proofs.Common.{Option, Some, None, refl, sym, ap, ◌∙◌, subst, arith, is_none, option_map}
use Rattle.std.specs.Prelude.{◌==◌, slice_get}
use Rattle.std.specs.List.{Contains}
use Rattle.std.proofs.lemmas.Option.{slice_get-map}
use Rattle.std.proofs.lemmas.Bool.{eq-eqb, eqb-true}
use Rattle.racer_base.specs.declared.ids.MethodId.{MethodId}
use Rattle.core_code.specs.Core.{Core, Method}
use Rattle.core_code.proofs.RowCallees.{analysed_at}
use Rattle.core_code.specs.Calls.{is_analysed}
use Rattle.core_code.specs.Counting.{times, IsIn, flagged, flags_of, analysed_methods}

-- ---- members

pub contains_in : (c : MethodId) (ms : List MethodId) → IsIn c ms → Contains ms c
contains_in c [] here = absurd (omega arith)
contains_in c (m ∷ ms) here =
    elim (m.0 == c.0) as (λ b. (m.0 == c.0) ≡ b → 0 < cond b 1 0 + times c.0 ms → Contains (m ∷ ms) c) [
      | true ↦ λ e _.
          let same : m ≡ c = ap (λ (n : ℕ). let k : MethodId = record { 0 = n } in k) (eqb-true m.0 c.0 e) in
          (0, omega arith, same)
      | false ↦ λ e more.
          let there = contains_in c ms (omega arith) in
          (suc there.0, omega (arith, there.1), there.2)
    ] refl here

-- ---- flags

abbrev bit : ℕ → ℕ → ℕ
bit x y = cond (x == y) 1 0

bit_same : (x : ℕ) → bit x x ≡ 1
bit_same x = ap (λ (b : Bool). cond {A = ℕ} b 1 0) (eq-eqb x x refl)

not_here : (b : Bool) → (b ≡ true → ⊥) → cond {A = ℕ} b 1 0 ≡ 0
not_here true h = absurd (h refl)
not_here false h = refl

-- the numbers from n on, where the first flag is this one
abbrev begun : ℕ → List Bool → Bool → List MethodId
begun n bs b = cond b (record { 0 = n } ∷ flagged (n + 1) bs) (flagged (n + 1) bs)

-- no number below n is among those from n on
none_below : (x n : ℕ) (flags : List Bool) → x < n → times x (flagged n flags) ≡ 0
none_below x n [] low = refl
none_below x n (b ∷ bs) low =
    let rest = none_below x (n + 1) bs (omega arith) in
    let other : bit n x ≡ 0 = not_here (n == x) (λ e. let same : n ≡ x = eqb-true n x e in omega arith) in
    elim b as (λ t. times x (begun n bs t) ≡ 0) [ true ↦ omega (arith, rest, other) | false ↦ rest ]

pub flag_set : (n x : ℕ) (flags : List Bool) → 0 < times (n + x) (flagged n flags) → slice_get flags x ≡ Some true
flag_set n x [] here = absurd (omega arith)
flag_set n zero (b ∷ bs) here =
    let low : n + 0 < n + 1 = omega arith in
    let rest = none_below (n + 0) (n + 1) bs low in
    elim b as (λ t. 0 < times (n + 0) (begun n bs t) → Some t ≡ Some true) [
      | true ↦ λ _. refl
      | false ↦ λ some. absurd (omega (arith, rest, some))
    ] here
flag_set n (suc x) (b ∷ bs) here =
    let moved : n + suc x ≡ n + 1 + x = omega arith in
    let other : bit n (n + suc x) ≡ 0 = not_here (n == n + suc x) (λ e.
    let same : n ≡ n + suc x = eqb-true n (n + suc x) e in omega arith) in
    let later : 0 < times (n + suc x) (flagged (n + 1) bs) =
    elim b as (λ t. 0 < times (n + suc x) (begun n bs t) → 0 < times (n + suc x) (flagged (n + 1) bs)) [
      | true ↦ λ some. omega (arith, some, other)
      | false ↦ λ some. some
    ] here in
    flag_set (n + 1) x bs (subst (λ (k : ℕ). 0 < times k (flagged (n + 1) bs)) moved later)

pub flag_counts : (n x : ℕ) (flags : List Bool) → slice_get flags x ≡ Some true → 0 < times (n + x) (flagged n flags)
flag_counts n x [] is = cc
flag_counts n zero (b ∷ bs) is =
    let set : b ≡ true = cc in
    let moved : n + 0 ≡ n = omega arith in
    let here = bit_same n in
    let now : 0 < times n (record { 0 = n } ∷ flagged (n + 1) bs) = omega (arith, here) in
    subst (λ (t : Bool). 0 < times (n + 0) (begun n bs t)) (sym set)
    (subst (λ (k : ℕ). 0 < times k (record { 0 = n } ∷ flagged (n + 1) bs)) (sym moved) now)
flag_counts n (suc x) (b ∷ bs) is =
    let moved : n + 1 + x ≡ n + suc x = omega arith in
    let later : 0 < times (n + suc x) (flagged (n + 1) bs) =
    subst (λ (k : ℕ). 0 < times k (flagged (n + 1) bs)) moved (flag_counts (n + 1) x bs is) in
    elim b as (λ t. 0 < times (n + suc x) (begun n bs t)) [ true ↦ omega (arith, later) | false ↦ later ]

-- ---- the analysed methods of a program

set_there : (o : Option Method) → option_map (λ (m : Method). is_none m.status) o ≡ Some true →
    analysed_at o ≡ true
set_there None e = cc
set_there (Some method) e = cc

there_set : (o : Option Method) → analysed_at o ≡ true →
    option_map (λ (m : Method). is_none m.status) o ≡ Some true
there_set None e = cc
there_set (Some method) e = ap (λ (b : Bool). Some b) e

pub analysed_of : (core : Core) (m : MethodId) → IsIn m (analysed_methods core) → is_analysed core m ≡ true
analysed_of core m here =
    let flag : slice_get (flags_of core) m.0 ≡ Some true =
    flag_set 0 m.0 (flags_of core) (let moved : m.0 ≡ 0 + m.0 = omega arith in
    subst (λ (k : ℕ). 0 < times k (flagged 0 (flags_of core))) moved here) in
    set_there (slice_get core.methods m.0)
    (sym (slice_get-map (λ (x : Method). is_none x.status) core.methods m.0) ∙ flag)

pub analysed_in : (core : Core) (m : MethodId) → is_analysed core m ≡ true → IsIn m (analysed_methods core)
analysed_in core m analysed =
    let flag : slice_get (flags_of core) m.0 ≡ Some true =
    slice_get-map (λ (x : Method). is_none x.status) core.methods m.0
    ∙ there_set (slice_get core.methods m.0) analysed in
    let moved : 0 + m.0 ≡ m.0 = omega arith in
    subst (λ (k : ℕ). 0 < times k (flagged 0 (flags_of core))) moved (flag_counts 0 m.0 (flags_of core) flag)
