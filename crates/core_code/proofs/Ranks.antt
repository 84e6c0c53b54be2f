-- Any numbers that fall along calls and stay below the number of methods show that there are ranks.
use Rattle.std.proofs.Common.{◌≡◌, ℕ, zero, suc, ◌+◌, ◌<◌, ◌≤◌, Bool, true, ◌||◌, List, [], ◌∷◌, Option, None}
use Rattle.std.proofs.Common.{Some, map, length, is_some, nat_lt, refl, sym, ap, ◌∙◌, subst, arith, add-zero}
use Rattle.std.proofs.Common.{slice_get, zero-add, false}
use Rattle.std.proofs.lemmas.Bool.{lt-ltb, and_from}
use Rattle.std.proofs.lemmas.Option.{slice_get_within}
use Rattle.std.specs.List.{Contains, list_all, enumerate_from}
use Rattle.racer_base.specs.declared.ids.MethodId.{MethodId}
use Rattle.core_code.specs.Core.{Core, Method}
use Rattle.core_code.specs.Calls.{calls_in, calls_of, greatest, chain_within, rank_of}
use Rattle.core_code.specs.CallFacts.{is_above, has_ranks}
use Rattle.core_code.proofs.Members.{in_tail}

pub in_head : {X : Type 0} (x : X) (xs : List X) → Contains (x ∷ xs) x
in_head x xs = (0, omega arith, refl)

all_by : {X : Type 0} (test : X → Bool) (xs : List X) → ((y : X) → Contains xs y → test y ≡ true) →
    list_all test xs ≡ true
all_by test [] each = refl
all_by test (x ∷ xs) each =
    and_from (test x) (list_all test xs) (each x (in_head x xs))
    (all_by test xs (λ y there. each y (in_tail x xs y there)))

same_map : {X : Type 0} (f g : X → ℕ) (xs : List X) → ((y : X) → Contains xs y → f y ≡ g y) → map f xs ≡ map g xs
same_map f g [] each = refl
same_map f g (x ∷ xs) each =
    ap (λ (n : ℕ). n ∷ map f xs) (each x (in_head x xs))
    ∙ ap (λ (ns : List ℕ). g x ∷ ns) (same_map f g xs (λ y there. each y (in_tail x xs y there)))

pub greatest_most : {X : Type 0} (f : X → ℕ) (xs : List X) (y : X) → Contains xs y → f y ≤ greatest (map f xs)
greatest_most f [] y there = absurd (let within : there.0 < 0 = there.1 in omega arith)
greatest_most f (x ∷ xs) y (zero, within, is) =
    let own : f x ≡ f y = ap f is in
    omega arith
greatest_most f (x ∷ xs) y (suc k, within, is) =
    let rest : f y ≤ greatest (map f xs) = greatest_most f xs y (k, omega (arith, within), is) in
    omega arith

module _ (core : Core)
    (falls : (m n : MethodId) → m.0 < length core.methods → Contains (calls_of core m) n →
    rank_of core n < rank_of core m) where
  either_passes : (a b : Bool) → b ≡ true → (a || b) ≡ true
  either_passes a b h = ap (λ (x : Bool). a || x) h ∙ or_true a
    where
      or_true : (a : Bool) → (a || true) ≡ true
      or_true true = refl
      or_true false = refl

  above_from : (k : ℕ) (methods : List Method) →
      ((j : ℕ) → slice_get core.methods (k + j) ≡ slice_get methods j) →
      list_all (is_above (rank_of core)) (enumerate_from k methods) ≡ true
  above_from k [] found = refl
  above_from k (m ∷ ms) found =
      let here : slice_get core.methods k ≡ Some m = ap (slice_get core.methods) (sym (add-zero k)) ∙ found 0 in
      let own : calls_of core (record { 0 = k }) ≡ calls_in m.code =
      ap (λ (o : Option Method). elim o as (λ (x : Option Method). List MethodId) [
        | None ↦ []
        | Some method ↦ calls_in method.code
      ]) here in
      let within : k < length core.methods = slice_get_within core.methods k m here in
      let rest : list_all (is_above (rank_of core)) (enumerate_from (k + 1) ms) ≡ true =
      above_from (k + 1) ms (λ j. ap (slice_get core.methods) (omega arith) ∙ found (suc j)) in
      and_from (is_above (rank_of core) (k, m)) (list_all (is_above (rank_of core)) (enumerate_from (k + 1) ms))
      (either_passes (is_some m.status) _
      (all_by (λ (n : MethodId). nat_lt (rank_of core n) (rank_of core (record { 0 = k }))) (calls_in m.code)
      (λ n there.
      lt-ltb (rank_of core n) (rank_of core (record { 0 = k }))
      (falls (record { 0 = k }) n within (subst (λ (calls : List MethodId). Contains calls n) (sym own) there)))))
      rest

  pub ranks_by_falling : has_ranks core ≡ true
  ranks_by_falling = above_from 0 core.methods (λ j. ap (slice_get core.methods) (zero-add j))

module _ (core : Core) (number : MethodId → ℕ)
    (fall : (m n : MethodId) → Contains (calls_of core m) n → number n < number m)
    (few : (m : MethodId) → m.0 < length core.methods → number m < length core.methods) where
  -- chains from a method of a number below k have been counted whole at k
  counted : (k : ℕ) (m : MethodId) → number m < k → chain_within k core m ≡ chain_within (suc k) core m
  counted zero m below = absurd (omega arith)
  counted (suc k) m below =
      ap (λ (ns : List ℕ). suc (greatest ns))
      (same_map (chain_within k core) (chain_within (suc k) core) (calls_of core m) (λ n there.
      let less : number n < number m = fall m n there in
      counted k n (omega arith)))

  rank_above : (count : ℕ) → count ≡ length core.methods → (m n : MethodId) → m.0 < count →
      Contains (calls_of core m) n → chain_within count core n < chain_within count core m
  rank_above zero is m n within there = absurd (omega arith)
  rank_above (suc k) is m n within there =
      let less : number n < number m = fall m n there in
      let most : number m < length core.methods = few m (omega arith) in
      let whole : chain_within k core n ≡ chain_within (suc k) core n = counted k n (omega arith) in
      let among : chain_within k core n ≤ greatest (map (chain_within k core) (calls_of core m)) =
      greatest_most (chain_within k core) (calls_of core m) n there in
      omega arith

  pub ranks_by_numbers : has_ranks core ≡ true
  ranks_by_numbers = ranks_by_falling core (λ m n within there. rank_above (length core.methods) refl m n within there)
