-- Where no method is on a cycle of the calls of code, the longest chains of calls show that there are ranks.
use Rattle.std.proofs.Common.{◌≡◌, ℕ, zero, suc, ◌<◌, ◌≤◌, true, false, ◌||◌, ◌⊎◌, inl, inr, List, [], ◌∷◌}
use Rattle.std.proofs.Common.{Option, None, Some, length, map, refl, sym, ap, ◌∙◌, subst, arith, nat_eq}
use Rattle.std.specs.Prelude.{slice_get, slice_index_or}
use Rattle.std.specs.List.{Contains, list_any, IsDistinct, AllByRecursion}
use borrow.Author.Tests.{eqb-true}
use Rattle.std.proofs.lemmas.Bool.{cases_lt}
use Rattle.std.proofs.lemmas.List.{length-map}
use Rattle.std.proofs.lemmas.Map.Steps.{length-le_from_distinct_below}
use Rattle.racer_base.specs.declared.ids.MethodId.{MethodId}
use Rattle.core_code.specs.Chains.{Calls, IsChain, IsOnCycle}
use Rattle.core_code.specs.Core.{Core, Method}
use Rattle.core_code.specs.Calls.{calls_in, calls_of, greatest, chain_within}
use Rattle.core_code.specs.CallFacts.{has_ranks}
use Rattle.core_code.specs.CalleeRows.{code_rows}
use Rattle.core_code.proofs.Ranks.{in_head, greatest_most, ranks_by_falling}
use Rattle.core_code.proofs.Members.{in_tail}

-- one that is great enough
great_one : {X : Type 0} (f : X → ℕ) (xs : List X) (k : ℕ) → suc k ≤ greatest (map f xs) →
    (y : X) × Contains xs y × (suc k ≤ f y)
great_one f [] k h = absurd (omega arith)
great_one f (x ∷ xs) k h =
    elim (cases_lt (f x) (suc k)) [
      | inr here ↦ (x, in_head x xs, here)
      | inl low ↦
          let rest = great_one f xs k (omega arith) in
          (rest.0, in_tail x xs rest.0 rest.1, rest.2)
    ]

-- two functions agree on a list, or one element is great for the first
agree_or_great : {X : Type 0} (f g : X → ℕ) (k : ℕ) → ((x : X) → (suc k ≤ f x) ⊎ (f x ≡ g x)) → (xs : List X) →
    (suc k ≤ greatest (map f xs)) ⊎ (map f xs ≡ map g xs)
agree_or_great f g k each [] = inr refl
agree_or_great f g k each (x ∷ xs) =
    elim (each x) [
      | inl great ↦ inl (omega arith)
      | inr same ↦
          elim (agree_or_great f g k each xs) [
            | inl great ↦ inl (omega arith)
            | inr rest ↦ inr (ap (λ (n : ℕ). n ∷ map f xs) same ∙ ap (λ (ns : List ℕ). g x ∷ ns) rest)
          ]
    ]

pub row_calls : (methods : List Method) (n : ℕ) (k : MethodId) →
    Contains (elim (slice_get methods n) as (λ (o : Option Method). List MethodId) [
      | None ↦ []
      | Some m ↦ calls_in m.code
    ]) k →
    Contains (slice_index_or (map (λ (m : Method). calls_in m.code) methods) n []) k
row_calls [] n k h = absurd (let within : h.0 < 0 = h.1 in omega arith)
row_calls (m ∷ ms) zero k h = h
row_calls (m ∷ ms) (suc n) k h = row_calls ms n k h

first_or_rest : (q x : ℕ) (rest : List ℕ) → list_any (nat_eq q) (x ∷ rest) ≡ true →
    (q ≡ x) ⊎ (list_any (nat_eq q) rest ≡ true)
first_or_rest q x rest there =
    elim (nat_eq q x) as (λ b. nat_eq q x ≡ b → (b || list_any (nat_eq q) rest) ≡ true →
    (q ≡ x) ⊎ (list_any (nat_eq q) rest ≡ true)) [
      | true ↦ λ e _. inl (eqb-true q x e)
      | false ↦ λ _ h. inr h
    ] refl there

module _ (core : Core)
    (low : (m n : MethodId) → Contains (calls_of core m) n → n.0 < length core.methods)
    (none : (m : MethodId) → IsOnCycle (code_rows core) m → ⊥) where
  abbrev rows : List (List MethodId)
  rows = code_rows core

  -- methods of which each calls the next
  abbrev IsPath : MethodId → List MethodId → Type 0
  IsPath m [] = Unit {0}
  IsPath m (n ∷ ns) = Contains (calls_of core m) n × IsPath n ns

  -- chains that are longer at k + 1 than at k have k + 1 methods
  whole_or_long : (k : ℕ) (m : MethodId) →
      (suc k ≤ chain_within (suc k) core m) ⊎ (chain_within (suc k) core m ≡ chain_within k core m)
  whole_or_long zero m = inl (omega arith)
  whole_or_long (suc k) m =
      elim (agree_or_great (chain_within (suc k) core) (chain_within k core) k (whole_or_long k) (calls_of core m)) [
        | inl great ↦ inl (omega arith)
        | inr same ↦ inr (ap (λ (ns : List ℕ). suc (greatest ns)) same)
      ]

  -- a chain of so many methods
  long_path : (k : ℕ) (m : MethodId) → suc k ≤ chain_within (suc k) core m →
      (ns : List MethodId) × (length ns ≡ k) × IsPath m ns
  long_path zero m long = ([], refl, tt)
  long_path (suc k) m long =
      let next = great_one (chain_within (suc k) core) (calls_of core m) k (omega arith) in
      let rest = long_path k next.0 next.2 in
      (next.0 ∷ rest.0, (let e : length rest.0 ≡ k = rest.1 in omega arith), (next.1, rest.2))

  calls_row : (m n : MethodId) → Contains (calls_of core m) n → Calls rows m n
  calls_row m n call = row_calls core.methods m.0 n call

  -- a path comes to a method, or all on it are others
  met_or_apart : (m x : MethodId) (ns : List MethodId) → IsPath x ns →
      ((between : List MethodId) × IsChain rows x between m) ⊎
      AllByRecursion (λ (k : ℕ). nat_eq m.0 k ≡ false) (map (λ (n : MethodId). n.0) ns)
  met_or_apart m x [] path = inr tt
  met_or_apart m x (n ∷ ns) path =
      elim (nat_eq m.0 n.0) as (λ b. nat_eq m.0 n.0 ≡ b →
      ((between : List MethodId) × IsChain rows x between m) ⊎
      AllByRecursion (λ (k : ℕ). nat_eq m.0 k ≡ false) (map (λ (n : MethodId). n.0) (n ∷ ns))) [
        | true ↦ λ e.
            let same : n ≡ m =
            ap (λ (k : ℕ). let i : MethodId = record { 0 = k } in i) (sym (eqb-true m.0 n.0 e)) in
            inl ([], subst (λ (k : MethodId). Calls rows x k) same (calls_row x n path.0))
        | false ↦ λ e.
            elim (met_or_apart m n ns path.1) [
              | inl chain ↦ inl (n ∷ chain.0, (calls_row x n path.0, chain.1))
              | inr apart ↦ inr (e, apart)
            ]
      ] refl

  distinct : (x : MethodId) (ns : List MethodId) → IsPath x ns →
      IsDistinct nat_eq (map (λ (n : MethodId). n.0) (x ∷ ns))
  unfolding IsDistinct
  distinct x [] path = (tt, tt)
  distinct x (n ∷ ns) path =
      elim (met_or_apart x x (n ∷ ns) path) [
        | inl chain ↦ absurd (none x chain)
        | inr apart ↦ (apart, distinct n ns path.1)
      ]

  in_range : (x : MethodId) (ns : List MethodId) → x.0 < length core.methods → IsPath x ns → (q : ℕ) →
      list_any (nat_eq q) (map (λ (n : MethodId). n.0) (x ∷ ns)) ≡ true → q < length core.methods
  in_range x [] here path q there =
      elim (first_or_rest q x.0 [] there) [ inl same ↦ omega arith | inr rest ↦ absurd cc ]
  in_range x (n ∷ ns) here path q there =
      elim (first_or_rest q x.0 (map (λ (k : MethodId). k.0) (n ∷ ns)) there) [
        | inl same ↦ omega arith
        | inr rest ↦ in_range n ns (low x n path.0) path.1 q rest
      ]

  few : (x : MethodId) (ns : List MethodId) → x.0 < length core.methods → IsPath x ns →
      length ns < length core.methods
  few x ns here path =
      let most : length (map (λ (n : MethodId). n.0) (x ∷ ns)) ≤ length core.methods =
      length-le_from_distinct_below (map (λ (n : MethodId). n.0) (x ∷ ns)) (length core.methods) (distinct x ns path)
      (in_range x ns here path) in
      let long : length (map (λ (n : MethodId). n.0) ns) ≡ length ns = length-map ns (λ (n : MethodId). n.0) in
      omega arith

  falls : (count : ℕ) → count ≡ length core.methods → (m n : MethodId) → m.0 < count → Contains (calls_of core m) n →
      chain_within count core n < chain_within count core m
  falls zero is m n within call = absurd (omega arith)
  falls (suc k) is m n within call =
      let among : chain_within k core n ≤ greatest (map (chain_within k core) (calls_of core m)) =
      greatest_most (chain_within k core) (calls_of core m) n call in
      elim (whole_or_long k n) [
        | inr same ↦ omega arith
        | inl long ↦
            absurd (
            let path = long_path k n long in
            let many : length path.0 ≡ k = path.1 in
            let less : length (n ∷ path.0) < length core.methods = few m (n ∷ path.0) (omega arith) (call, path.2) in
            omega arith)
      ]

  pub ranks_by_chains : has_ranks core ≡ true
  ranks_by_chains = ranks_by_falling core (λ m n within call. falls (length core.methods) refl m n within call)
