-- The level of an analysed method is found from those of the methods in its row.
use Rattle.std.proofs.Common.{◌≡◌, ℕ, zero, suc, ◌-◌, ◌<◌, ◌≤◌, Bool, true, false, cond, not, List, [], ◌∷◌}
use Rattle.std.proofs.Common.{filter, length, map, nat_eq, refl, sym, ap, ◌∙◌, arith}
use Rattle.std.specs.Prelude.{max}
use Rattle.std.specs.List.{Contains}
use Rattle.racer_base.specs.declared.ids.MethodId.{MethodId}
use Rattle.core_code.specs.Calls.{calls_in, calls_of, chain_within, greatest, is_analysed, method_at, rank_of}
use Rattle.core_code.specs.CallFacts.{are_calls_right, has_ranks}
use Rattle.core_code.specs.CalleeRows.{different, rows_of}
use Rattle.core_code.specs.Chains.{row_of}
use Rattle.core_code.specs.Core.{Core}
use Rattle.core_code.proofs.Members.{in_tail}
use Rattle.core_code.proofs.Ranks.{in_head}
use Rattle.core_code.proofs.RowCallees.{method_there, nat_eq-same, row_at}
use Rattle.transfer_ties.specs.Again.{level_of}
use Rattle.edit_session.specs.Levels.{level_above}
use Rattle.edit_session.proofs.Calling.{analysed_low, callee_analysed, calls_are, chain_most, chain_some, rank_falls}

abbrev differs : MethodId → MethodId → Bool
differs m n = not (nat_eq m.0 n.0)

-- a method that is left out behind itself changes nothing
greatest_left : (f : MethodId → ℕ) (m : MethodId) (xs : List MethodId) →
    max (f m) (greatest (map f (filter (differs m) xs))) ≡ max (f m) (greatest (map f xs))
greatest_left f m [] = refl
greatest_left f m (x ∷ xs) =
    let rest : max (f m) (greatest (map f (filter (differs m) xs))) ≡ max (f m) (greatest (map f xs)) =
    greatest_left f m xs in
    elim (nat_eq m.0 x.0) as (λ b. nat_eq m.0 x.0 ≡ b →
    max (f m) (greatest (map f (cond (not b) (x ∷ filter (differs m) xs) (filter (differs m) xs)))) ≡
    max (f m) (max (f x) (greatest (map f xs)))) [
      | true ↦ λ e. let same : f m ≡ f x = ap f (nat_eq-same m x e) in omega arith
      | false ↦ λ e. omega arith
    ] refl

greatest_different : (f : MethodId → ℕ) (ms : List MethodId) → greatest (map f (different ms)) ≡ greatest (map f ms)
greatest_different f [] = refl
greatest_different f (m ∷ ms) = greatest_left f m (different ms) ∙ ap (max (f m)) (greatest_different f ms)

same_map : {X : Type 0} (f g : X → ℕ) (xs : List X) → ((y : X) → Contains xs y → f y ≡ g y) → map f xs ≡ map g xs
same_map f g [] each = refl
same_map f g (x ∷ xs) each =
    ap (λ (n : ℕ). n ∷ map f xs) (each x (in_head x xs))
    ∙ ap (λ (ns : List ℕ). g x ∷ ns) (same_map f g xs (λ y there. each y (in_tail x xs y there)))

module _ (core : Core) (right : are_calls_right core ≡ true) (ranks : has_ranks core ≡ true) where
  -- chains from a method of a rank up to k have been counted whole at k
  counted : (k : ℕ) (m : MethodId) → is_analysed core m ≡ true → rank_of core m ≤ k →
      chain_within k core m ≡ chain_within (suc k) core m
  counted zero m analysed most =
      let low : m.0 < length core.methods = analysed_low core m analysed in
      let some : 0 < rank_of core m = chain_some core (length core.methods) m (omega arith) in
      absurd (omega arith)
  counted (suc k) m analysed most =
      ap (λ (ns : List ℕ). suc (greatest ns))
      (same_map (chain_within k core) (chain_within (suc k) core) (calls_of core m) (λ n call.
      let less : rank_of core n < rank_of core m = rank_falls core right ranks m n analysed call in
      counted k n (callee_analysed core right ranks m n analysed call) (omega arith)))

  step_at : (count : ℕ) → count ≡ length core.methods → (m : MethodId) → is_analysed core m ≡ true →
      chain_within count core m - 1 ≡ greatest (map (λ (n : MethodId). suc (level_of core n)) (calls_of core m))
  step_at zero is m analysed = let low : m.0 < length core.methods = analysed_low core m analysed in absurd (omega arith)
  step_at (suc k) is m analysed =
      let one_less : chain_within (suc k) core m - 1 ≡ greatest (map (chain_within k core) (calls_of core m)) =
      omega arith in
      one_less
      ∙ ap greatest (same_map (chain_within k core) (λ n. suc (level_of core n)) (calls_of core m) (λ n call.
      let less : rank_of core n < rank_of core m = rank_falls core right ranks m n analysed call in
      let most : rank_of core m ≤ length core.methods = chain_most core (length core.methods) m in
      let some : 0 < rank_of core n = chain_some core (length core.methods) n (omega arith) in
      let whole : chain_within k core n ≡ chain_within (suc k) core n =
      counted k n (callee_analysed core right ranks m n analysed call) (omega arith) in
      let rank : chain_within (suc k) core n ≡ rank_of core n = ap (λ (c : ℕ). chain_within c core n) is in
      let above : rank_of core n ≡ suc (level_of core n) = omega arith in
      whole ∙ rank ∙ above))

  pub level_step : (m : MethodId) → is_analysed core m ≡ true →
      level_of core m ≡ level_above core (row_of (rows_of core) m)
  level_step m analysed =
      let by = method_there (method_at core m) analysed in
      let f : MethodId → ℕ = λ n. suc (level_of core n) in
      step_at (length core.methods) refl m analysed
      ∙ ap (λ (ms : List MethodId). greatest (map f ms)) (calls_are core m by.0 by.1)
      ∙ sym (greatest_different f (calls_in by.0.code))
      ∙ sym (ap (λ (ms : List MethodId). greatest (map f ms)) (row_at core.methods m.0 by.0 by.1))
