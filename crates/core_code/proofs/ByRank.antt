-- What a table that is closed by rank has of the methods of small ranks, and of the others.
use Rattle.std.proofs.Common.{◌≡◌, ℕ, zero, suc, ◌<◌, ◌≤◌, true, false, cond, Option, None, Some, nat_eq, refl, sym}
use Rattle.std.proofs.Common.{ap, ◌∙◌}
use Rattle.std.proofs.Common.{inl, inr, arith}
use borrow.Author.Tests.{eqb-true}
use Rattle.std.proofs.lemmas.Bool.{eqb-false, cases_lt}
use Rattle.racer_base.specs.declared.ids.MethodId.{MethodId}
use Rattle.core_code.specs.Core.{Core}
use Rattle.core_code.specs.Calls.{rank_of, known_below, closed_by_rank}

-- a method of a rank below k
pub known_below-lower : {X : Type 0} (nothing : X) (step : (MethodId → X) → MethodId →
    X) (core : Core) (k : ℕ) (m : MethodId) →
    rank_of core m < k → known_below nothing step core k m ≡ closed_by_rank nothing step core m
known_below-lower nothing step core zero m low = absurd (omega arith)
known_below-lower {X} nothing step core (suc n) m low =
    elim (nat_eq (rank_of core m) n) as (λ b. nat_eq (rank_of core m) n ≡ b →
    cond b (step (known_below nothing step core n) m) (known_below nothing step core n m) ≡
    closed_by_rank nothing step core m) [
      | true ↦ λ e.
          ap (λ (r : ℕ). step (known_below nothing step core r) m) (sym (eqb-true (rank_of core m) n e))
      | false ↦ λ e.
          let other : rank_of core m ≡ n → ⊥ = eqb-false (rank_of core m) n e in
          known_below-lower nothing step core n m (omega arith)
    ] refl

-- any other method
pub known_below-higher : {X : Type 0} (nothing : X) (step : (MethodId → X) → MethodId →
    X) (core : Core) (k : ℕ) (m : MethodId) →
    k ≤ rank_of core m → known_below nothing step core k m ≡ nothing
known_below-higher nothing step core zero m high = refl
known_below-higher {X} nothing step core (suc n) m high =
    elim (nat_eq (rank_of core m) n) as (λ b. nat_eq (rank_of core m) n ≡ b →
    cond b (step (known_below nothing step core n) m) (known_below nothing step core n m) ≡ nothing) [
      | true ↦ λ e. let same : rank_of core m ≡ n = eqb-true (rank_of core m) n e in absurd (omega arith)
      | false ↦ λ e. known_below-higher nothing step core n m (omega arith)
    ] refl

-- what the table has is what is known of the method
pub known_below-some : {X : Type 0} (step : (MethodId → Option X) → MethodId →
    Option X) (core : Core) (k : ℕ) (m : MethodId) (x : X) →
    known_below None step core k m ≡ Some x → closed_by_rank None step core m ≡ Some x
known_below-some step core k m x is =
    elim (cases_lt (rank_of core m) k) [
      | inl low ↦ sym (known_below-lower None step core k m low) ∙ is
      | inr high ↦ let none = known_below-higher None step core k m high in cc
    ]
