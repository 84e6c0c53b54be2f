-- The flow of one part of code and then another.
use Rattle.std.proofs.Common.{◌≡◌, None, Some, refl}
use Rattle.owner_domain.specs.declared.value.State.{State}
use Rattle.access_domain.specs.Operations.{Effects}
use Rattle.access_domain.specs.Flow.{both, after}

-- what holds of both parts and, where the first has no state at its end, of the first holds of the whole
pub after_cases : (first : Effects) (rest : State → Effects) (P : Effects → Type 0) → (first.next ≡ None → P first) →
    ((s : State) → first.next ≡ Some s → P (both first (rest s))) → P (after first rest)
after_cases first rest P none some =
    elim first.next as (λ o. first.next ≡ o →
    P (elim o as (λ _. Effects) [ None ↦ first | Some s ↦ both first (rest s) ])) [
      | None ↦ λ is. none is
      | Some s ↦ λ is. some s is
    ] refl
