-- Values and states are the same as themselves.
use Rattle.std.proofs.Common.{◌≡◌, Bool, true, false, not, ◌&&◌, List, [], ◌∷◌, refl, ap, ◌∙◌}
use Rattle.owner_domain.specs.declared.value.Value.{Value}
use Rattle.owner_domain.specs.declared.value.State.{State}
use Rattle.owner_domain.specs.SameValue.{same_value-itself}
use Rattle.transfer_loops.specs.Rounds.{same_values, same_state}
use Rattle.transfer_loops.proofs.Settled.{same_state-equal}

pub values-itself : (xs : List Value) → same_values xs xs ≡ true
values-itself [] = refl
values-itself (a ∷ xs) = ap (λ b. b && same_values xs xs) (same_value-itself a) ∙ values-itself xs

pub same-itself : (s : State) → same_state s s ≡ true
same-itself s = ap (λ b. b && same_values s.stack s.stack) (values-itself s.vars) ∙ values-itself s.stack

-- where nothing is found to have changed the states are equal
pub kept-state : (changed : Bool) (new old : State) → changed ≡ not (same_state new old) → changed ≡ false → new ≡ old
kept-state changed new old test same = same_state-equal new old (by_not changed (same_state new old) test same)
  where
    by_not : (a b : Bool) → a ≡ not b → a ≡ false → b ≡ true
    by_not a true e same = refl
    by_not a false e same = cc
