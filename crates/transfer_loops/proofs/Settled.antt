-- Tests of equal states.
use Rattle.std.proofs.Common.{◌≡◌, true, List, [], ◌∷◌, refl}
use Rattle.std.proofs.lemmas.Bool.{and_parts}
use Rattle.owner_domain.specs.declared.value.Value.{Value}
use Rattle.owner_domain.specs.declared.value.State.{State}
use Rattle.owner_domain.specs.SameValue.{equal_of_same_value}
use Rattle.owner_domain.specs.Values.{same_value}
use Rattle.transfer_loops.specs.Rounds.{same_state, same_values}

same_values-equal : (xs ys : List Value) → same_values xs ys ≡ true → xs ≡ ys
same_values-equal [] [] e = refl
same_values-equal [] (y ∷ ys) e = cc
same_values-equal (x ∷ xs) [] e = cc
same_values-equal (x ∷ xs) (y ∷ ys) e = (λ i. equal_of_same_value x y
    (and_parts (same_value x y) (same_values xs ys) e).0 i ∷ same_values-equal xs ys
    (and_parts (same_value x y) (same_values xs ys) e).1 i)

pub same_state-equal : (s t : State) → same_state s t ≡ true → s ≡ t
same_state-equal s t e = (λ i. record {
  vars = same_values-equal s.vars t.vars (and_parts (same_values s.vars t.vars) (same_values s.stack t.stack) e).0 i;
  stack = same_values-equal s.stack t.stack (and_parts (same_values s.vars t.vars) (same_values s.stack t.stack) e).1 i;
})
