-- Joins of equal values and states.
use Rattle.std.proofs.Common.{◌≡◌, suc, cond, List, [], ◌∷◌, ◌++◌, length, refl, ap, arith}
use Rattle.racer_base.specs.declared.ids.FieldId.{FieldId}
use Rattle.owner_domain.specs.declared.value.Value.{Value}
use Rattle.owner_domain.specs.declared.value.Value.TheVariants.{Unnamed}
use Rattle.owner_domain.specs.declared.value.State.{State}
use Rattle.owner_domain.specs.SameValue.{same_value-itself}
use Rattle.owner_domain.specs.Values.{names_of, field_value, along, joined, lost, joined_values, lost_values}
use Rattle.owner_domain.specs.Values.{joined_state, lost_state}

pub joined-itself : (a : Value) → joined a a ≡ a
joined-itself a = ap (λ b. cond b a Unnamed) (same_value-itself a)

pub lost-itself : (a : Value) → lost a a ≡ []
lost-itself a = ap (λ b. cond b [] (names_of a ++ names_of a)) (same_value-itself a)

pub joined_values-itself : (values : List Value) → joined_values values values ≡ values
joined_values-itself [] = refl
joined_values-itself (a ∷ rest) = λ i. joined-itself a i ∷ joined_values-itself rest i

pub lost_values-itself : (values : List Value) → lost_values values values ≡ []
lost_values-itself [] = refl
lost_values-itself (a ∷ rest) = λ i. lost-itself a i ++ lost_values-itself rest i

pub joined_state-itself : (s : State) → joined_state s s ≡ s
joined_state-itself s = λ i. record { vars = joined_values-itself s.vars i; stack = joined_values-itself s.stack i }

pub lost_state-itself : (s : State) → lost_state s s ≡ []
lost_state-itself s = λ i. lost_values-itself s.vars i ++ lost_values-itself s.stack i

pub along-append : (v : Value) (fs gs : List FieldId) → along v (fs ++ gs) ≡ along (along v fs) gs
along-append v [] gs = refl
along-append v (f ∷ fs) gs = along-append (field_value v f) fs gs

pub length-joined_values : (xs ys : List Value) → length xs ≡ length ys → length (joined_values xs ys) ≡ length xs
length-joined_values [] [] e = refl
length-joined_values [] (y ∷ ys) e = refl
length-joined_values (x ∷ xs) [] e = absurd (let z : length (x ∷ xs) ≡ 0 = e in omega arith)
length-joined_values (x ∷ xs) (y ∷ ys) e =
    let l : suc (length xs) ≡ suc (length ys) = e in
    ap (λ n. suc n) (length-joined_values xs ys (omega arith))
