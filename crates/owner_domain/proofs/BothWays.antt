-- A join is the same both ways, but for the order of the lost paths.
use Rattle.std.proofs.Common.{◌≡◌, ◌+◌, Bool, true, false, cond, List, [], ◌∷◌, ◌++◌, refl, sym, ap, ◌∙◌, arith}
use Rattle.std.specs.List.{count_by}
use Rattle.access_paths.specs.declared.path.Path.{Path}
use Rattle.owner_domain.specs.declared.value.Value.{Value}
use Rattle.owner_domain.specs.declared.value.Value.TheVariants.{Unnamed}
use Rattle.owner_domain.specs.declared.value.State.{State}
use Rattle.owner_domain.specs.SameValue.{equal_of_same_value, same_value-laws}
use Rattle.owner_domain.specs.Values.{names_of, same_value, joined, lost, joined_values, lost_values, joined_state}
use Rattle.owner_domain.specs.Values.{lost_state}
use Rattle.racer_base.proofs.Lists.{count_append}

pub joined-turned : (a b : Value) → joined a b ≡ joined b a
joined-turned a b =
    elim (same_value a b) as (λ t. same_value a b ≡ t → cond t a Unnamed ≡ joined b a) [
      | true ↦ λ e.
          let turned : same_value b a ≡ true = sym (same_value-laws.symm a b) ∙ e in
          equal_of_same_value a b e ∙ sym (ap (λ t. cond t b Unnamed) turned)
      | false ↦ λ e.
          let turned : same_value b a ≡ false = sym (same_value-laws.symm a b) ∙ e in
          sym (ap (λ t. cond t b Unnamed) turned)
    ] refl

count_lost : (test : Path → Bool) (a b : Value) (t : Bool) →
    count_by test (cond t [] (names_of a ++ names_of b)) ≡ count_by test (cond t [] (names_of b ++ names_of a))
count_lost test a b true = refl
count_lost test a b false =
    let one : count_by test (names_of a ++ names_of b) ≡ count_by test (names_of a) + count_by test (names_of b) =
    count_append test (names_of a) (names_of b) in
    let other : count_by test (names_of b ++ names_of a) ≡ count_by test (names_of b) + count_by test (names_of a) =
    count_append test (names_of b) (names_of a) in
    omega arith

lost-turned : (test : Path → Bool) (a b : Value) → count_by test (lost a b) ≡ count_by test (lost b a)
lost-turned test a b =
    count_lost test a b (same_value a b) ∙ ap (λ t.
    count_by test (cond t [] (names_of b ++ names_of a))) (same_value-laws.symm a b)

joined_values-turned : (xs ys : List Value) → joined_values xs ys ≡ joined_values ys xs
joined_values-turned [] [] = refl
joined_values-turned [] (y ∷ ys) = refl
joined_values-turned (x ∷ xs) [] = refl
joined_values-turned (x ∷ xs) (y ∷ ys) = λ i. joined-turned x y i ∷ joined_values-turned xs ys i

lost_values-turned : (test : Path → Bool) (xs ys : List Value) →
    count_by test (lost_values xs ys) ≡ count_by test (lost_values ys xs)
lost_values-turned test [] [] = refl
lost_values-turned test [] (y ∷ ys) = refl
lost_values-turned test (x ∷ xs) [] = refl
lost_values-turned test (x ∷ xs) (y ∷ ys) =
    count_append test (lost x y) (lost_values xs ys)
    ∙ (λ i. lost-turned test x y i + lost_values-turned test xs ys i)
    ∙ sym (count_append test (lost y x) (lost_values ys xs))

pub joined_state-turned : (s t : State) → joined_state s t ≡ joined_state t s
joined_state-turned s t = λ i. record {
  vars = joined_values-turned s.vars t.vars i;
  stack = joined_values-turned s.stack t.stack i;
}

pub lost_state-turned : (s t : State) (test : Path → Bool) →
    count_by test (lost_state s t) ≡ count_by test (lost_state t s)
lost_state-turned s t test =
    count_append test (lost_values s.vars t.vars) (lost_values s.stack t.stack)
    ∙ (λ i. lost_values-turned test s.vars t.vars i + lost_values-turned test s.stack t.stack i)
    ∙ sym (count_append test (lost_values t.vars s.vars) (lost_values t.stack s.stack))
