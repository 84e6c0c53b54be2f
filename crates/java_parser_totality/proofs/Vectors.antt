-- Each value is in a box, and each list of fewer elements than memory has is in a vector.
use Rattle.std.proofs.Common.{◌≡◌, ◌<◌, inl, inr, List, [], length, refl, arith}
use Rattle.std.proofs.lemmas.Bool.{cases_lt}
use Rattle.std.specs.Global.{Vec, Box, Global}
use Rattle.java_parser_totality.specs.Totality.{most}
use denote.RawPtr.{null_ptr}

abbrev heap : Global
heap = record { memory = record { seal = tt } }

abbrev pub boxed : {X : Type 0} → X → Box X
boxed x = record { ptr = null_ptr; alloc = heap; value = x }

full : {X : Type 0} (xs : List X) → length xs < most → Vec X
full xs few =
    record {
      ptr = null_ptr;
      len = length xs;
      cap = length xs;
      alloc = heap;
      items = xs;
      ok = (refl, omega arith);
      small = few;
    }

empty : {X : Type 0} → Vec X
empty = record {
  ptr = null_ptr;
  len = 0;
  cap = 0;
  alloc = heap;
  items = [];
  ok =
      (refl, omega arith);
  small = omega arith;
}

-- the elements in a vector; none, where there are too many
pub vector : {X : Type 0} → List X → Vec X
vector xs = elim (cases_lt (length xs) most) [ inl few ↦ full xs few | inr many ↦ empty ]

pub vector-items : {X : Type 0} (xs : List X) → length xs < most → (vector xs).items ≡ xs
unfolding vector full
vector-items {X} xs few =
    elim (cases_lt (length xs) most) as
    (λ c. (elim c as (λ _. Vec X) [ inl low ↦ full xs low | inr many ↦ empty ]).items ≡ xs) [
      | inl low ↦ refl
      | inr many ↦ absurd (omega (arith, few, many))
    ]
