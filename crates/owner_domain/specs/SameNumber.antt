-- A contract of a public call rests on this: the laws of `==` at numbered values, and what one feeds a hasher.
use Rattle.std.proofs.Common.{◌≡◌, true, IsTrue, ◌++◌, refl, sym, ap, ◌∙◌}
use Rattle.std.specs.Hash as fed
use Rattle.std.specs.Cmp.{IsPartialEquivalence, IsEquivalence, both_ways, equiv}
use Rattle.std.proofs.lemmas.Bool.{eqb-true, eq-eqb}
use Rattle.owner_domain.specs.declared.numbered.NumberedValue.{NumberedValue}
use Rattle.owner_domain.specs.declared.numbered.NumberedValue.TheVariants.{Owned, Named, Unnamed}
use Rattle.owner_domain.specs.Numbered.{same_number}

pub same_number-itself : (a : NumberedValue) → same_number a a ≡ true
same_number-itself Owned = refl
same_number-itself Unnamed = refl
same_number-itself (Named n) = eq-eqb n n refl

pub equal_of_same_number : (a b : NumberedValue) → same_number a b ≡ true → a ≡ b
equal_of_same_number Owned Owned e = refl
equal_of_same_number Unnamed Unnamed e = refl
equal_of_same_number (Named m) (Named n) e = ap Named (eqb-true m n e)
equal_of_same_number _ _ e = cc

pub same_of_equal_number : (a b : NumberedValue) → a ≡ b → same_number a b ≡ true
same_of_equal_number a b e = ap (λ c. same_number a c) (sym e) ∙ same_number-itself a

-- so the same both ways
either_way : (a b : NumberedValue) → same_number a b ≡ same_number b a
either_way a b = both_ways (same_number a b) (same_number b a)
    (λ e. same_of_equal_number b a (sym (equal_of_same_number a b e)))
    (λ e. same_of_equal_number a b (sym (equal_of_same_number b a e)))

-- the laws of `==` at values
pub same_number-laws : IsPartialEquivalence same_number
same_number-laws =
    record {
      symm = either_way;
      trans = λ a b c ab bc. same_of_equal_number a c (equal_of_same_number a b ab ∙ equal_of_same_number b c bc);
    }

pub same_number-equivalence : IsEquivalence same_number
same_number-equivalence = equiv same_number-laws same_number-itself

-- what it feeds a hasher: its form, and its number
abbrev pub number_input : NumberedValue → fed.HashWrites
number_input Owned = fed.u32 0
number_input (Named n) = fed.u32 1 ++ fed.u32 n
number_input Unnamed = fed.u32 2

pub number_input-respects : (a b : NumberedValue) → IsTrue (same_number a b) → number_input a ≡ number_input b
number_input-respects a b same = ap number_input (equal_of_same_number a b same)
