-- No public contract rests on this: values are the same exactly where they are equal.
use Rattle.std.proofs.Common.{◌≡◌, true, refl, sym, ap, ◌∙◌}
use Rattle.std.specs.Cmp.{IsPartialEquivalence}
use Rattle.access_paths.specs.Same.{equal_of_same, same_path-itself, same_path-laws}
use Rattle.owner_domain.specs.declared.value.Value.{Value}
use Rattle.owner_domain.specs.declared.value.Value.TheVariants.{Owned, Named, Unnamed}
use Rattle.owner_domain.specs.Values.{same_value}

pub same_value-itself : (a : Value) → same_value a a ≡ true
same_value-itself Owned = refl
same_value-itself Unnamed = refl
same_value-itself (Named p) = same_path-itself p

pub equal_of_same_value : (a b : Value) → same_value a b ≡ true → a ≡ b
equal_of_same_value Owned Owned e = refl
equal_of_same_value Unnamed Unnamed e = refl
equal_of_same_value (Named p) (Named q) e = ap Named (equal_of_same p q e)
equal_of_same_value _ _ e = cc

pub same_of_equal_value : (a b : Value) → a ≡ b → same_value a b ≡ true
same_of_equal_value a b e = ap (λ c. same_value a c) (sym e) ∙ same_value-itself a

either_way : (a b : Value) → same_value a b ≡ same_value b a
either_way (Named p) (Named q) = same_path-laws.symm p q
either_way Owned Owned = refl
either_way Owned (Named q) = refl
either_way Owned Unnamed = refl
either_way (Named p) Owned = refl
either_way (Named p) Unnamed = refl
either_way Unnamed Owned = refl
either_way Unnamed (Named q) = refl
either_way Unnamed Unnamed = refl

pub same_value-laws : IsPartialEquivalence same_value
same_value-laws =
    record {
      symm = either_way;
      trans = λ a b c ab bc. same_of_equal_value a c (equal_of_same_value a b ab ∙ equal_of_same_value b c bc);
    }
