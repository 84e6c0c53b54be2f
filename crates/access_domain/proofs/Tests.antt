-- Tests that are made of tests.
use Rattle.std.proofs.Common.{◌≡◌, Bool, true, false, List, [], ◌∷◌, ℕ, zero, suc, Some, slice_get}
use Rattle.std.proofs.Common.{⊎_elim}
use Rattle.std.proofs.Common.{refl, sym, ap, ◌∙◌}
use Rattle.std.specs.List.{list_all}
use Rattle.std.proofs.lemmas.Bool.{and_parts}
use Rattle.core_code.proofs.Membership.{In}
use Rattle.access_domain.specs.Records.{same_flag}

pub equal_flags : (a b : Bool) → same_flag a b ≡ true → a ≡ b
equal_flags true b h = sym h
equal_flags false true h = cc
equal_flags false false h = refl

-- what all pass each passes
pub passes_in : {X : Type 0} (test : X → Bool) (xs : List X) (x : X) → list_all test xs ≡ true → In xs x → test x ≡ true
passes_in test [] x all there = absurd there
passes_in test (y ∷ xs) x all there =
    ⊎_elim
    (λ e. ap test (sym e) ∙ (and_parts (test y) (list_all test xs) all).0)
    (λ r. passes_in test xs x (and_parts (test y) (list_all test xs) all).1 r) there

pub passes_at : {X : Type 0} (test : X → Bool) (xs : List X) (i : ℕ) (x : X) → list_all test xs ≡ true →
    slice_get xs i ≡ Some x → test x ≡ true
passes_at test [] i x all is = cc
passes_at test (y ∷ xs) zero x all is =
    let same : y ≡ x = cc in ap test (sym same) ∙ (and_parts (test y) (list_all test xs) all).0
passes_at test (y ∷ xs) (suc i) x all is = passes_at test xs i x (and_parts (test y) (list_all test xs) all).1 is
