-- What is read of a whole, from what is read of its parts.
use Rattle.std.proofs.Common.{◌≡◌, Option, Some, None, ap}
use Rattle.java_parser_types.specs.declared.error.ReadError.{ReadError}
use Rattle.java_parser_types.specs.declared.error.ReadError.TheVariants.{Memory, Unformed}
use Rattle.java_parser_grammar.specs.Taking.{◌>>=◌}
use Rattle.java_parser_types.specs.ReadAnswer.{Fails}

-- where a part is not read, the whole is not
pub part_fails : {A B : Type 0} (e : ReadError) (part : Option A) (whole : Option B) → (part ≡ None → whole ≡ None)
    → Fails e part → Fails e whole
part_fails Memory part whole given none = tt
part_fails Unformed part whole given none = given none

-- what is only made fails for want of memory alone
pub making_fails : {A B : Type 0} (e : ReadError) (made : A) (whole : Option B) → Fails e (Some made) → Fails e whole
making_fails Memory made whole fails = tt
making_fails Unformed made whole fails = absurd cc

-- what is made, with what stands behind it
pub made_before : {A R : Type 0} (a b : A) (rest : R) → Some a ≡ Some b → ◌≡◌ {A = Option (A × R)} (Some (a, rest))
    (Some (b, rest))
made_before {A} {R} a b rest e =
    let beside : A → Option (A × R) = λ x. Some (x, rest) in
    ap (λ (o : Option A). o >>= beside) e
