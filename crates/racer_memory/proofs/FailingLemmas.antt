-- Lemmas on the calls that are to fail.
use Rattle.std.proofs.Common.{◌≡◌, ℕ, ◌≤◌, true, false, List, [], ◌∷◌, refl, arith}
use Rattle.std.proofs.lemmas.Bool.Decides.{nat_tests}
use Rattle.racer_memory.specs.Failing.{is_quiet, is_failing}

-- what is quiet stays so
pub is_quiet-later : (failing : List ℕ) (a b : ℕ) → a ≤ b → is_quiet failing a ≡ true → is_quiet failing b ≡ true
is_quiet-later [] a b h q = refl
is_quiet-later (call ∷ failing) a b h q = let ih = is_quiet-later failing a b h in grind (arith, nat_tests, ih)

-- a call that is quiet does not fail
pub is_quiet-passes : (failing : List ℕ) (call : ℕ) → is_quiet failing call ≡ true → is_failing failing call ≡ false
is_quiet-passes [] call q = refl
is_quiet-passes (number ∷ failing) call q = let ih = is_quiet-passes failing call in grind (arith, nat_tests, ih)
