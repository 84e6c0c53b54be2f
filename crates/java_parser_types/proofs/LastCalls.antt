-- What a function gives, by what the call at its end gave.
use Rattle.std.proofs.Common.{◌≡◌, ℕ, ◌≤◌, ◌<◌, Result, Ok, Err, IfOk, arith}
use Rattle.java_parser_types.specs.declared.error.ReadError.{ReadError}

-- what is at most m is at most n
pub fewer : {A : Type 0} (count : A → ℕ) (r : Result A ReadError) (m n : ℕ) → IfOk r (λ x. count x ≤ m) → m ≤ n
    → IfOk r (λ x. count x ≤ n)
fewer count (Ok x) m n h le = omega arith
fewer count (Err e) m n h le = tt

pub below : {A : Type 0} (count : A → ℕ) (r : Result A ReadError) (m n : ℕ) → IfOk r (λ x. count x ≤ m) → m < n
    → IfOk r (λ x. count x < n)
below count (Ok x) m n h lt = omega arith
below count (Err e) m n h lt = tt

pub exactly : {A : Type 0} (count : A → ℕ) (r : Result A ReadError) (m n : ℕ) → IfOk r (λ x. count x ≡ m) → m ≤ n
    → IfOk r (λ x. count x ≤ n)
exactly count (Ok x) m n h le = omega arith
exactly count (Err e) m n h le = tt
