-- Fronts of a text that pass a test.
use Rattle.std.proofs.Common.{◌≡◌, ℕ, zero, suc, ◌≤◌, ◌<◌, Bool, true, false, List, length, take, inl, inr}
use Rattle.std.proofs.Common.{arith}
use Rattle.std.proofs.lemmas.Bool.{false≢true, false_from_ne_true, or_cases, or_left, or_right}
use Rattle.java_lexer.specs.Fronts.{some_upto, some_front}
use Rattle.java_lexer.proofs.Bytes.{or_less}

upto_is : (is : List ℕ → Bool) (text : List ℕ) (m n : ℕ) → 0 < n → n ≤ m → is (take n text) ≡ true →
    some_upto is text m ≡ true
upto_is is text zero n some le h = absurd (omega arith)
upto_is is text (suc m) n some le h =
    elim (or_less n (suc m) (omega arith)) [
      | inl e ↦ or_left (is (take (suc m) text)) (some_upto is text m) (rw (← e) h)
      | inr less ↦ or_right (is (take (suc m) text)) (some_upto is text m) (upto_is is text m n some (omega arith) h)
    ]

upto_found : (is : List ℕ → Bool) (text : List ℕ) (m : ℕ) → some_upto is text m ≡ true → (n : ℕ) × (0 < n) × (n ≤ m)
    × (is (take n text) ≡ true)
upto_found is text zero h = absurd (false≢true h)
upto_found is text (suc m) h =
    elim (or_cases (is (take (suc m) text)) (some_upto is text m) h) [
      | inl e ↦ (suc m, omega arith, omega arith, e)
      | inr e ↦ let f = upto_found is text m e in (f.0, f.1, omega (arith, f.2), f.3)
    ]

pub front_is : (is : List ℕ → Bool) (text : List ℕ) (n : ℕ) → 0 < n → n ≤ length text → is (take n text) ≡ true →
    some_front is text ≡ true
unfolding some_front
front_is is text n some le h = upto_is is text (length text) n some le h

pub front_found : (is : List ℕ → Bool) (text : List ℕ) → some_front is text ≡ true → (n : ℕ) × (0 < n)
    × (n ≤ length text) × (is (take n text) ≡ true)
unfolding some_front
front_found is text h = upto_found is text (length text) h

pub no_front : (is : List ℕ → Bool) (text : List ℕ) →
    ((n : ℕ) → 0 < n → n ≤ length text → is (take n text) ≡ true → ⊥) → some_front is text ≡ false
no_front is text h = false_from_ne_true (some_front is text) (λ e. let f = front_found is text e in h f.0 f.1 f.2 f.3)
