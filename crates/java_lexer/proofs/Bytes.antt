-- Tests of a byte that are decided by trying each.
use Rattle.std.proofs.Common.{◌≡◌, ℕ, zero, suc, ◌<◌, Bool, true, false, ◌&&◌, not, inl, inr, ◌⊎◌, refl, arith}
use Rattle.std.proofs.Math.Nat.{eq-or-lt_of_le}
use Rattle.std.proofs.lemmas.Bool.{false≢true, and_parts}

pub or_less : (b n : ℕ) → b < suc n → (b ≡ n) ⊎ (b < n)
or_less b n h = eq-or-lt_of_le (omega arith)

abbrev pub all_below : ℕ → (ℕ → Bool) → Bool
all_below zero test = true
all_below (suc n) test = test n && all_below n test

pub each_below : (n : ℕ) (test : ℕ → Bool) → all_below n test ≡ true → (b : ℕ) → b < n → test b ≡ true
each_below zero test all b less = absurd (omega arith)
each_below (suc n) test all b less =
    elim (or_less b n less) [
      | inl e ↦ rw e (and_parts _ _ all).0
      | inr h ↦ each_below n test (and_parts _ _ all).1 b h
    ]

not_both : (x y : Bool) → not (x && y) ≡ true → x ≡ true → y ≡ false
not_both x true h e = absurd (false≢true (rw e at h))
not_both x false h e = refl

-- no ASCII byte passes both tests
pub never_both : (p q : ℕ → Bool) → all_below 128 (λ b. not (p b && q b)) ≡ true → (b : ℕ) → b < 128 → p b ≡ true →
    q b ≡ false
never_both p q all b small h = not_both (p b) (q b) (each_below 128 (λ b. not (p b && q b)) all b small) h
