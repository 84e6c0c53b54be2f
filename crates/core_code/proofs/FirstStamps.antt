-- Stamps before the first turn, and behind one.
use Rattle.std.proofs.Common.{◌≡◌, ℕ, zero, suc, List, ◌++◌, length, take, drop, replicate, refl, sym}
use Rattle.std.proofs.Common.{◌∙◌, ap, subst, arith}
use Rattle.std.proofs.Math.Seq.{take-append_seam}
use Rattle.core_code.specs.Stamps.{stamp_of, AreBelow}

all_none : (n k : ℕ) → stamp_of (replicate n 0) k ≡ zero
all_none zero k = refl
all_none (suc n) zero = refl
all_none (suc n) (suc k) = all_none n k

pub none_yet : (stamps : List ℕ) (n : ℕ) → stamps ≡ replicate n 0 → AreBelow stamps 1
none_yet stamps n e =
    subst (λ (made : List ℕ). AreBelow made 1) (sym e)
    (λ (k : ℕ). let none : stamp_of (replicate n 0) k ≡ 0 = all_none n k in omega arith)

-- as many stamps as there were, written over those
pub written : (old new : List ℕ) (many stamp : ℕ) → length new ≡ many → AreBelow new stamp →
    AreBelow (take many (new ++ drop (length new) old)) stamp
written old new many stamp e below =
    subst (λ (made : List ℕ). AreBelow made stamp)
    (sym (take-append_seam new (drop (length new) old))
    ∙ ap (λ (n : ℕ). take n (new ++ drop (length new) old)) e) below
