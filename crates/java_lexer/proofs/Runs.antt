-- The longest run of bytes that pass a test.
use Rattle.std.proofs.Common.{◌≡◌, ℕ, zero, suc, ◌+◌, ◌≤◌, Bool, true, false, cond, List, [], ◌∷◌, length, take, refl}
use Rattle.std.proofs.Common.{arith, one-add}
use Rattle.std.specs.List.{prefix_len, list_all}
use Rattle.std.proofs.lemmas.Bool.{and_parts}

run_case : (p : ℕ → Bool) (b : ℕ) (bs : List ℕ) (v : Bool) → p b ≡ v → list_all p (take (prefix_len p bs) bs) ≡ true →
    list_all p (take (cond v (1 + prefix_len p bs) 0) (b ∷ bs)) ≡ true
run_case p b bs true e h = rw (one-add, e) h
run_case p b bs false e h = refl

pub run_passes : (p : ℕ → Bool) (bs : List ℕ) → list_all p (take (prefix_len p bs) bs) ≡ true
run_passes p [] = refl
run_passes p (b ∷ bs) = run_case p b bs (p b) refl (run_passes p bs)

pub run_longest : (p : ℕ → Bool) (bs : List ℕ) (k : ℕ) → k ≤ length bs → list_all p (take k bs) ≡ true →
    k ≤ prefix_len p bs
run_longest p [] k le h = le
run_longest p (b ∷ bs) zero le h = omega arith
run_longest p (b ∷ bs) (suc k) le h = rw (and_parts (p b) (list_all p (take k bs)) h).0
    (omega (arith, run_longest p bs k (omega arith) (and_parts (p b) (list_all p (take k bs)) h).1))
