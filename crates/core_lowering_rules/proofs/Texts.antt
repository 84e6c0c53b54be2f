-- The test of two texts decides whether they are one.
use Rattle.std.proofs.Common.{◌≡◌, ℕ, List, true, bytes_eq}
use Rattle.std.proofs.lemmas.Slice.Eq.{bytes_eq-Decides}

pub bytes_is : (a b : List ℕ) → bytes_eq a b ≡ true → a ≡ b
bytes_is a b = (bytes_eq-Decides a b).0
