-- A length behind what was passed.
use Rattle.std.proofs.Common.{◌≡◌, ℕ, ◌+◌, Option, Some, None, refl, ap, arith}
use Rattle.java_lexer.specs.Scanning.{one_more}

abbrev pub later : ℕ → Option ℕ → Option ℕ
later k None = None
later k (Some n) = Some (k + n)

pub later_more : (k : ℕ) (o : Option ℕ) → later k (one_more o) ≡ later (k + 1) o
later_more k None = refl
later_more k (Some n) = ap Some (omega arith)
